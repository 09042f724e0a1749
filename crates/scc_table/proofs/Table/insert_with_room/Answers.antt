use Rattle.std.proofs.Common.{◌≡◌, ◌∙◌, ◌<◌, ◌+◌, ◌^◌, ℕ, length, map, refl, sym, ap, subst, arith, Ok}
use Rattle.std.specs.List.{IsDistinct}
use Rattle.scc_common.specs.Contents.{entries, hash_in, list_of, overflow_of, pending_of, waiting_of}
use Rattle.scc_buckets.specs.OneList.{IsPutIn}
use Rattle.scc_draining.specs.Drainings.{draining_of}
use Rattle.scc_table.specs.TwoArrays.{IsTable, pending_targets, together}
use Rattle.scc_table.proofs.arrays.JoinedLists.{waiting-together}
use Rattle.scc_table.proofs.arrays.NoneWaits.{not_waiting-all}
use Rattle.scc_table.proofs.places.OldSpots.{own-list}
use Rattle.scc_table.proofs.arrays.OneBucket.{flag-down, within-own}
use Rattle.scc_table.proofs.insertions.Places.{moved-nothing, none-left, placed-at, placed-count, placed-down, placed-fewer}
use Rattle.scc_table.proofs.insertions.CurrentArray.{fields-put, put-together, unique-answered, new-own}
use Rattle.scc_table.proofs.arrays.SameParts.{hash-same, pending-same}
use Rattle.scc_table.proofs.relocations.Targets.{targets-same}
use Rattle.scc_table.proofs.arrays.Views.{settings-seen, waiting-seen}
use Rattle.scc_table.proofs.Table.insert_with_room.Goals as goal

pub insert_with_room-requires-clause-new : goal.insert_with_room-requires-clause-new
insert_with_room-requires-clause-new g c =
    let t = c.self.inside in
    let hash = λ (e : g.row.E.Denot). hash_in g.H.Hashes.hash_of t.current (g.E.Keyed.key_of e) in
    let settings = settings-seen hash t.current t.draining.waiting.items t.draining.array c.args.self.now c.self.view_is in
    new-own c.self.invariant c.self.view_is (hash-same g.H.Hashes.hash_of t.current c.args.self.now settings) c.requires.new

pub insert_with_room-requires-clause-short : goal.insert_with_room-requires-clause-short
insert_with_room-requires-clause-short g c =
    let t = c.self.inside in
    let cur = t.current in
    let hk = hash_in g.H.Hashes.hash_of cur in
    let hash = λ (e : g.row.E.Denot). hk (g.E.Keyed.key_of e) in
    let i = c.args.bucket in
    let within = within-own c.self.invariant c.self.view_is c.requires.new.within in
    let down = flag-down c.self.invariant i c.self.view_is (not_waiting-all c.args.self.now c.requires.none i) in
    let own = ap length (sym (own-list hash cur t.draining.waiting.items t.draining.array c.self.invariant.arrays i within down)) ∙ ap (λ d. length (list_of d i)) c.self.view_is in
    omega (arith, own, c.requires.short)

pub invariant_of-self : goal.invariant_of-self
invariant_of-self g c =
    let t = c.self.inside in
    let cur = t.current in
    let i = c.args.bucket in
    let inv = c.self.invariant in
    let hk = hash_in g.H.Hashes.hash_of cur in
    let within = within-own inv c.self.view_is c.requires.new.within in
    let down = flag-down inv i c.self.view_is (not_waiting-all c.args.self.now c.requires.none i) in
    let new = c.insert_with_room.new.self in
    let put = c.insert_with_room.ensures.inserts.exact in
    let inner = hash-same g.H.Hashes.hash_of cur new put.settings in
    let own = ap length (sym (own-list (λ e. hk (g.E.Keyed.key_of e)) cur t.draining.waiting.items t.draining.array inv.arrays i within down)) ∙ ap (λ d. length (list_of d i)) c.self.view_is in
    let left : overflow_of new + t.draining.left_overflow < 2 ^ 62 = let s = put.short (omega (arith, own, c.requires.short)) in omega (arith, inv.few) in
    subst (λ (h : g.row.E-Key.Denot → ℕ). IsTable g.E.Key.PartialEq.eq g.E.Keyed.key_of h new (draining_of t.draining)) (sym inner)
    (fields-put g.E.Key.PartialEq.eq g.met.E.Key.Eq.laws g.E.Keyed.key_of hk cur (draining_of t.draining) inv c.args.self.now c.self.view_is c.args.entry i new c.insert_with_room.result put within down left c.requires.new.absent)

pub returns : goal.returns
returns g c =
    let t = c.self.inside in
    let cur = t.current in
    let ws = t.draining.waiting.items in
    let olds = t.draining.array in
    let i = c.args.bucket in
    let inv = c.self.invariant in
    let a = c.args.self.now in
    let view = c.self.view_is in
    let key = g.E.Keyed.key_of in
    let hk = hash_in g.H.Hashes.hash_of cur in
    let within = within-own inv view c.requires.new.within in
    let free = not_waiting-all a c.requires.none i in
    let down = flag-down inv i view free in
    let new = c.insert_with_room.new.self in
    let p = c.insert_with_room.result in
    let own = c.insert_with_room.ensures.inserts.exact in
    let inner = hash-same g.H.Hashes.hash_of cur new own.settings in
    let m = together (λ (e : g.row.E.Denot). hash_in g.H.Hashes.hash_of new (key e)) new ws olds in
    let put : IsPutIn a i c.args.entry m p = subst (λ (h : g.row.E-Key.Denot → ℕ). IsPutIn a i c.args.entry (together (λ e. h (key e)) new ws olds) p) (sym inner) (put-together key hk cur ws olds inv.arrays a view c.args.entry i new p own within down) in
    let waiting : waiting_of m ≡ waiting_of a = waiting-together _ new ws olds ∙ sym (waiting-seen _ cur ws olds a view) in
    let same : pending_of m ≡ pending_of a = pending-same a m waiting in
    let left : pending_of m ≡ 0 = same ∙ c.requires.none in
    record {
      ok = placed-at a i c.args.entry m p put c.requires.new.within free waiting m refl refl (λ k up. up);
      err = tt;
      full = tt;
      buckets = placed-count a i c.args.entry m p put c.requires.new.within free waiting m refl refl (λ k up. up);
      refused = put.refused;
      fewer = placed-fewer a i c.args.entry m p put c.requires.new.within free waiting m refl refl (λ k up. up);
      less = omega (arith, same);
      most = omega (arith, same);
      not_waiting = placed-down a i c.args.entry m p put c.requires.new.within free waiting m refl refl (λ k up. up);
      moved = moved-nothing i a m c.requires.none left;
      exact = λ short. none-left i a (pending_targets m) c.requires.none (targets-same a m waiting);
      unique = subst (λ (h : g.row.E-Key.Denot → ℕ). IsDistinct g.E.Key.PartialEq.eq (map key (entries (together (λ e. h (key e)) new ws olds)))) (sym inner) (unique-answered {X = g.row.E.Denot} g.met.E.Key.Eq.laws inv view c.args.entry i new (Ok p) own tt within down c.requires.new.absent);
    }
