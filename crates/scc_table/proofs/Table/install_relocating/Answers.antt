use Rattle.std.proofs.Common.{◌≡◌, ◌∙◌, ℕ, ◌-◌, Bool, List, length, get_or, map, set, replicate, true, false, sym, ap, subst, arith, rules}
use Rattle.std.proofs.lemmas.List.{get_or-replicate, length-replicate}
use Rattle.std.specs.List.Sorted.{IsPermutation}
use Rattle.scc_array.specs.Shelf.{empty_shelf, shelf_entries}
use Rattle.scc_common.specs.Contents.{Settings, entries, owed_of, hash_in, lists_of, notes_of, settings_of, waiting_of}
use Rattle.scc_buckets.specs.Pour.{IsRegrouped}
use Rattle.scc_buckets.specs.Tables.{IsBuckets}
use Rattle.scc_buckets.proofs.Fresh.{empty-replicate}
use Rattle.scc_buckets.proofs.MakingLemmas.{flat-empty}
use Rattle.scc_table.specs.TwoArrays.{together, IsTable}
use Rattle.scc_table.proofs.arrays.OneArray.{nothing-owed}
use Rattle.scc_draining.proofs.Arriving.{same-contents, IsDistinct-nil}
use Rattle.scc_table.proofs.resizes.Exchange.{exchanged, begun, begun-bare, begun-count, begun-unique, begun-up, taken-fields, taken-less, taken-lists, taken-same}
use Rattle.scc_table.proofs.resizes.Growth.{settle-all}
use Rattle.scc_table.proofs.arrays.JoinedLists.{refused-together, waiting-together}
use Rattle.scc_table.proofs.arrays.SameParts.{hash-same}
use Rattle.scc_table.proofs.arrays.Views.{refused-seen, settings-seen, not_waiting-flags}
use Rattle.scc_table.proofs.arrays.OneBucket.{old-multiples, old-sized, unique-coming}
use Rattle.scc_table.proofs.Table.install_relocating.Goals as goal

pub install-old-requires-clause-unique : goal.install-old-requires-clause-unique
install-old-requires-clause-unique g c =
    let none = flat-empty (replicate c.args.count (empty_shelf {E = g.row.E.Denot})) (empty-replicate g.row.E.Denot c.args.count) in
    rw (c.requires.empty, none) (IsDistinct-nil g.E.Key.PartialEq.eq)

pub move_target-requires-clause-target : goal.move_target-requires-clause-target
move_target-requires-clause-target g c =
    let r = c.requires in
    let e = c.install-old.ensures in
    let x = exchanged g.met.E.Key.Eq.laws (λ (s : Settings g.row.H.Denot) (k : g.row.E-Key.Denot). g.H.Hashes.hash_of s.hasher k) c.self.invariant c.self.view_is r.not_waiting r.empty r.array r.some r.other e.lists e.settings e.spilled e.were e.table in
    let m = begun-count x in
    omega (arith, r.within, m)

pub move_target-requires-clause-bare : goal.move_target-requires-clause-bare
move_target-requires-clause-bare g c =
    let r = c.requires in
    let e = c.install-old.ensures in
    let x = exchanged g.met.E.Key.Eq.laws (λ (s : Settings g.row.H.Denot) (k : g.row.E-Key.Denot). g.H.Hashes.hash_of s.hasher k) c.self.invariant c.self.view_is r.not_waiting r.empty r.array r.some r.other e.lists e.settings e.spilled e.were e.table in
    (begun x).arrays.bare c.args.bucket (begun-up x r.within)

pub move_target-requires-clause-sized : goal.move_target-requires-clause-sized
move_target-requires-clause-sized g c =
    let r = c.requires in
    let e = c.install-old.ensures in
    let x = exchanged g.met.E.Key.Eq.laws (λ (s : Settings g.row.H.Denot) (k : g.row.E-Key.Denot). g.H.Hashes.hash_of s.hasher k) c.self.invariant c.self.view_is r.not_waiting r.empty r.array r.some r.other e.lists e.settings e.spilled e.were e.table in
    old-sized (begun x) _ (begun-up x r.within)

pub move_target-requires-clause-multiples : goal.move_target-requires-clause-multiples
move_target-requires-clause-multiples g c =
    let r = c.requires in
    let e = c.install-old.ensures in
    let x = exchanged g.met.E.Key.Eq.laws (λ (s : Settings g.row.H.Denot) (k : g.row.E-Key.Denot). g.H.Hashes.hash_of s.hasher k) c.self.invariant c.self.view_is r.not_waiting r.empty r.array r.some r.other e.lists e.settings e.spilled e.were e.table in
    old-multiples (begun x) _ (begun-up x r.within)

pub move_target-requires-clause-own : goal.move_target-requires-clause-own
move_target-requires-clause-own g c =
    let r = c.requires in
    let e = c.install-old.ensures in
    let x = exchanged g.met.E.Key.Eq.laws (λ (s : Settings g.row.H.Denot) (k : g.row.E-Key.Denot). g.H.Hashes.hash_of s.hasher k) c.self.invariant c.self.view_is r.not_waiting r.empty r.array r.some r.other e.lists e.settings e.spilled e.were e.table in
    let s = begun x in
    s.arrays.own

pub move_target-requires-clause-unique : goal.move_target-requires-clause-unique
move_target-requires-clause-unique g c =
    let r = c.requires in
    let e = c.install-old.ensures in
    let x = exchanged g.met.E.Key.Eq.laws (λ (s : Settings g.row.H.Denot) (k : g.row.E-Key.Denot). g.H.Hashes.hash_of s.hasher k) c.self.invariant c.self.view_is r.not_waiting r.empty r.array r.some r.other e.lists e.settings e.spilled e.were e.table in
    unique-coming (begun x) _ (begun-up x r.within)

pub begin-requires : goal.begin-requires
begin-requires g c =
    let t = c.self.inside in
    let none = not_waiting-flags c.args.self.now c.self.invariant c.self.view_is c.requires.not_waiting in
    nothing-owed _ t.current t.draining.waiting.items t.draining.array none c.self.invariant.arrays

pub overflow_sub-left : goal.overflow_sub-left
overflow_sub-left g c =
    let r = c.requires in
    let e = c.install-old.ensures in
    let x = exchanged g.met.E.Key.Eq.laws (λ (s : Settings g.row.H.Denot) (k : g.row.E-Key.Denot). g.H.Hashes.hash_of s.hasher k) c.self.invariant c.self.view_is r.not_waiting r.empty r.array r.some r.other e.lists e.settings e.spilled e.were e.table in
    let down : set c.args.flags.items c.args.bucket false ≡ set (replicate c.args.count true) c.args.bucket false = ap (λ w. set w c.args.bucket false) r.flags in
    taken-less x r.within c.in-Ok.ensures.ok down

pub invariant_of-self : goal.invariant_of-self
invariant_of-self g c =
    let r = c.requires in
    let e = c.install-old.ensures in
    let x = exchanged g.met.E.Key.Eq.laws (λ (s : Settings g.row.H.Denot) (k : g.row.E-Key.Denot). g.H.Hashes.hash_of s.hasher k) c.self.invariant c.self.view_is r.not_waiting r.empty r.array r.some r.other e.lists e.settings e.spilled e.were e.table in
    let takes = c.in-Ok.ensures.ok in
    let later = hash-same g.H.Hashes.hash_of c.install-old.new.self c.move_target.new.current takes.settings in
    let down : set c.args.flags.items c.args.bucket false ≡ set (replicate c.args.count true) c.args.bucket false = ap (λ w. set w c.args.bucket false) r.flags in
    rw c.begin.ensures (subst (λ (h : g.row.E-Key.Denot → ℕ). IsTable g.E.Key.PartialEq.eq g.E.Keyed.key_of h c.move_target.new.current (record { array = c.move_target.new.old; waiting = set c.args.flags.items c.args.bucket false; pending = c.args.count - 1; next = 0; left = c.install-old.result.1 - c.in-Ok.moved; left_overflow = c.install-old.result.2 })) (sym later) (taken-fields x r.within takes down c.in-Ok.ensures.few))

pub returns-in-Ok : goal.returns-in-Ok
returns-in-Ok g c =
    let r = c.requires in
    let e = c.install-old.ensures in
    let x = exchanged g.met.E.Key.Eq.laws (λ (s : Settings g.row.H.Denot) (k : g.row.E-Key.Denot). g.H.Hashes.hash_of s.hasher k) c.self.invariant c.self.view_is r.not_waiting r.empty r.array r.some r.other e.lists e.settings e.spilled e.were e.table in
    let takes = c.in-Ok.ensures.ok in
    let later = hash-same g.H.Hashes.hash_of c.install-old.new.self c.move_target.new.current takes.settings in
    let down : set c.args.flags.items c.args.bucket false ≡ set (replicate c.args.count true) c.args.bucket false = ap (λ w. set w c.args.bucket false) r.flags in
    let a = c.args.self.now in
    let n = c.args.count in
    let key = g.E.Keyed.key_of in
    let d = c.move_target.new.current in
    let news = c.move_target.new.old in
    let vs = set c.args.flags.items c.args.bucket false in
    record {
      lists = (
          let outer = hash-same g.H.Hashes.hash_of c.install-old.new.self a (settings-seen _ _ _ _ a c.self.view_is ∙ sym e.settings) in
          let there = subst (λ (h : g.row.E-Key.Denot → ℕ). IsRegrouped (λ z. hash_in g.H.Hashes.hash_of c.install-old.new.self (key z)) n a (together (λ z. h (key z)) d vs news)) (sym later) (taken-lists x r.within takes down) in
          rw c.begin.ensures (subst (λ (h : g.row.E-Key.Denot → ℕ). IsRegrouped (λ z. h (key z)) n a (together (λ z. hash_in g.H.Hashes.hash_of d (key z)) d vs news)) (sym outer) there));
      same = (rw c.begin.ensures (subst (λ (h : g.row.E-Key.Denot → ℕ). IsPermutation (entries a) (entries (together (λ z. h (key z)) d vs news))) (sym later) (taken-same x r.within takes down)));
      waiting = (rw c.begin.ensures (waiting-together _ d vs news ∙ down ∙ sym (settle-all n c.args.bucket r.array.least r.within)));
      noted = (rw c.begin.ensures (refused-together _ d vs news ∙ takes.refused ∙ e.noted ∙ sym (refused-seen _ _ _ _ a c.self.view_is)));
      err = (search rules);
      unique = (rw c.begin.ensures (subst (λ (h : g.row.E-Key.Denot → ℕ). IsTable g.E.Key.PartialEq.eq g.E.Keyed.key_of h c.move_target.new.current (record { array = c.move_target.new.old; waiting = set c.args.flags.items c.args.bucket false; pending = c.args.count - 1; next = 0; left = c.install-old.result.1 - c.in-Ok.moved; left_overflow = c.install-old.result.2 })) (sym later) (taken-fields x r.within takes down c.in-Ok.ensures.few)).unique);
    }

pub install-bare-requires-clause-table : goal.install-bare-requires-clause-table
install-bare-requires-clause-table g c =
    let r = c.requires in
    let e = c.install-old.ensures in
    let x = exchanged g.met.E.Key.Eq.laws (λ (s : Settings g.row.H.Denot) (k : g.row.E-Key.Denot). g.H.Hashes.hash_of s.hasher k) c.self.invariant c.self.view_is r.not_waiting r.empty r.array r.some r.other e.lists e.settings e.spilled e.were e.table in
    rw (c.in-Err.ensures.err, c.in-Err.ensures.stays) (subst (λ s. IsBuckets (λ z. hash_in g.H.Hashes.hash_of c.install-old.new.self (g.E.Keyed.key_of z)) s.skipped c.install-old.result.0 c.install-old.result.1 c.install-old.result.2) (sym x.settings) x.table)

pub install-bare-requires-clause-unique : goal.install-bare-requires-clause-unique
install-bare-requires-clause-unique g c =
    let r = c.requires in
    let e = c.install-old.ensures in
    let x = exchanged g.met.E.Key.Eq.laws (λ (s : Settings g.row.H.Denot) (k : g.row.E-Key.Denot). g.H.Hashes.hash_of s.hasher k) c.self.invariant c.self.view_is r.not_waiting r.empty r.array r.some r.other e.lists e.settings e.spilled e.were e.table in
    rw c.in-Err.ensures.stays (begun-unique x)

pub destroy_empty-requires : goal.destroy_empty-requires
destroy_empty-requires g c =
    let r = c.requires in
    let e = c.install-old.ensures in
    let x = exchanged g.met.E.Key.Eq.laws (λ (s : Settings g.row.H.Denot) (k : g.row.E-Key.Denot). g.H.Hashes.hash_of s.hasher k) c.self.invariant c.self.view_is r.not_waiting r.empty r.array r.some r.other e.lists e.settings e.spilled e.were e.table in
    λ i l. begun-bare x c.install-bare.result.0 (ap lists_of (sym c.in-Err.ensures.err) ∙ c.install-bare.ensures.were) i l

pub invariant_of-self-in-Err-1 : goal.invariant_of-self-in-Err-1
invariant_of-self-in-Err-1 g c =
    let t = c.self.inside in
    let cur = t.current in
    let x = c.install-old.ensures in
    let e = c.install-bare.new.self in
    let y = c.install-bare.ensures in
    let back = c.in-Err.ensures.err in
    let whole : e ≡ cur = same-contents cur e (y.lists ∙ ap (map shelf_entries) c.in-Err.ensures.stays ∙ sym x.were) (y.settings ∙ ap settings_of back ∙ x.settings) (y.noted ∙ ap notes_of back ∙ x.noted) (y.spilled ∙ x.overflowing) (y.waiting ∙ ap waiting_of back ∙ x.waiting) (y.owed ∙ ap owed_of back ∙ x.owed) in
    rw whole c.self.invariant

pub returns-in-Err : goal.returns-in-Err
returns-in-Err g c =
    let t = c.self.inside in
    let cur = t.current in
    let x = c.install-old.ensures in
    let r = c.requires in
    let e = c.install-bare.new.self in
    let y = c.install-bare.ensures in
    let back = c.in-Err.ensures.err in
    let whole : e ≡ cur = same-contents cur e (y.lists ∙ ap (map shelf_entries) c.in-Err.ensures.stays ∙ sym x.were) (y.settings ∙ ap settings_of back ∙ x.settings) (y.noted ∙ ap notes_of back ∙ x.noted) (y.spilled ∙ x.overflowing) (y.waiting ∙ ap waiting_of back ∙ x.waiting) (y.owed ∙ ap owed_of back ∙ x.owed) in
    record {
      lists = (search rules);
      same = (search rules);
      waiting = (search rules);
      noted = (search rules);
      err = (rw whole c.self.view_is);
      unique = (rw whole c.self.invariant.unique);
    }

pub move_target-requires-clause-flags : goal.move_target-requires-clause-flags
move_target-requires-clause-flags g c =
    let r = c.requires in
    let e = c.install-old.ensures in
    let x = exchanged g.met.E.Key.Eq.laws (λ (s : Settings g.row.H.Denot) (k : g.row.E-Key.Denot). g.H.Hashes.hash_of s.hasher k) c.self.invariant c.self.view_is r.not_waiting r.empty r.array r.some r.other e.lists e.settings e.spilled e.were e.table in
    ap length (c.as_slice.ensures.value ∙ r.flags) ∙ length-replicate c.args.count true ∙ sym (begun-count x)

pub move_target-requires-clause-not_waiting : goal.move_target-requires-clause-not_waiting
move_target-requires-clause-not_waiting g c =
    let r = c.requires in
    let e = c.install-old.ensures in
    let x = exchanged g.met.E.Key.Eq.laws (λ (s : Settings g.row.H.Denot) (k : g.row.E-Key.Denot). g.H.Hashes.hash_of s.hasher k) c.self.invariant c.self.view_is r.not_waiting r.empty r.array r.some r.other e.lists e.settings e.spilled e.were e.table in
    let m = begun-count x in
    λ i l low.
    let up : get_or c.as_slice.result.now i false ≡ true = ap (λ (w : List Bool). get_or w i false) (c.as_slice.ensures.value ∙ r.flags) ∙ get_or-replicate c.args.count i true false (omega (arith, l, m)) in
    absurd (let z : true ≡ false = sym up ∙ low in cc)
