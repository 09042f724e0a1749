use Rattle.std.proofs.Common.{◌≡◌, ℕ, ◌<◌, ◌+◌, ◌∙◌, sym, ap, rules, arith, length, refl, set, length-append}
use Rattle.scc_array.specs.Shelf.{with_slot}
use Rattle.scc_array.specs.Shelves.{shelf_of}
use Rattle.scc_common.specs.Contents.{entries, hash_in}
use Rattle.scc_common.specs.Routing.{bucket_number, tag_of}
use Rattle.scc_buckets.proofs.Arrays.{shelf-at, put-is, put-own}
use Rattle.scc_buckets.proofs.Bounds.{listed-view, slots-are, slot-entry, stored-slot}
use Rattle.scc_buckets.proofs.Inserts.{inserted-table, inserted-holds, unique-inserted, table-bound}
use Rattle.scc_buckets.proofs.OneList.{put-in-list}
use Rattle.scc_buckets.proofs.Views.{entries-view, count-view, list-view, settings-view}
use Rattle.scc_buckets.proofs.Buckets.insert_with_room.Goals as goal

pub insert_reserved-slot-requires-clause-bucket : goal.insert_reserved-slot-requires-clause-bucket
insert_reserved-slot-requires-clause-bucket g c =
    let l = rw (count-view c.self.inside.buckets _ c.args.self.now c.self.view_is) at c.requires.new.within in
    search rules

pub insert_reserved-slot-requires-clause-room : goal.insert_reserved-slot-requires-clause-room
insert_reserved-slot-requires-clause-room g c =
    let bs = c.self.inside.buckets in
    let i = c.args.bucket in
    let l : i < length bs = rw (count-view bs _ c.args.self.now c.self.view_is) at c.requires.new.within in
    let b = shelf_of bs i in
    let here = ap length (list-view bs _ c.args.self.now c.self.view_is i b l (shelf-at bs i l)) in
    omega (arith, here, length-append b.slots b.overflow, c.requires.short)

pub overflow_add-self : goal.overflow_add-self
overflow_add-self g c =
    record { fits = let m = table-bound (λ e. g.H.Hashes.hash_of c.self.inside.router.hasher (g.E.Keyed.key_of e)) c.self.inside.router.skipped c.self.inside.length c.self.inside.overflowing c.self.inside.buckets c.self.invariant.table in omega arith }

pub invariant_of-self : goal.invariant_of-self
invariant_of-self g c =
    let t = c.self.inside in
    let bs = t.buckets in
    let i = c.args.bucket in
    let f : g.row.E.Denot → ℕ = λ e. g.H.Hashes.hash_of t.router.hasher (g.E.Keyed.key_of e) in
    let count = count-view bs _ c.args.self.now c.self.view_is in
    let l : i < length bs = rw count at c.requires.new.within in
    let b = shelf_of bs i in
    let at = shelf-at bs i l in
    let hashed = rw (settings-view bs _ c.args.self.now c.self.view_is, hash_in) at c.requires.new.hashed in
    let routed : i ≡ bucket_number t.router.skipped (length bs) (f c.args.entry) =
    let r = rw (settings-view bs _ c.args.self.now c.self.view_is, count) at c.requires.new.routed in r ∙ ap (bucket_number t.router.skipped (length bs)) hashed in
    let short : length b.slots < 32 = let here = ap length (list-view bs _ c.args.self.now c.self.view_is i b l at) in omega (arith, here, length-append b.slots b.overflow, c.requires.short) in
    let put = c.insert_reserved-slot.ensures.value in
    let d = shelf_of c.insert_reserved-slot.new.self i in
    let is : d ≡ with_slot b c.args.entry (tag_of (f c.args.entry)) = put-is bs i l c.insert_reserved-slot.new.self _ put ∙ ap (with_slot b c.args.entry) (c.tag.ensures ∙ ap tag_of hashed) in
    let new = stored-slot b d c.args.entry (tag_of (f c.args.entry)) short is in
    let place = sym (slot-entry b c.args.entry 0 short).1 in
    rw (put-own bs i l c.insert_reserved-slot.new.self _ put) record {
      table = inserted-table f t.router.skipped t.length t.overflowing i bs c.self.invariant.table _ c.args.self.now c.self.view_is b l at d c.args.entry (length b.slots) new place t.overflowing routed (ap (λ x. t.overflowing + length x.overflow) (sym is)) c.self.invariant.table.few;
      small_minimum = c.self.invariant.small_minimum;
      unique = let u = unique-inserted g.met.E.Key.Eq.laws g.E.Keyed.key_of c.args.entry (entries c.args.self.now) _ (rw (entries-view bs _ c.args.self.now c.self.view_is) c.self.invariant.unique) c.requires.new.absent (inserted-holds f t.router.skipped t.length t.overflowing i bs c.self.invariant.table _ c.args.self.now c.self.view_is b l at d c.args.entry (length b.slots) new place).same in rw (entries-view (set bs i d) _ _ refl) at u;
    }

pub returns-clause-inserts : goal.returns-clause-inserts
returns-clause-inserts g c =
    let t = c.self.inside in
    let bs = t.buckets in
    let i = c.args.bucket in
    let f : g.row.E.Denot → ℕ = λ e. g.H.Hashes.hash_of t.router.hasher (g.E.Keyed.key_of e) in
    let l : i < length bs = rw (count-view bs _ c.args.self.now c.self.view_is) at c.requires.new.within in
    let b = shelf_of bs i in
    let at = shelf-at bs i l in
    let hashed = rw (settings-view bs _ c.args.self.now c.self.view_is, hash_in) at c.requires.new.hashed in
    let short : length b.slots < 32 = let here = ap length (list-view bs _ c.args.self.now c.self.view_is i b l at) in omega (arith, here, length-append b.slots b.overflow, c.requires.short) in
    let put = c.insert_reserved-slot.ensures.value in
    let d = shelf_of c.insert_reserved-slot.new.self i in
    let is : d ≡ with_slot b c.args.entry (tag_of (f c.args.entry)) = put-is bs i l c.insert_reserved-slot.new.self _ put ∙ ap (with_slot b c.args.entry) (c.tag.ensures ∙ ap tag_of hashed) in
    let new = stored-slot b d c.args.entry (tag_of (f c.args.entry)) short is in
    let place = c.insert_reserved-slot.ensures.slot ∙ sym (slot-entry b c.args.entry 0 short).1 in
    rw (put-own bs i l c.insert_reserved-slot.new.self _ put) record {
      exact = put-in-list bs _ c.args.self.now c.self.view_is i b l at d c.args.entry _ c.insert_reserved-slot.result (c.self.invariant.table.own i b l at).within new place;
      last = λ bounded. c.insert_reserved-slot.ensures.slot ∙ ap length (sym (slots-are bs _ c.args.self.now c.self.view_is i b l at bounded)) ∙ ap length (sym (list-view bs _ c.args.self.now c.self.view_is i b l at));
      unique = unique-inserted g.met.E.Key.Eq.laws g.E.Keyed.key_of c.args.entry (entries c.args.self.now) _ (rw (entries-view bs _ c.args.self.now c.self.view_is) c.self.invariant.unique) c.requires.new.absent (inserted-holds f t.router.skipped t.length t.overflowing i bs c.self.invariant.table _ c.args.self.now c.self.view_is b l at d c.args.entry c.insert_reserved-slot.result new place).same;
    }

pub returns-clause-listed : goal.returns-clause-listed
returns-clause-listed g c =
    λ bounded.
    rw (settings-view c.insert_reserved-slot.new.self _ _ refl, hash_in)
    (listed-view (λ e. g.H.Hashes.hash_of c.self.inside.router.hasher (g.E.Keyed.key_of e)) _ _ c.insert_reserved-slot.new.self _ _ refl (invariant_of-self g c).table bounded)
