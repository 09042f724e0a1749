use Rattle.std.proofs.Common.{◌∙◌, ◌-◌, ◌<◌, length, ap, arith}
use Rattle.scc_array.specs.Shelves.{shelf_of}
use Rattle.scc_array.specs.Shelf.{shelf_entries}
use Rattle.scc_common.specs.Contents.{hash_in, settings_of}
use Rattle.scc_common.specs.Routing.{bucket_number}
use Rattle.scc_draining.proofs.FromBuckets.{few-entries}
use Rattle.scc_table.proofs.places.NextPlaces.{slot-below}
use Rattle.scc_table.proofs.places.Targets.{target-old, target-own}
use Rattle.scc_table.proofs.arrays.OneBucket.{old-here, own-here}
use Rattle.scc_table.proofs.Table.target_of.Goals as goal

pub returns-then-place-count-clause-value : goal.returns-then-place-count-clause-value
returns-then-place-count-clause-value g c = (target-own c.self.invariant c.self.view_is c.args.place c.requires c.bucket_count-count.ensures.count (omega arith)).value

pub returns-then-place-count-clause-next : goal.returns-then-place-count-clause-next
returns-then-place-count-clause-next g c = (target-own c.self.invariant c.self.view_is c.args.place c.requires c.bucket_count-count.ensures.count (omega arith)).next.start

pub returns-then-place-count-clause-index : goal.returns-then-place-count-clause-index
returns-then-place-count-clause-index g c = (target-own c.self.invariant c.self.view_is c.args.place c.requires c.bucket_count-count.ensures.count (omega arith)).next.index

pub returns-then-place-count-clause-within : goal.returns-then-place-count-clause-within
returns-then-place-count-clause-within g c = (target-own c.self.invariant c.self.view_is c.args.place c.requires c.bucket_count-count.ensures.count (omega arith)).within

pub returns-then-place-count-clause-small : goal.returns-then-place-count-clause-small
returns-then-place-count-clause-small g c =
    let t = c.self.inside in
    let cur = t.current in
    let inv = c.self.invariant in
    let p = c.args.place in
    let at = own-here c.self.invariant c.args.place c.self.view_is c.requires (omega (arith, c.bucket_count-count.ensures.count)) in
    let l = slot-below cur p at.0 in
    omega (arith, c.bucket_count-count.ensures.few, c.bucket_count-count.ensures.most, c.bucket_count-count.ensures.count, inv.few)

pub entry_at-entry-requires-clause-bucket : goal.entry_at-entry-requires-clause-bucket
entry_at-entry-requires-clause-bucket g c =
    let at = old-here c.self.invariant c.args.place c.self.view_is c.requires c.bucket_count-count.result c.bucket_count-count.ensures.count c.if-place-count.false in
    at.1

pub entry_at-entry-requires-clause-slot : goal.entry_at-entry-requires-clause-slot
entry_at-entry-requires-clause-slot g c =
    let at = old-here c.self.invariant c.args.place c.self.view_is c.requires c.bucket_count-count.result c.bucket_count-count.ensures.count c.if-place-count.false in
    at.2

pub returns-clause-value : goal.returns-clause-value
returns-clause-value g c =
    (target-old c.self.invariant c.self.view_is c.args.place c.requires c.bucket_count-count.ensures.count c.if-place-count.false c.entry_at-entry.result.now c.entry_at-entry.ensures (
    rw c.router-router.ensures at c.bucket.ensures.value ∙ ap (bucket_number (settings_of c.self.inside.current).skipped c.bucket_count-count.result) (rw c.router-router.ensures at c.hash.ensures ∙ ap (λ k. hash_in g.H.Hashes.hash_of c.self.inside.current k) c.key.ensures))).value

pub returns-clause-next : goal.returns-clause-next
returns-clause-next g c =
    (target-old c.self.invariant c.self.view_is c.args.place c.requires c.bucket_count-count.ensures.count c.if-place-count.false c.entry_at-entry.result.now c.entry_at-entry.ensures (
    rw c.router-router.ensures at c.bucket.ensures.value ∙ ap (bucket_number (settings_of c.self.inside.current).skipped c.bucket_count-count.result) (rw c.router-router.ensures at c.hash.ensures ∙ ap (λ k. hash_in g.H.Hashes.hash_of c.self.inside.current k) c.key.ensures))).next.start

pub returns-clause-index : goal.returns-clause-index
returns-clause-index g c =
    (target-old c.self.invariant c.self.view_is c.args.place c.requires c.bucket_count-count.ensures.count c.if-place-count.false c.entry_at-entry.result.now c.entry_at-entry.ensures (
    rw c.router-router.ensures at c.bucket.ensures.value ∙ ap (bucket_number (settings_of c.self.inside.current).skipped c.bucket_count-count.result) (rw c.router-router.ensures at c.hash.ensures ∙ ap (λ k. hash_in g.H.Hashes.hash_of c.self.inside.current k) c.key.ensures))).next.index

pub returns-clause-within : goal.returns-clause-within
returns-clause-within g c =
    (target-old c.self.invariant c.self.view_is c.args.place c.requires c.bucket_count-count.ensures.count c.if-place-count.false c.entry_at-entry.result.now c.entry_at-entry.ensures (
    rw c.router-router.ensures at c.bucket.ensures.value ∙ ap (bucket_number (settings_of c.self.inside.current).skipped c.bucket_count-count.result) (rw c.router-router.ensures at c.hash.ensures ∙ ap (λ k. hash_in g.H.Hashes.hash_of c.self.inside.current k) c.key.ensures))).within

pub returns-clause-small : goal.returns-clause-small
returns-clause-small g c =
    let t = c.self.inside in
    let cur = t.current in
    let olds = t.draining.array in
    let inv = c.self.invariant in
    let hk = hash_in g.H.Hashes.hash_of cur in
    let hash = λ (e : g.row.E.Denot). hk (g.E.Keyed.key_of e) in
    let p = c.args.place in
    let at = old-here c.self.invariant c.args.place c.self.view_is c.requires c.bucket_count-count.result c.bucket_count-count.ensures.count c.if-place-count.false in
    let l = few-entries hash (settings_of cur).skipped olds t.draining.left_overflow inv.arrays.own inv.overflow_is (omega (arith, inv.few)) (p.bucket - c.bucket_count-count.result) in
    let m : p.slot < length (shelf_entries (shelf_of olds (p.bucket - c.bucket_count-count.result))) = at.2 in omega arith
