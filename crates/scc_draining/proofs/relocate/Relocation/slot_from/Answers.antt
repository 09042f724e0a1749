use Rattle.std.proofs.Common.{◌≤◌, ◌∙◌, sym, ap, arith, length}
use Rattle.scc_array.specs.Shelves.{shelf_of}
use Rattle.scc_array.specs.Shelf.{shelf_entries}
use Rattle.scc_common.specs.Routing.{bucket_number}
use Rattle.scc_buckets.specs.Pour.{destined_for}
use Rattle.scc_draining.proofs.Stepped.{before-end, destined-skip}
use Rattle.scc_draining.proofs.relocate.Relocation.slot_from.Goals as goal

pub returns-then-bucket-self : goal.returns-then-bucket-self
returns-then-bucket-self g c =
    let hash = λ (e : g.row.E.Denot). g.H.Hashes.hash_of c.args.router.now.hasher (g.E.Keyed.key_of e) in
    let olds = c.args.old.now in
    let j = c.args.source in
    let s = c.loop-place.place in
    let hashed = c.hash-hash.ensures ∙ ap (λ k. g.H.Hashes.hash_of c.args.router.now.hasher k) c.key.ensures in
    let number = c.bucket.ensures.value ∙ ap (bucket_number c.args.router.now.skipped c.args.self.now.count) hashed in
    record { entry = c.entry_at.result.now; within = c.requires.source; here = c.entry_at.ensures; target = sym number ∙ c.if-bucket-self.true; before = c.loop-place.invariant.none }

pub loop-place-preserved : goal.loop-place-preserved
loop-place-preserved g c =
    let hash = λ (e : g.row.E.Denot). g.H.Hashes.hash_of c.args.router.now.hasher (g.E.Keyed.key_of e) in
    let olds = c.args.old.now in
    let j = c.args.source in
    let s = c.loop-place.place in
    let hashed = c.hash-hash.ensures ∙ ap (λ k. g.H.Hashes.hash_of c.args.router.now.hasher k) c.key.ensures in
    let number = c.bucket.ensures.value ∙ ap (bucket_number c.args.router.now.skipped c.args.self.now.count) hashed in
    record {
      on = omega (arith, c.loop-place.invariant.on);
      none = destined-skip olds j hash c.args.router.now.skipped c.args.self.now.count c.args.self.now.target s c.entry_at.result.now c.entry_at.ensures (λ z. c.if-bucket-self.false (number ∙ sym z)) ∙ c.loop-place.invariant.none;
    }

pub returns : goal.returns
returns g c =
    let hash = λ (e : g.row.E.Denot). g.H.Hashes.hash_of c.args.router.now.hasher (g.E.Keyed.key_of e) in
    let olds = c.args.old.now in
    let j = c.args.source in
    let s = c.loop-place.place in
    let far : length (shelf_entries (shelf_of olds j)) ≤ s = omega (arith, c.bucket_len-place-end.ensures) in
    sym c.loop-place.invariant.none ∙ ap (destined_for hash c.args.router.now.skipped c.args.self.now.count c.args.self.now.target) (before-end olds j s c.requires.source far)
