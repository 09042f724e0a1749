use Rattle.std.proofs.Common.{◌<◌, ◌+◌, ◌∙◌, sym, ap, arith, length, take, length-take}
use Rattle.scc_array.specs.Shelves.{shelf_of}
use Rattle.scc_array.specs.Shelf.{shelf_entries}
use Rattle.scc_common.specs.Routing.{bucket_number}
use Rattle.scc_draining.proofs.Counted.{destined-le, counts-one, counts-none}
use Rattle.scc_draining.proofs.relocate.Relocation.count_in.Goals as goal
use Rattle.scc_draining.proofs.relocate.Relocation.count_in.Goals.{then-bucket-self, else-bucket-self}

pub overflow_add-found : goal.overflow_add-found
overflow_add-found g c =
    let hash = λ (e : g.row.E.Denot). g.H.Hashes.hash_of c.args.router.now.hasher (g.E.Keyed.key_of e) in
    let es = shelf_entries (shelf_of c.args.old.now c.args.source) in
    let m = destined-le hash c.args.router.now.skipped c.args.self.now.count c.args.self.now.target (take c.loop-slot.slot es) in
    let n = length-take c.loop-slot.slot es in
    omega (arith, c.loop-slot.invariant, c.bucket_len-entry_count.ensures, c.requires.few)

pub loop-slot-preserved : goal.loop-slot-preserved
loop-slot-preserved g c =
    let hash = λ (e : g.row.E.Denot). g.H.Hashes.hash_of c.args.router.now.hasher (g.E.Keyed.key_of e) in
    let es = shelf_entries (shelf_of c.args.old.now c.args.source) in
    let l : c.loop-slot.slot < length es = omega (arith, c.bucket_len-entry_count.ensures) in
    let hashed = c.hash-hash.ensures ∙ ap (λ k. g.H.Hashes.hash_of c.args.router.now.hasher k) c.key.ensures in
    let number = c.bucket.ensures.value ∙ ap (bucket_number c.args.router.now.skipped c.args.self.now.count) hashed in
    elim c.if-bucket-self.branch [
      | then-bucket-self w ↦
          let one = counts-one hash c.args.router.now.skipped c.args.self.now.count c.args.self.now.target c.loop-slot.slot es c.entry_at.result.now l c.entry_at.ensures (sym w.if-bucket-self.true ∙ number) in
          w.found-is ∙ ap (λ n. n + 1) c.loop-slot.invariant ∙ sym one
      | else-bucket-self w ↦
          let none = counts-none hash c.args.router.now.skipped c.args.self.now.count c.args.self.now.target c.loop-slot.slot es c.entry_at.result.now l c.entry_at.ensures (λ z. w.if-bucket-self.false (number ∙ sym z)) in
          w.found-is ∙ c.loop-slot.invariant ∙ sym none
    ]
