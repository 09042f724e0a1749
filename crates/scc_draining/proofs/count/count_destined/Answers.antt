use Rattle.std.proofs.Common.{◌<◌, ◌+◌, ◌∙◌, sym, ap, arith, length, take, length-take}
use Rattle.scc_common.specs.Contents.{hash_in, list_of, settings_of}
use Rattle.scc_common.specs.Routing.{bucket_number}
use Rattle.scc_draining.proofs.Counted.{destined-le, counts-one, counts-none}
use Rattle.scc_draining.proofs.count.count_destined.Goals as goal
use Rattle.scc_draining.proofs.count.count_destined.Goals.{then-bucket-target, else-bucket-target}

pub overflow_add-found : goal.overflow_add-found
overflow_add-found g c =
    let hash = λ (e : g.row.E.Denot). hash_in g.H.Hashes.hash_of c.args.table.now (g.E.Keyed.key_of e) in
    let es = list_of c.args.table.now c.args.bucket in
    let m = destined-le hash (settings_of c.args.table.now).skipped c.args.count c.args.target (take c.loop-slot.slot es) in
    let n = length-take c.loop-slot.slot es in
    omega (arith, c.loop-slot.invariant, c.requires.first)

pub loop-slot-preserved : goal.loop-slot-preserved
loop-slot-preserved g c =
    let a = c.args.table.now in
    let hash = λ (e : g.row.E.Denot). hash_in g.H.Hashes.hash_of a (g.E.Keyed.key_of e) in
    let es = list_of a c.args.bucket in
    let l : c.loop-slot.slot < length es = omega (arith, c.requires.first) in
    let hashed = c.hash-hash.ensures ∙ ap (λ k. hash_in g.H.Hashes.hash_of a k) c.key.ensures in
    let number = rw c.router.ensures at c.bucket.ensures.value ∙ ap (bucket_number (settings_of c.args.table.now).skipped c.args.count) hashed in
    elim c.if-bucket-target.branch [
      | then-bucket-target w ↦
          let one = counts-one hash (settings_of c.args.table.now).skipped c.args.count c.args.target c.loop-slot.slot es c.entry_in.result.now l c.entry_in.ensures (sym w.if-bucket-target.true ∙ number) in
          w.found-is ∙ ap (λ n. n + 1) c.loop-slot.invariant ∙ sym one
      | else-bucket-target w ↦
          let none = counts-none hash (settings_of c.args.table.now).skipped c.args.count c.args.target c.loop-slot.slot es c.entry_in.result.now l c.entry_in.ensures (λ z. w.if-bucket-target.false (number ∙ sym z)) in
          w.found-is ∙ c.loop-slot.invariant ∙ sym none
    ]
