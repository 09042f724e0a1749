use Rattle.std.proofs.Common.{arith}
use Rattle.std.specs.List.{flat_map}
use Rattle.scc_array.specs.Shelf.{shelf_entries}
use Rattle.scc_common.specs.Contents.{bucket_count, hash_in, settings_of}
use Rattle.scc_draining.proofs.Counted.{destined-le}
use Rattle.scc_draining.proofs.Others.{bare-last}
use Rattle.scc_draining.proofs.draining.Draining.relocate.Goals as goal

pub stop_waiting-requires-clause-moved : goal.stop_waiting-requires-clause-moved
stop_waiting-requires-clause-moved g c =
    let cur = c.args.current.now in
    let hash = λ (e : g.row.E.Denot). hash_in g.H.Hashes.hash_of cur (g.E.Keyed.key_of e) in
    let most = destined-le hash (settings_of cur).skipped (bucket_count cur) c.args.bucket (flat_map shelf_entries c.args.self.now.array) in
    omega (arith, c.in-Ok.ensures.ok.moved, most, c.requires.left)

pub stop_waiting-requires-clause-bare : goal.stop_waiting-requires-clause-bare
stop_waiting-requires-clause-bare g c =
    let cur = c.args.current.now in
    let o = c.args.self.now in
    let hash = λ (e : g.row.E.Denot). hash_in g.H.Hashes.hash_of cur (g.E.Keyed.key_of e) in
    bare-last hash c.args.bucket c.in-Ok.moved cur c.move_target.new.current o.waiting.items o.array c.move_target.new.old c.in-Ok.ensures.ok c.requires.not_waiting
