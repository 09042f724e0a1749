use Rattle.std.proofs.Common.{arith, rules}
use Rattle.scc_table.specs.TwoArrays.{pending_targets}
use Rattle.scc_table.proofs.insertions.Places.{relocated-left}
use Rattle.scc_table.proofs.arrays.SameParts.{hash-same}
use Rattle.scc_table.proofs.relocations.ShortLists.{puts-from}
use Rattle.scc_table.proofs.insertions.CurrentArray.{new-same}
use Rattle.scc_table.proofs.Table.put_after_relocation.Goals as goal

pub unreachable-requires : goal.unreachable-requires
unreachable-requires g c = let s = c.requires.listed.short c.args.bucket in omega (arith, c.in-Err.ensures.refused)

pub put_then_relocate-requires-clause-new : goal.put_then_relocate-requires-clause-new
put_then_relocate-requires-clause-new g c = new-same c.args.self.now c.relocate.new.self c.in-Ok.ensures.ok.lists c.in-Ok.ensures.ok.settings (hash-same g.H.Hashes.hash_of c.args.self.now c.relocate.new.self c.in-Ok.ensures.ok.settings) c.requires.new

pub returns : goal.returns
returns g c =
    record {
      step = (
          let r = c.in-Ok.ensures.ok in
          puts-from c.args.self.now c.relocate.new.self r.lists r.settings r.refused c.put_then_relocate.new.self c.args.bucket c.args.entry c.put_then_relocate.result.0 c.put_then_relocate.ensures.step);
      slot = (search rules);
      listed = (search rules);
      not_waiting = (search rules);
      exact = (relocated-left c.args.bucket c.args.self.now c.relocate.new.self c.in-Ok.ensures.ok (pending_targets c.put_then_relocate.new.self) c.put_then_relocate.ensures.exact);
      count = (
          let n = c.in-Ok.ensures.ok.pending in
          λ enough. let z = c.put_then_relocate.ensures.count (omega arith) in omega arith);
      unique = (search rules);
    }
