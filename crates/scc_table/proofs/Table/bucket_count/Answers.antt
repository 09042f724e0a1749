use Rattle.std.proofs.Common.{sym, ap, ◌∙◌}
use Rattle.scc_common.specs.Contents.{bucket_count}
use Rattle.scc_table.proofs.arrays.JoinedLists.{count-together}
use Rattle.scc_table.proofs.arrays.OneBucket.{routed-seen}
use Rattle.scc_table.proofs.Table.bucket_count.Goals as goal

pub returns-clause-count : goal.returns-clause-count
returns-clause-count g c =
    c.bucket_count.ensures.count ∙ sym (count-together _ c.self.inside.current c.self.inside.draining.waiting.items c.self.inside.draining.array c.self.invariant.arrays.flags) ∙ ap bucket_count c.self.view_is

pub returns-clause-routed : goal.returns-clause-routed
returns-clause-routed g c = routed-seen g.H.Hashes.hash_of g.E.Keyed.key_of c.self.invariant c.self.view_is c.bucket_count.ensures.routed
