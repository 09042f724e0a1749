use Rattle.scc_common.specs.Contents.{entries}
use Rattle.scc_buckets.proofs.Lookups.{find-position_none}
use Rattle.scc_owned.proofs.stored.RuledVersionStored.insert_into.Goals as goal

pub insert_new-requires-clause-absent : goal.insert_new-requires-clause-absent
insert_new-requires-clause-absent g c = find-position_none (g.K.PartialEq.eq c.args.key) (entries c.args.owned.now) c.requires.absent
