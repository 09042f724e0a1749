use Rattle.scc_common.specs.Contents.{entries}
use Rattle.scc_buckets.proofs.Finds.{lookup-find}
use Rattle.scc_owned.proofs.index.calls.Index+K+V+H.peek_shared_by_hint.Goals as goal

pub returns-clause-version : goal.returns-clause-version
returns-clause-version g c = rw (← c.self.view_is, lookup-find (g.K.PartialEq.eq c.args.k.now) (entries c.self.inside.table), ← c.find_by_hint.ensures) c.share.ensures.version

pub returns-clause-refused : goal.returns-clause-refused
returns-clause-refused g c = rw (← c.self.view_is, lookup-find (g.K.PartialEq.eq c.args.k.now) (entries c.self.inside.table), ← c.find_by_hint.ensures) c.share.ensures.refused
