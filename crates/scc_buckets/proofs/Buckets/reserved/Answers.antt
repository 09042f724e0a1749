use Rattle.scc_buckets.proofs.Views.{entries-view, settings-view}
use Rattle.scc_buckets.proofs.Buckets.reserved.Goals as goal

pub returns-clause-value : goal.returns-clause-value
returns-clause-value g c = rw (settings-view c.self.inside.buckets _ c.args.self.now c.self.view_is)

pub returns-clause-most : goal.returns-clause-most
returns-clause-most g c = rw (settings-view c.self.inside.buckets _ c.args.self.now c.self.view_is) c.self.invariant.small_minimum

pub returns-clause-unique : goal.returns-clause-unique
returns-clause-unique g c = rw (entries-view c.self.inside.buckets _ c.args.self.now c.self.view_is) c.self.invariant.unique
