use Rattle.scc_common.specs.Contents.{hash_in}
use Rattle.scc_buckets.proofs.Bounds.{routed-view}
use Rattle.scc_buckets.proofs.Views.{entries-view, settings-view, spilled-view}
use Rattle.scc_buckets.proofs.Buckets.allocator.Goals as goal

pub returns-clause-few : goal.returns-clause-few
returns-clause-few g c =
    rw (spilled-view c.self.inside.buckets _ c.args.self.now c.self.view_is, ← c.self.invariant.table.spilled) c.self.invariant.table.few

pub returns-clause-unique : goal.returns-clause-unique
returns-clause-unique g c = rw (entries-view c.self.inside.buckets _ c.args.self.now c.self.view_is) c.self.invariant.unique

pub returns-clause-routed : goal.returns-clause-routed
returns-clause-routed g c =
    rw (settings-view c.self.inside.buckets _ c.args.self.now c.self.view_is, hash_in)
    (routed-view (λ e. g.H.Hashes.hash_of c.self.inside.router.hasher (g.E.Keyed.key_of e)) _ _ c.self.inside.buckets _ c.args.self.now c.self.view_is c.self.invariant.table)
