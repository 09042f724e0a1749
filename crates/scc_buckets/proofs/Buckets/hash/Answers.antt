use Rattle.scc_common.specs.Contents.{hash_in}
use Rattle.scc_buckets.proofs.Views.{settings-view}
use Rattle.scc_buckets.proofs.Buckets.hash.Goals as goal

pub returns : goal.returns
returns g c = rw (settings-view c.self.inside.buckets _ c.args.self.now c.self.view_is, hash_in) c.hash.ensures
