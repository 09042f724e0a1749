use Rattle.std.proofs.Common.{refl}
use Rattle.scc_buckets.proofs.Views.{settings-view}
use Rattle.scc_buckets.proofs.Buckets.router.Goals as goal

pub returns : goal.returns
returns g c = rw (settings-view c.self.inside.buckets _ c.args.self.now c.self.view_is) refl
