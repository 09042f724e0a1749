use Rattle.std.proofs.Common.{sym, ap, Bool}
use Rattle.scc_buckets.proofs.Views.{refused-view}
use Rattle.scc_buckets.proofs.Buckets.is_resize_refused.Goals as goal

pub returns : goal.returns
returns g c = ap (λ (x : Bool × Bool). x.0) (sym (refused-view c.self.inside.buckets _ c.args.self.now c.self.view_is))
