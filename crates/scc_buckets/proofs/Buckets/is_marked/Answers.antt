use Rattle.std.proofs.Common.{sym, ap, Bool}
use Rattle.scc_buckets.proofs.Views.{refused-view}
use Rattle.scc_buckets.proofs.Buckets.is_marked.Goals as goal

pub returns : goal.returns
returns g c = ap (λ (x : Bool × Bool). x.1) (sym (refused-view c.self.inside.buckets _ c.args.self.now c.self.view_is))
