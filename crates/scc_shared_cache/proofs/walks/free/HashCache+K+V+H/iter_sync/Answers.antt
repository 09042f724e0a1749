use Rattle.std.proofs.Common.{true}
use Rattle.scc_common.proofs.RuleWalks.{callable-some}
use Rattle.scc_common.proofs.WalkLemmas.{CallableWhile-always}
use Rattle.scc_shared_cache.proofs.walks.free.HashCache+K+V+H.iter_sync.Goals as goal

pub iter_stripes-requires : goal.iter_stripes-requires
iter_stripes-requires g c = λ es. callable-some (λ _ _. Unit {0}) g.F.FnMut true c.args.f es (CallableWhile-always g.F.FnMut true c.args.f es c.requires)

pub returns : goal.returns
returns g c = let x = c.iter_stripes.ensures.calls in record { calls = (x.0, x.1, x.3, x.4) }
