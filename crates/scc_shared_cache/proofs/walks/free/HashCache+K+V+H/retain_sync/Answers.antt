use Rattle.scc_common.proofs.RuleWalks.{callable-some_to_write, retains-of-kept}
use Rattle.scc_table.proofs.walks.Steps.{CallableToWrite-always}
use Rattle.scc_shared_cache.proofs.walks.free.HashCache+K+V+H.retain_sync.Goals as goal

pub retain_stripes-requires-clause-callable : goal.retain_stripes-requires-clause-callable
retain_stripes-requires-clause-callable g c = λ es. callable-some_to_write (λ _ _. Unit {0}) g.F.FnMut _ c.args.f es (CallableToWrite-always g.F.FnMut _ c.args.f es c.requires)

pub returns : goal.returns
returns g c = let x = c.retain_stripes.ensures.calls in record { calls = (x.0, x.1, x.2, retains-of-kept (λ _ _. Unit {0}) g.F.FnMut x.3, x.4) }
