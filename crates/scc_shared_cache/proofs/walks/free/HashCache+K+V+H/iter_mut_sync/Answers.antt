use Rattle.scc_common.proofs.RuleWalks.{callable-some_to_write, takes-of-kept}
use Rattle.scc_table.proofs.walks.Steps.{CallableToWrite-always}
use Rattle.scc_shared_cache.proofs.walks.free.HashCache+K+V+H.iter_mut_sync.Goals as goal

pub take_from_stripes-requires-clause-callable : goal.take_from_stripes-requires-clause-callable
take_from_stripes-requires-clause-callable g c = λ es. callable-some_to_write (λ _ _. Unit {0}) g.F.FnMut _ c.args.f es (CallableToWrite-always g.F.FnMut _ c.args.f es c.requires)

pub returns-clause-calls : goal.returns-clause-calls
returns-clause-calls g c = let x = c.take_from_stripes.ensures.calls in (x.0, x.1, x.2, x.3, takes-of-kept (λ _ _. Unit {0}) g.F.FnMut x.4, x.5, x.6)
