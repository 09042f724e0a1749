use Rattle.scc_common.proofs.RuleWalks.{callable-each_to_write, takes-keep}
use Rattle.scc_shared_cache.proofs.walks.ruled.RuledCache+K+V+R+H.iter_mut_sync.Goals as goal

pub take_from_stripes-requires-clause-callable : goal.take_from_stripes-requires-clause-callable
take_from_stripes-requires-clause-callable g c = λ es. callable-each_to_write g.R.Rule.holds g.F.FnMut _ c.args.f es c.requires.callable

pub returns-clause-calls : goal.returns-clause-calls
returns-clause-calls g c = let x = c.take_from_stripes.ensures.calls in (x.0, x.1, x.2, x.3, takes-keep g.R.Rule.holds g.F.FnMut x.4, x.4, x.5, x.6)
