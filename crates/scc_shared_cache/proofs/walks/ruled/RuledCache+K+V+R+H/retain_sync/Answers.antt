use Rattle.scc_common.proofs.RuleWalks.{callable-each_to_write, retains-keep, retains-of-kept}
use Rattle.scc_shared_cache.proofs.walks.ruled.RuledCache+K+V+R+H.retain_sync.Goals as goal

pub retain_stripes-requires-clause-callable : goal.retain_stripes-requires-clause-callable
retain_stripes-requires-clause-callable g c = λ es. callable-each_to_write g.R.Rule.holds g.F.FnMut _ c.args.f es c.requires.callable

pub returns : goal.returns
returns g c =
    let x = c.retain_stripes.ensures.calls in
    let kept = retains-keep g.R.Rule.holds g.F.FnMut x.3 in
    record { calls = (x.0, x.1, x.2, kept.0, kept.1, retains-of-kept g.R.Rule.holds g.F.FnMut x.3, x.4) }
