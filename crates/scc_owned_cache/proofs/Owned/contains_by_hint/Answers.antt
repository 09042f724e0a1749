use Rattle.scc_owned_cache.proofs.Kept.{kept-present}
use Rattle.scc_owned_cache.proofs.Owned.contains_by_hint.Goals as goal

pub returns-in-Some-clause-yes : goal.returns-in-Some-clause-yes
returns-in-Some-clause-yes g c = λ _. (_, c.in-Some.ensures.found)

pub returns-in-Some-clause-kept : goal.returns-in-Some-clause-kept
returns-in-Some-clause-kept g c = λ _. (_, (kept-present g.K.PartialEq.eq g.R.Rule.holds g.met.R.Rule.alike g.met.K.Eq.laws.symm _ c.args.self.now c.args.k.now _ c.in-Some.ensures.found c.in-Some.ensures.kept).2)
