use Rattle.scc_owned_cache.proofs.Owned.contains_sync.Goals as goal

pub returns-in-Some-clause-yes : goal.returns-in-Some-clause-yes
returns-in-Some-clause-yes g c = λ _. (c.in-Some.ensures.pair, (_, c.in-Some.ensures.there))
