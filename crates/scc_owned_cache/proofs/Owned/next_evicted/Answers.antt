use Rattle.std.proofs.Common.{inl}
use Rattle.scc_owned_cache.proofs.Owned.next_evicted.Goals as goal

pub returns-in-Some-clause-none : goal.returns-in-Some-clause-none
returns-in-Some-clause-none g c = inl (c.in-Some.ensures.pair, (_, c.in-Some.ensures.there))
