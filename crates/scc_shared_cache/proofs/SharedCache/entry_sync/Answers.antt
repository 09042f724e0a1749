use Rattle.scc_owned_cache.proofs.Replies.{entry-key}
use Rattle.scc_shared_cache.proofs.SharedCache.entry_sync.Goals as goal

pub returns-clause-key : goal.returns-clause-key
returns-clause-key g c = entry-key g.K.PartialEq.eq g.met.K.Eq.laws.refl _ c.args.k c.of.result c.of.ensures.entry

pub returns-clause-entry : goal.returns-clause-entry
returns-clause-entry g c = (_, c.of.ensures.entry)
