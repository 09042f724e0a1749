use Rattle.scc_shared_cache.proofs.Replies.{replaces-equal}
use Rattle.scc_shared_cache.proofs.SharedCache.replace_sync.Goals as goal

pub returns-clause-key : goal.returns-clause-key
returns-clause-key g c = replaces-equal g.K.PartialEq.eq _ c.args.k c.of.result c.of.ensures.step

pub returns-clause-step : goal.returns-clause-step
returns-clause-step g c = (_, c.of.ensures.step)
