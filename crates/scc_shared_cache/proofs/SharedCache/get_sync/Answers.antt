use Rattle.scc_table.proofs.places.Replies.{if-map}
use Rattle.scc_owned_cache.proofs.Replies.{refreshed-key}
use Rattle.scc_shared_cache.proofs.SharedCache.get_sync.Goals as goal

pub returns-clause-key : goal.returns-clause-key
returns-clause-key g c = if-map _ _ c.of.result (λ o s. refreshed-key g.K.PartialEq.eq _ c.args.k.now o s) c.of.ensures.entry

pub returns-clause-entry : goal.returns-clause-entry
returns-clause-entry g c = if-map _ _ c.of.result (λ o s. (_, s)) c.of.ensures.entry
