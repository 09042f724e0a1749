use Rattle.scc_owned.proofs.Replies.{if-map, removes-passed}
use Rattle.scc_shared.proofs.map.calls.HashMap+K+V+H.remove_if_sync.Goals as goal

pub returns-clause-key : goal.returns-clause-key
returns-clause-key g c = if-map _ _ c.remove_if_sync-pair.result (λ p h. h.0) (removes-passed g.K.PartialEq.eq g.F.FnOnce c.args.f c.deref_mut.result.now c.args.k.now c.remove_if_sync-pair.result _ c.remove_if_sync-pair.ensures.step)

pub returns-clause-answer : goal.returns-clause-answer
returns-clause-answer g c = if-map _ _ c.remove_if_sync-pair.result (λ p h. h.1) (removes-passed g.K.PartialEq.eq g.F.FnOnce c.args.f c.deref_mut.result.now c.args.k.now c.remove_if_sync-pair.result _ c.remove_if_sync-pair.ensures.step)
