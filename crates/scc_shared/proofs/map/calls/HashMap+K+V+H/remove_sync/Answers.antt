use Rattle.scc_owned.proofs.Replies.{removes-key}
use Rattle.scc_shared.proofs.map.calls.HashMap+K+V+H.remove_sync.Goals as goal

pub returns : goal.returns
returns g c = record { key = removes-key g.K.PartialEq.eq c.deref_mut.result.now c.args.k.now c.remove_sync-pair.result _ c.remove_sync-pair.ensures.step }
