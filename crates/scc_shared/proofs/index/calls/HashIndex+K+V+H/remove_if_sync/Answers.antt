use Rattle.scc_shared.proofs.IndexReplies.{removes-passed}
use Rattle.scc_shared.proofs.index.calls.HashIndex+K+V+H.remove_if_sync.Goals as goal

pub returns : goal.returns
returns g c = record { answer = removes-passed g.K.PartialEq.eq g.F.FnOnce c.args.f c.deref_mut.result.now c.args.k.now c.remove_if_sync-removed.result _ c.remove_if_sync-removed.ensures.step }
