use Rattle.scc_shared.proofs.IndexReplies.{inserts-back}
use Rattle.scc_shared.proofs.index.calls.HashIndex+K+V+H.insert_sync.Goals as goal

pub returns : goal.returns
returns g c = record { back = inserts-back g.K.PartialEq.eq c.deref_mut.result.now (c.args.k, c.args.v) c.insert_by_hint.result _ c.insert_by_hint.ensures.step }
