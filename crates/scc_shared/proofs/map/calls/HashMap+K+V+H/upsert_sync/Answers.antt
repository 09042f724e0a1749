use Rattle.scc_owned.proofs.Replies.{upserts-back}
use Rattle.scc_shared.proofs.map.calls.HashMap+K+V+H.upsert_sync.Goals as goal

pub returns : goal.returns
returns g c = record { back = upserts-back g.K.PartialEq.eq _ c.deref_mut.result.now (c.args.k, c.args.v) c.upsert_sync.result _ c.upsert_sync.ensures.step }
