use Rattle.scc_owned.proofs.Replies.{if-map}
use Rattle.scc_shared.proofs.map.calls.HashMap+K+V+H.update_sync.Goals as goal

pub returns : goal.returns
returns g c = record { answer = if-map _ _ c.update_by_hint.result (λ x h. (h.0, h.1, h.3, h.4)) c.update_by_hint.ensures.finds }
