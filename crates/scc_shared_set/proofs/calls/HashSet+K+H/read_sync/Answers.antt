use Rattle.scc_table.proofs.places.Replies.{if-map}
use Rattle.scc_shared_set.proofs.Keys.{reads-key}
use Rattle.scc_shared_set.proofs.calls.HashSet+K+H.read_sync.Goals as goal

pub returns : goal.returns
returns g c = record { answer = if-map _ _ c.read_sync.result (reads-key _ _ g.F.FnOnce c.args.f (λ key value r h. h) g.K.PartialEq.eq c.args.k.now) c.read_sync.ensures.answer }
