use Rattle.scc_table.proofs.places.Replies.{if-map}
use Rattle.scc_shared_set.proofs.RuledKeys.{reads-kept}
use Rattle.scc_shared_set.proofs.ruled.calls.RuledSet+K+R+H.read_sync.Goals as goal

pub read_sync-requires : goal.read_sync-requires
read_sync-requires g c = λ a b e own here. c.requires a.now e own

pub returns : goal.returns
returns g c = record { answer = if-map _ _ c.read_sync.result (reads-kept _ _ g.F.FnOnce c.args.f (λ key value r h. h) g.K.PartialEq.eq g.R.Rule.holds c.args.k.now) c.read_sync.ensures.answer }
