use Rattle.scc_common.specs.Contents.{entries}
use Rattle.scc_owned.proofs.Replies.{reads-equal}
use Rattle.scc_shared.proofs.map.calls.HashMap+K+V+H.read_sync.Goals as goal

pub returns : goal.returns
returns g c = record { answer = reads-equal g.K.PartialEq.eq g.F.FnOnce c.args.f (entries c.deref.result.now) c.args.k.now c.read_by_hint.result c.read_by_hint.ensures.answer }
