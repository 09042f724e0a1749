use Rattle.scc_table.proofs.places.Replies.{reads-equal}
use Rattle.scc_common.specs.Contents.{entries}
use Rattle.scc_shared.proofs.index.calls.HashIndex+K+V+H.peek_with.Goals as goal

pub returns : goal.returns
returns g c = record { answer = reads-equal g.K.PartialEq.eq g.F.FnOnce c.args.f (entries c.deref.result.now) c.args.k.now c.peek_with_by_hint.result c.peek_with_by_hint.ensures.answer }
