use Rattle.std.specs.Arc.{arc_value}
use Rattle.scc_common.specs.Contents.{entries}
use Rattle.scc_shared.proofs.IndexReplies.{peeks-key}
use Rattle.scc_shared.proofs.index.calls.HashIndex+K+V+H.peek.Goals as goal

pub returns : goal.returns
returns g c = record { key = peeks-key g.K.PartialEq.eq arc_value (entries c.deref.result.now) c.args.k.now c.peek_shared_by_hint.result c.peek_shared_by_hint.ensures.version }
