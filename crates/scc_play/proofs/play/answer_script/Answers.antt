use Rattle.scc_play.proofs.Owners.{script-owners}
use Rattle.scc_play.proofs.play.answer_script.Goals as goal

pub answer_by_kind-requires-clause-owners : goal.answer_by_kind-requires-clause-owners
answer_by_kind-requires-clause-owners g c = λ κs lives. rw c.in_ok-script.ensures.value (script-owners c.args.script.now)
