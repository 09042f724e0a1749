use Rattle.scc_play.specs.Kinds.{set_machine}
use Rattle.scc_play.proofs.Keys.{by-own-hash, if-played}
use Rattle.scc_play.proofs.kinds.play_set.Goals as goal

pub returns : goal.returns
returns g c = if-played c.play_set_in.result c.play_set_in.ensures (by-own-hash set_machine c.args.workers c.args.stripes c.args.calls.now (record {}))
