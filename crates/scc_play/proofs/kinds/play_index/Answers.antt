use Rattle.scc_play.specs.Kinds.{index_machine}
use Rattle.scc_play.proofs.Keys.{by-own-hash, if-played}
use Rattle.scc_play.proofs.kinds.play_index.Goals as goal

pub returns : goal.returns
returns g c = if-played c.play_index_in.result c.play_index_in.ensures (by-own-hash index_machine c.args.workers c.args.stripes c.args.calls.now (record {}))
