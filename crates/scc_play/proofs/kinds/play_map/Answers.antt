use Rattle.scc_play.specs.Kinds.{map_machine}
use Rattle.scc_play.proofs.Keys.{by-own-hash, if-played}
use Rattle.scc_play.proofs.kinds.play_map.Goals as goal

pub returns : goal.returns
returns g c = if-played c.play_map_in.result c.play_map_in.ensures (by-own-hash map_machine c.args.workers c.args.stripes c.args.calls.now (record {}))
