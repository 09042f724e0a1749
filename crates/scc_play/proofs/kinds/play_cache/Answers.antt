use Rattle.scc_play.specs.Kinds.{cache_machine}
use Rattle.scc_play.proofs.Keys.{by-own-hash, if-played}
use Rattle.scc_play.proofs.kinds.play_cache.Goals as goal

pub returns : goal.returns
returns g c = if-played c.play_cache_in.result c.play_cache_in.ensures (by-own-hash cache_machine c.args.workers c.args.stripes c.args.calls.now (record {}))
