use Rattle.std.specs.String.{string_bytes}
use Rattle.scc_play.proofs.Ending.{by-ends}
use Rattle.scc_play.proofs.Single.{cache-alone}
use Rattle.scc_play.proofs.play.answer_cache.Goals as goal

pub returns : goal.returns
returns g c = by-ends c.in_ok-play_cache.field-0 c.args.workers c.args.stripes (λ a. a.status) (λ a. string_bytes a.text) c.answer_end.result c.in_ok-play_cache.ensures (λ text p. cache-alone c.args.workers c.args.stripes c.args.calls.now c.requires.owners text p) c.answer_end.ensures
