use Rattle.std.proofs.Common.{◌∙◌}
use Rattle.scc_shared_set.proofs.ruled.make.RuledSet+K+R+H.try_from_iter.Goals as goal

pub loop-k-init : goal.loop-k-init
loop-k-init g c =
    let ran = c.in-Ok.ensures.ran in
    let last = ran.3.2 tt in
    let kept = c.requires.kept ran.0 ran.1 ran.2 (last.0, (ran.3.0, ran.3.1, last.1)) in
    rw (c.into_iter-k-iterator.ensures.into_iter_gives.0, ran.4.0) kept

pub returns-clause-stripes : goal.returns-clause-stripes
returns-clause-stripes g c =
    let ran = c.in-Ok.ensures.ran in
    let last = ran.3.2 tt in
    (ran.0, ran.1, ran.2, (last.0, (ran.3.0, ran.3.1, last.1)), rw (c.len.ensures ∙ ran.4.1) at c.in_ok-made.ensures.stripes)
