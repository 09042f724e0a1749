use Rattle.std.proofs.Common.{rules, refl}
use Rattle.bench_recorded.proofs.Told.{one-more}
use Rattle.bench_recorded.proofs.recording.record_all.Goals as goal

pub loop-key-preserved : goal.loop-key-preserved
loop-key-preserved g c =
    let made = c.in-Ok.ensures.receipt.1 _ refl in
    one-more _ _ _ _ _ _ _ _ (0, 0) c.loop-key.invariant made.3 c.loop-key-test.true (search (rules, made.2.0))
