-- The number so far is the number of the walk with the steps so far, and is less than the modulus.
use Rattle.std.proofs.Common.{◌≡◌, ◌%◌, ◌<◌}
use Rattle.example_memo.specs.Walks.{walked}
use Rattle.example_memo.proofs.walks.end_of_walk.Given as goal

abbrev pub invariant-loop : goal.invariant-loop
invariant-loop l = (l.at ≡ walked l.counter (l.start % 1000003)) × (l.at < 1000003)
