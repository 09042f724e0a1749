use Rattle.std.proofs.Common.{rules, ◌*◌, ◌+◌, ◌%◌, refl, ap}
use native.Mathlib.Numerals.{unary_clauses}
use Rattle.example_memo.proofs.walks.end_of_walk.Goals as goal

pub loop-init : goal.loop-init
loop-init c = (refl, search rules)

pub loop-preserved : goal.loop-preserved
loop-preserved c = (simp unary_clauses (ap (λ n. (n * 48271 + 11) % 1000003) c.loop.invariant.0), search rules)
