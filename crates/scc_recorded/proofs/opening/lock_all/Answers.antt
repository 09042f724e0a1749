use Rattle.std.proofs.Common.{rules, ◌≡◌, ◌++◌, [], ◌∷◌, refl, arith}
use Rattle.scc_recorded.proofs.Handing.{numbers_push}
use Rattle.scc_recorded.proofs.opening.lock_all.Goals as goal

pub loop-number-preserved : goal.loop-number-preserved
loop-number-preserved g c =
    let added : c.push.new.self.items ≡ c.loop-number.locks.items ++ record { number = c.loop-number.number; lock = c.new-lock.result } ∷ [] = search rules in
    record {
      parts = search rules;
      none = search rules;
      len = search rules;
      numbers = rw added (numbers_push (λ x. x.number) c.loop-number.locks.items (record { number = c.loop-number.number; lock = c.new-lock.result }) c.loop-number.number c.loop-number.invariant.numbers refl);
    }

pub returns-clause-numbers : goal.returns-clause-numbers
returns-clause-numbers g c =
    let all : c.loop-number.number ≡ c.args.stripes = omega (arith, c.loop-number-test.false, c.loop-number.auto.number-end) in
    rw all at c.loop-number.invariant.numbers
