use Rattle.std.proofs.Common.{◌≤◌, arith}
use Rattle.std.proofs.lemmas.Bool.{le-leb, leb-true}
use native.Mathlib.Decide.{dec_lt}
use Rattle.scc_array.proofs.Array.is_overflow.Goals as goal

pub returns : goal.returns
returns g c =
    let here = c.slots_before_overflow.ensures.within in let past = c.slots_before_overflow.ensures.past in (
      (λ t. let l : c.slots_before_overflow.result ≤ c.args.slot = leb-true c.slots_before_overflow.result c.args.slot t in let k = past l in omega arith),
      (λ l. le-leb c.slots_before_overflow.result c.args.slot (elim (dec_lt c.args.slot c.slots_before_overflow.result) [ yes h ↦ let k = here h in absurd (omega arith) | no h ↦ omega arith ])),
    )
