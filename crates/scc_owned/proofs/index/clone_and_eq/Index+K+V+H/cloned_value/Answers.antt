use Rattle.scc_table.proofs.arrays.SameParts.{any-err}
use Rattle.scc_owned.proofs.index.clone_and_eq.Index+K+V+H.cloned_value.Goals as goal

pub returns-in_ok-clone-in-Some-clause-ok : goal.returns-in_ok-clone-in-Some-clause-ok
returns-in_ok-clone-in-Some-clause-ok g c = rw (c.in-Some.ensures, ← c.value.ensures) c.in_ok-clone-in-Some.ensures.cases

pub returns-in-None-clause-ok : goal.returns-in-None-clause-ok
returns-in-None-clause-ok g c = rw c.in-None.ensures tt

pub returns-in_err-clone-in-Some-clause-err : goal.returns-in_err-clone-in-Some-clause-err
returns-in_err-clone-in-Some-clause-err g c = any-err c.from_residual.result (_, c.in-Some.ensures, rw (← c.value.ensures) c.in_err-clone-in-Some.ensures.cases)
