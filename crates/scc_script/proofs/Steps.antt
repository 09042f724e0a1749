-- What a script means when no line is left.
use Rattle.std.proofs.Common.{◌≡◌, ℕ, List, [], ◌++◌, arith, ap, Ok}
use Rattle.std.proofs.lemmas.Grind.{common_steps}
use Rattle.scc_script.specs.declared.line.WorkerCall.{WorkerCall}
use Rattle.scc_script.specs.Grammar.{Names, after_calls, calls_of_lines}

pub at_end : {C : Type 0} (names : Names C) (workers : ℕ) (done : List (WorkerCall C)) (number : ℕ) (lines : List (List ℕ)) → lines ≡ [] → Ok done ≡ after_calls done (calls_of_lines names workers number lines)
at_end names workers done number lines e =
    let all : done ≡ done ++ [] = grind (arith, common_steps) in
    rw e (ap Ok all)
