use Rattle.std.proofs.Common.{◌≡◌, [], map, arith}
use Rattle.std.proofs.lemmas.List.{append-nil, nil_from_length}
use Rattle.scc_play.proofs.worker.workers_of.Goals as goal

pub returns-clause-passes : goal.returns-clause-passes
returns-clause-passes g c =
    let none : c.loop-calls.passes.items ≡ [] = nil_from_length c.loop-calls.passes.items (omega (arith, c.loop-calls.invariant.left)) in
    rw (append-nil (map (λ w. w.pass) c.loop-calls.workers.items)) at (rw none at c.loop-calls.invariant.passes)
