use Rattle.std.proofs.Common.{refl, ap, ◌∙◌}
use Rattle.scc_owned.proofs.MapEntries.{within-written, unique-written, written-same, waiting-after, written-with}
use Rattle.scc_owned.proofs.HeldEntries.{pair-is}
use Rattle.scc_owned.proofs.map.entry_calls.HeldOccupied+G+N+tuple2+K+V+H.get_mut.Goals as goal

pub invariant_of-self-lent : goal.invariant_of-self-lent
invariant_of-self-lent g c w = (within-written c.args.self.now c.lend.result.now w c.lend.ensures.value, (unique-written c.args.self.now c.lend.result.now w c.lend.ensures.value, tt))

pub returns : goal.returns
returns g c =
    let v = c.value_mut_at.ensures.value in (
      (refl, λ w. written-same c.args.self.now c.lend.result.now w c.lend.ensures.value _ _),
      record { writes_back = tt; value = v.2 ∙ ap (λ p. p.1) (pair-is c.args.self.now c.lend.result.now v.0 c.lend.ensures.value v.1); written = λ w. written-with c.args.self.now w; waiting = λ w. waiting-after c.args.self.now _ _ w refl refl; unique = λ w. unique-written c.args.self.now _ w refl },
    )
