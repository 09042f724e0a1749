use Rattle.std.proofs.Common.{refl, ap, ◌∙◌}
use Rattle.scc_owned_cache.proofs.Entries.{within-written, written-same, pair-is, written-with}
use Rattle.scc_owned_cache.proofs.held.lent.HeldOccupied+G+N+K+V+H+Anything.get_mut.Goals as goal

pub invariant_of-self-lent : goal.invariant_of-self-lent
invariant_of-self-lent g c w = (within-written c.args.self.now c.lend.result.now w c.lend.ensures.value, tt)

pub returns : goal.returns
returns g c =
    let v = c.value_mut_at.ensures.value in (
      (refl, λ w. written-same c.args.self.now c.lend.result.now w c.lend.ensures.value _),
      record { writes_back = tt; value = v.2 ∙ ap (λ p. p.1) (pair-is c.args.self.now c.lend.result.now v.0 c.lend.ensures.value v.1); written = λ w. written-with c.args.self.now w },
    )
