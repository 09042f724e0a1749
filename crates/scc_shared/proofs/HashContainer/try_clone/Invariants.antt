use Rattle.std.proofs.Common.{◌≡◌}
use Rattle.scc_stripes.specs.Parts.{parts_hasher}
use Rattle.scc_stripes.specs.Stripes.{stripes_hasher}
use Rattle.scc_shared.proofs.HashContainer.try_clone.Given as goal

abbrev pub invariant-loop-stripe : goal.invariant-loop-stripe
invariant-loop-stripe g l = parts_hasher l.made.parts ≡ stripes_hasher l.self.stripes
