-- Equal causes have equal numbers.
use Rattle.std.proofs.Common.{◌≡◌, ℕ}
use Rattle.scc_recorded.specs.declared.finishing.FinishError.TheVariants.{Disagrees, Misrouted}

pub same_disagreement : (a b n k : ℕ) → Disagrees a b ≡ Disagrees n k → (a ≡ n) × (b ≡ k)
same_disagreement a b n k e = let f : a ≡ n = cc in let g : b ≡ k = cc in (f, g)

pub same_place : (a b n k : ℕ) → Misrouted a b ≡ Misrouted n k → (a ≡ n) × (b ≡ k)
same_place a b n k e = let f : a ≡ n = cc in let g : b ≡ k = cc in (f, g)
