-- Walks that keep some pairs of an index: on which pairs a closure was called in turn, and which pairs stay.
use Rattle.std.specs.Prelude.{Bool, true, false, List, [], ◌∷◌}
use Rattle.std.specs.Borrow.{Bor}
use Rattle.std.specs.Fn.{Mut}
use Rattle.scc_common.specs.Walks.{CalledOn, HoldsInTurn, TakesOn}

-- f may be called on the pairs in turn, whatever it returns
abbrev pub CallableOnAll : {F K V R : Type 0} → Mut F (Bor K × (Bor V × Unit {0})) R → F → List (K × V) → Type 0
CallableOnAll {F} {K} {V} {R} g = HoldsInTurn (λ s p t. (r : R) × CalledOn g s p r t) (TakesOn g)

-- the closure was called on all pairs in turn; the second list has the pairs on which it returned true, which stay
pub data Retains {F K V : Type 0} (T : F → K × V → Bool → F → Type 0) : F → List (K × V) → List (K × V) → F → Type 0 where
  ended : {f : F} → Retains T f [] [] f
  kept : {f f' f'' : F} {p : K × V} {es stay : List (K × V)} → T f p true f' → Retains T f' es stay f'' → Retains T f (p ∷ es) (p ∷ stay) f''
  removed : {f f' f'' : F} {p : K × V} {es stay : List (K × V)} → T f p false f' → Retains T f' es stay f'' → Retains T f (p ∷ es) stay f''
