-- Walks over pairs: what a closure was called with, in turn.
use Rattle.std.specs.Prelude.{◌≡◌, Bool, true, false, List, [], ◌∷◌, ◌++◌}
use Rattle.std.specs.Borrow.{Bor}
use Rattle.std.specs.Fn.{Mut, Called, Takes}
use Rattle.std.specs.List.{FoldsTo}

module _ {F K V R : Type 0} where
  -- a call of f with a & to the key and a & to the value of p may return r, and leave f'
  pub record CalledOn (g : Mut F (Bor K × (Bor V × Unit {0})) R) (f : F) (p : K × V) (r : R) (f' : F) : Type 0 where
    pub key : Bor K
    pub value : Bor V
    pub shows : (key.now, value.now) ≡ p
    pub called : Called g f (key, (value, tt)) r f'

-- f may be called with a & to the key and a & to the value of p
abbrev pub TakesOn : {F K V R : Type 0} → Mut F (Bor K × (Bor V × Unit {0})) R → F → K × V → Type 0
TakesOn {F} {K} {V} g f p = (key : Bor K) (value : Bor V) → (key.now, value.now) ≡ p → Takes g f (key, (value, tt))

-- Q holds at each item in turn, of the state to which Step has taken f over the items before it
pub record HoldsInTurn {F P : Type 0} (Step : F → P → F → Type 0) (Q : F → P → Type 0) (f : F) (es : List P) : Type 0 where
  pub at : (before after : List P) (p : P) (f' : F) → es ≡ before ++ p ∷ after → FoldsTo Step f before f' → Q f' p

-- f may be called on the pairs in turn, as long as each call returns `on`
abbrev pub CallableWhile : {F K V R : Type 0} → Mut F (Bor K × (Bor V × Unit {0})) R → R → F → List (K × V) → Type 0
CallableWhile g on = HoldsInTurn (λ s p t. CalledOn g s p on t) (TakesOn g)

-- the closure is called on the pairs in turn, up to its first false; the last argument is the state that it is left in
pub data Walks {F K V : Type 0} (T : F → K × V → Bool → F → Type 0) : F → List (K × V) → Bool → F → Type 0 where
  ended : {f : F} → Walks T f [] true f
  stopped : {f f' : F} {p : K × V} {es : List (K × V)} → T f p false f' → Walks T f (p ∷ es) false f'
  went_on : {f f' f'' : F} {p : K × V} {es : List (K × V)} {b : Bool} → T f p true f' → Walks T f' es b f'' → Walks T f (p ∷ es) b f''
