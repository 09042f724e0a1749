-- A copy of a found value is equal to the found value, and two copies are equal.
use Rattle.std.proofs.Common.{◌≡◌, ◌∙◌, Bool, true, Option, None, Some}
use Rattle.std.specs.Cmp.{IsPartialEquivalence}
use Rattle.std.specs.Option.{option_map}
use Rattle.scc_common.specs.Copies.{IsCopied}
use Rattle.scc_calls.specs.Copies.{ClonesEqual}

module _ {X Y Z : Type 0} {clone : Z → Z → Type 0} {same : Z → Z → Bool} (clones : ClonesEqual clone same) (wrap : Option Y → Z) (copy : X → Y → Type 0) (get : X → Y)
    (none : same (wrap None) (wrap None) ≡ true) (some : (x : X) (y : Y) → copy x y → clone (wrap (Some (get x))) (wrap (Some y))) where
  pub copied : (o : Option X) (w : Option Y) → IsCopied copy o w → same (wrap (option_map get o)) (wrap w) ≡ true
  copied None None h = none
  copied (Some x) (Some y) h = clones (wrap (Some (get x))) (wrap (Some y)) (some x y h)
  copied None (Some y) h = absurd h
  copied (Some x) None h = absurd h

module _ {X Z : Type 0} {clone : Z → Z → Type 0} {same : Z → Z → Bool} (clones : ClonesEqual clone same) (wrap : Option X → Z) (copy : X → X → Type 0)
    (none : same (wrap None) (wrap None) ≡ true) (some : (x y : X) → copy x y → clone (wrap (Some x)) (wrap (Some y))) where
  pub copied_whole : (o w : Option X) → IsCopied copy o w → same (wrap o) (wrap w) ≡ true
  copied_whole None None h = none
  copied_whole (Some x) (Some y) h = clones (wrap (Some x)) (wrap (Some y)) (some x y h)
  copied_whole None (Some y) h = absurd h
  copied_whole (Some x) None h = absurd h

-- a clone of a part of a value is a copy of that part
pub copied-part : {X Y Z : Type 0} (copy : Y → Z → Type 0) (get : X → Y) (o : Option X) (w : Option Z) → IsCopied (λ x z. copy (get x) z) o w → IsCopied copy (option_map get o) w
copied-part copy get None None h = h
copied-part copy get (Some x) (Some z) h = h
copied-part copy get None (Some z) h = absurd h
copied-part copy get (Some x) None h = absurd h

-- two copies of a value are equal
pub equal-copies : {X : Type 0} {clone : X → X → Type 0} {same : X → X → Bool} → ClonesEqual clone same → IsPartialEquivalence same → (x own copy : X) → same x own ≡ true → same x copy ≡ true → same own copy ≡ true
equal-copies clones laws x own copy one other = laws.trans own x copy (laws.symm own x ∙ one) other
