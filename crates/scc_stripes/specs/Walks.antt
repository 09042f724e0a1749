-- What a walk over stripes meets, in one word.
use Rattle.std.specs.Prelude.{◌≡◌, ℕ, Bool, List, length, map}
use Rattle.std.specs.List.{All, flat_map, IsDistinct}

-- es is made of `count` lists, one after another, in each of which no two keys are equal
pub record AreOfStripes {E K : Type 0} (eq : K → K → Bool) (key : E → K) (count : ℕ) (es : List E) : Type 0 where
  pub lists : List (List E)
  pub number : length lists ≡ count
  pub whole : es ≡ flat_map (λ l. l) lists
  pub unique : All (λ l. IsDistinct eq (map key l)) lists
