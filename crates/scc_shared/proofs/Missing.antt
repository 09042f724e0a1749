-- A key that a look-up doesn't find stands at no index.
use Rattle.std.proofs.Common.{◌≡◌, ℕ, List, Bool, Option, None, Some, refl, sym, ◌∙◌}
use Rattle.std.specs.List.{position}
use Rattle.scc_owned.specs.Lookups.{Lookups, AreLawful}

module _ {E K V : Type 0} {l : Lookups E K V} {key : E → K} (lawful : AreLawful l key) (passes : K → Bool) (es : List E) (none : l.find passes es ≡ None) where
  nowhere : (o : Option ℕ) → position (λ e. passes (key e)) es ≡ o → o ≡ None
  nowhere None at = refl
  nowhere (Some i) at = let f = lawful.first passes es i at in absurd (let e : Some f.0 ≡ None = sym f.1.found ∙ none in cc)

  pub stands-nowhere : position (λ e. passes (key e)) es ≡ None
  stands-nowhere = nowhere (position (λ e. passes (key e)) es) refl
