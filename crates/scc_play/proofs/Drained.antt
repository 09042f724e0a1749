-- A walk that takes every pair.
use Rattle.std.proofs.Common.{◌≡◌, Bool, true, false, not, List, [], ◌∷◌, ◌++◌, Result, Ok, Err, refl, subst, ◌∙◌}
use Rattle.std.specs.List.{filter, flat_map}
use Rattle.std.specs.List.Sorted.{IsPermutation}
use Rattle.std.specs.Result.{is_err}
use Rattle.std.proofs.lemmas.List.Sorted.{IsPermutation-trans}
use Rattle.scc_owned.proofs.Filtering.{Sorts}
use Rattle.scc_common.specs.Contents.{Contents, entries, lists_of}

none-kept : {X : Type 0} (es : List X) → filter (λ x. not true) es ≡ []
none-kept [] = refl
none-kept (x ∷ es) = none-kept es

-- if the walk went through, the taken pairs are all pairs
pub drained : {K V E : Type 0} (cs es stay more : List (K × V)) (r : Result Bool E) → is_err r ≡ false → IsPermutation cs es → Sorts (λ p. true) es stay more r → IsPermutation cs more
drained cs es stay more (Ok b) ok same s =
    let none : stay ≡ [] = s.left ∙ none-kept es in
    IsPermutation-trans cs es more same (subst (λ l. IsPermutation es (l ++ more)) none s.all)
drained cs es stay more (Err e) ok same s = absurd (let h : true ≡ false = ok in cc)

-- the entries are the contents of all lists
pub all-entries : {E S : Type 0} (c : Contents E S) → entries c ≡ flat_map (λ l. l) (lists_of c)
unfolding entries lists_of
all-entries c = refl
