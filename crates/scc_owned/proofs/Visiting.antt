-- If a reading walk goes through, the closure returned true on every pair, so also on the pair that a look-up finds.
use Rattle.std.proofs.Common.{◌≡◌, Bool, true, false, List, [], ◌∷◌, Some, refl, sym, subst}
use Rattle.std.specs.List.{AllByRecursion}
use Rattle.std.specs.List.Sorted.{IsPermutation}
use Rattle.std.specs.Map.{lookup_entry}
use Rattle.std.specs.Option.{IfSome}
use Rattle.std.proofs.lemmas.List.Elements.{All-from_recursion, recursion_from_All}
use Rattle.std.proofs.lemmas.List.Sorted.{All-permutation, IsPermutation-sym}
use Rattle.scc_common.specs.Walks.{Walks}
use Rattle.scc_common.specs.Walks as walks
use Rattle.scc_owned.proofs.CallerLemmas.{by_answer, cond-true, cond-false}

found_all : {K V : Type 0} (test : K → Bool) (P : K × V → Type 0) (es : List (K × V)) → AllByRecursion P es → IfSome (lookup_entry test es) P
found_all test P [] h = tt
found_all test P (x ∷ es) h = by_answer (test x.0)
    (λ y. subst (λ o. IfSome o P) (sym (cond-true (Some x) (lookup_entry test es) y)) h.0)
    (λ y. subst (λ o. IfSome o P) (sym (cond-false (Some x) (lookup_entry test es) y)) (found_all test P es h.1))

module _ {F K V : Type 0} (T : F → K × V → Bool → F → Type 0) (P : K × V → Type 0) (f : F) (says : (p : K × V) (f' : F) → T f p true f' → P p × (f' ≡ f)) where
  through : {g last : F} {es : List (K × V)} {r : Bool} → g ≡ f → Walks T g es r last → r ≡ true → AllByRecursion P es
  through e walks.ended t = tt
  through e (walks.stopped {f = g} {f' = g'} {p = p} c) t = absurd (let z : false ≡ true = t in cc)
  through e (walks.went_on {f = g} {f' = g'} {p = p} c rest) t =
      let s = says p g' (subst (λ z. T z p true g') e c) in
      (s.0, through s.1 rest t)

  -- a fact that holds of every pair that the walk saw holds of the pair that a look-up finds
  pub walk-found : (cs es : List (K × V)) (last : F) (test : K → Bool) → IsPermutation cs es → Walks T f es true last → IfSome (lookup_entry test cs) P
  walk-found cs es last test same w = found_all test P cs (recursion_from_All P cs (All-permutation P es cs (IsPermutation-sym cs es same) (All-from_recursion P es (through refl w refl))))
