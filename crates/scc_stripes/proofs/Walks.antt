-- A walk over the list of one stripe after another.
use Rattle.std.specs.Prelude.{IsPermutation}
use Rattle.std.proofs.Common.{◌≡◌, ◌+◌, ◌-◌, ◌≤◌, ◌++◌, ◌∷◌, [], List, ℕ, zero, suc, Bool, map, refl, arith, ap, sym, subst, ◌∙◌, append-nil}
use Rattle.std.specs.Cmp.{IsEquivalence}
use Rattle.std.specs.List.{flat_map, IsDistinct}
use Rattle.std.specs.Map.{keys_of}
use Rattle.std.proofs.lemmas.List.{length_push}
use Rattle.std.proofs.lemmas.List.Concat.{flat_map-append}
use Rattle.std.proofs.lemmas.List.Elements.{All-nil, All-push}
use Rattle.scc_buckets.proofs.Lookups.{distinct-IsPermutation}
use Rattle.scc_stripes.specs.Walks.{AreOfStripes}

module _ {E K : Type 0} (eq : K → K → Bool) (key : E → K) where
  -- no stripe is walked yet
  pub walked-none : AreOfStripes eq key 0 []
  walked-none = record { lists = []; number = refl; whole = refl; unique = All-nil _ }

  -- one more stripe is walked
  pub walked-next : (n : ℕ) (es fs : List E) → AreOfStripes eq key n es → IsDistinct eq (map key fs) → AreOfStripes eq key (n + 1) (es ++ fs)
  walked-next n es fs w d = record {
    lists = w.lists ++ fs ∷ [];
    number = omega (arith, length_push w.lists fs, w.number);
    whole = ap (λ z. z ++ fs) w.whole ∙ ap (λ z. flat_map (λ l. l) w.lists ++ z) (sym (append-nil fs)) ∙ sym (flat_map-append (λ l. l) w.lists (fs ∷ []));
    unique = All-push (λ l. IsDistinct eq (map key l)) w.lists fs w.unique d;
  }

  walked-more : (k n : ℕ) (es : List E) → AreOfStripes eq key n es → AreOfStripes eq key (k + n) es
  unfolding IsDistinct
  walked-more zero n es w = let same : n ≡ zero + n = omega arith in subst (λ z. AreOfStripes eq key z es) same w
  walked-more (suc k) n es w =
      let same : k + n + 1 ≡ suc k + n = omega arith in
      let more : AreOfStripes eq key (k + n + 1) (es ++ []) = walked-next (k + n) es [] (walked-more k n es w) tt in
      subst (λ z. AreOfStripes eq key z es) same (subst (λ z. AreOfStripes eq key (k + n + 1) z) (append-nil es) more)

  -- the walk ended before the last stripe
  pub walked-short : (n m : ℕ) (es : List E) → n ≤ m → AreOfStripes eq key n es → AreOfStripes eq key m es
  walked-short n m es l w = let same : m - n + n ≡ m = omega (arith, l) in subst (λ z. AreOfStripes eq key z es) same (walked-more (m - n) n es w)

-- one more stripe of pairs is walked, in any order
pub walked-permuted : {K V : Type 0} {eq : K → K → Bool} (laws : IsEquivalence eq) (n : ℕ) (es fs gs : List (K × V)) → AreOfStripes eq (λ p. p.0) n es → IsPermutation fs gs → IsDistinct eq (keys_of fs) → AreOfStripes eq (λ p. p.0) (n + 1) (es ++ gs)
walked-permuted {eq = eq} laws n es fs gs w same d = walked-next eq (λ p. p.0) n es gs w (distinct-IsPermutation laws fs gs same d)
