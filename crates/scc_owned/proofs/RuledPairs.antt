-- What holds of the pairs of a map under a rule: equal keys are alike to the rule.
use Rattle.std.proofs.Common.{◌≡◌, ◌∙◌, ◌++◌, ◌∷◌, [], ℕ, suc, Bool, true, false, List, Some, take, drop, map, sym, ap, subst, append_assoc, take-append-drop, refl}
use Rattle.std.specs.List.{find, slice_get, AllByRecursion, IsDistinct}
use Rattle.std.proofs.lemmas.Map.Keys.{IsDistinct-head, IsDistinct-tail, IsDistinct-cons}
use Rattle.scc_buckets.proofs.Finds.{lookup-find}
use Rattle.scc_buckets.proofs.Placed.{take-more}
use Rattle.std.specs.Prelude.{IsTrue}
use Rattle.scc_common.specs.Walks.{Walks}
use Rattle.scc_common.proofs.WalkLemmas.{walk-stopped}
use Rattle.scc_owned.specs.IndexWalks.{Retains}
use Rattle.scc_owned.specs.IndexWalks as versions
use Rattle.scc_common.specs.Rules.{AllKeep}
use Rattle.scc_common.proofs.Lists.{all-append, all-parts}
use Rattle.scc_table.proofs.places.Replies.{find-key}

module _ {K V : Type 0} (eq : K → K → Bool) (holds : K → V → Type 0) (alike : (j k : K) (v : V) → eq j k ≡ true → holds j v → holds k v) (symm : (j k : K) → eq j k ≡ eq k j) where
  -- what may stand under a stored key may stand under an equal one
  pub under : (k q : K) (v : V) → eq k q ≡ true → holds q v → holds k v
  under k q v e h = alike q k v (symm q k ∙ e) h

-- the pair that a search finds has a key equal to the one looked for
pub found-key : {K V : Type 0} (eq : K → K → Bool) (es : List (K × V)) (k : K) (p : K × V) → find (λ e. eq k e.0) es ≡ Some p → eq k p.0 ≡ true
found-key eq es k p e = find-key eq es k p (lookup-find (eq k) es ∙ e)

-- if a walk has met es, and p stands next, it has met es and p
pub one-more : {X : Type 0} (all es rest left : List X) (p : X) → all ≡ es ++ left → left ≡ p ∷ rest → all ≡ (es ++ p ∷ []) ++ rest
one-more all es rest left p is here = is ∙ ap (λ z. es ++ z) here ∙ sym (append_assoc es (p ∷ []) rest)

module _ {K V : Type 0} (holds : K → V → Type 0) where
  -- the pairs before p keep the rule, and so does p
  pub keep-more : (es : List (K × V)) (p : K × V) → AllKeep holds es → holds p.0 p.1 → AllKeep holds (es ++ p ∷ [])
  keep-more es p h k = all-append (λ (q : K × V). holds q.0 q.1) es (p ∷ []) h (k, tt)

  pub keep-taken : (es : List (K × V)) (i : ℕ) (p : K × V) → slice_get es i ≡ Some p → AllKeep holds (take i es) → holds p.0 p.1 → AllKeep holds (take (suc i) es)
  keep-taken es i p got h k = subst (AllKeep holds) (sym (take-more es i p got)) (keep-more (take i es) p h k)

  -- the pairs up to p keep the rule: those before p, and p
  pub kept-parts : (es : List (K × V)) (i : ℕ) (p : K × V) → slice_get es i ≡ Some p → AllKeep holds (take (suc i) es) → AllKeep holds (take i es) × holds p.0 p.1
  kept-parts es i p got h = let r = all-parts (λ (q : K × V). holds q.0 q.1) (take i es) (p ∷ []) (subst (AllKeep holds) (take-more es i p got) h) in (r.0, r.1.0)

module _ {X K : Type 0} (eq : K → K → Bool) (key : X → K) where
  all-front : (P : K → Type 0) (xs ys : List X) → AllByRecursion P (map key (xs ++ ys)) → AllByRecursion P (map key xs)
  all-front P [] ys h = tt
  all-front P (x ∷ xs) ys h = (h.0, all-front P xs ys h.1)

  -- keys that are distinct are distinct in a beginning of the list
  pub distinct-front : (xs ys : List X) → IsDistinct eq (map key (xs ++ ys)) → IsDistinct eq (map key xs)
  unfolding IsDistinct
  distinct-front [] ys h = tt
  distinct-front (x ∷ xs) ys h =
      IsDistinct-cons eq (key x) (map key xs) (all-front (λ y. eq (key x) y ≡ false) xs ys (IsDistinct-head eq (key x) (map key (xs ++ ys)) h)) (distinct-front xs ys (IsDistinct-tail eq (key x) (map key (xs ++ ys)) h))

  pub distinct-taken : (n : ℕ) (xs : List X) → IsDistinct eq (map key xs) → IsDistinct eq (map key (take n xs))
  distinct-taken n xs h = distinct-front (take n xs) (drop n xs) (subst (λ z. IsDistinct eq (map key z)) (sym (take-append-drop n xs)) h)

-- a walk over es and then over fs is a walk over both
pub versions-join : {F K V : Type 0} {T : F → K × V → Bool → F → Type 0} {f m last : F} {es fs stay more : List (K × V)} → Retains T f es stay m → Retains T m fs more last → Retains T f (es ++ fs) (stay ++ more) last
versions-join versions.ended y = y
versions-join (versions.kept t x) y = versions.kept t (versions-join x y)
versions-join (versions.removed t x) y = versions.removed t (versions-join x y)

-- a walk over the first n pairs that went through only if these are all pairs is a walk over all pairs
pub walks-all : {F K V : Type 0} {T : F → K × V → Bool → F → Type 0} {f last : F} (n : ℕ) (es : List (K × V)) (r : Bool) → Walks T f (take n es) r last → (IsTrue r → take n es ≡ es) → Walks T f es r last
walks-all {T = T} {f = f} {last = last} n es true w all = subst (λ z. Walks T f z true last) (all refl) w
walks-all {T = T} {f = f} {last = last} n es false w all = subst (λ z. Walks T f z false last) (take-append-drop n es) (walk-stopped (drop n es) w)
