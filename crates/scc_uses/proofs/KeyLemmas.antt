-- Lists of keys: look-ups, rearrangements and filters.
use Rattle.std.proofs.Common.{◌≡◌, ◌∙◌, Bool, true, false, cond, not, ◌||◌, List, [], ◌∷◌, ◌++◌, Option, None, Some, IsSome, IsTrue, ◌↔◌, is_some, refl, sym, ap, subst}
use Rattle.std.specs.Cmp.{IsEquivalence}
use Rattle.std.specs.List.{IsDistinct, filter, find as first_passing}
use Rattle.std.specs.List.Sorted.{IsPermutation}
use Rattle.std.specs.Map.{keys_of, lookup_entry, remove_entry}
use Rattle.std.specs.Option.{option_map}
use Rattle.std.specs.Set.{is_member, remove_key}
use Rattle.std.proofs.lemmas.List.Folds.{list_any-append}
use Rattle.std.proofs.lemmas.List.Sorted.{IsPermutation-map, IsPermutation-sym}
use Rattle.std.proofs.lemmas.Map.Steps.{list_any_congr}
use Rattle.scc_common.specs.Contents.{Contents, entries}
use Rattle.scc_common.specs.Steps.{Holds}
use Rattle.scc_owned.specs.Sinks.{with_units}
use Rattle.scc_owned_set.specs.Keys.{find, FindsInstead, IsUnique}
use Rattle.scc_owned_set.specs.SetWalks.{Retains, retained, stayed, went}
use Rattle.scc_buckets.proofs.Lookups.{find-IsPermutation}
use Rattle.scc_buckets.proofs.PairSplits.{by_answer, cond-true, cond-false}

abbrev pub paired : {K : Type 0} → K → K × Unit {0}
paired k = (k, tt)

module _ {K : Type 0} where
  pub units-back : (ks : List K) → keys_of (with_units ks) ≡ ks
  units-back [] = refl
  units-back (k ∷ ks) = ap (λ l. k ∷ l) (units-back ks)

  pub find-units : (t : K → Bool) (ks : List K) → lookup_entry t (with_units ks) ≡ option_map paired (first_passing t ks)
  find-units t [] = refl
  find-units t (k ∷ ks) = elim (t k) as (λ y. cond y (Some (paired k)) (lookup_entry t (with_units ks)) ≡ option_map paired (cond y (Some k) (first_passing t ks))) [ true ↦ refl | false ↦ find-units t ks ]

  pub without-units : (t : K → Bool) (ks : List K) → remove_entry t (with_units ks) ≡ with_units (remove_key t ks)
  without-units t [] = refl
  without-units t (k ∷ ks) = elim (t k) as (λ y. cond y (with_units ks) (paired k ∷ remove_entry t (with_units ks)) ≡ with_units (cond y ks (k ∷ remove_key t ks))) [ true ↦ refl | false ↦ ap (λ l. paired k ∷ l) (without-units t ks) ]

  pub paired-back : (o : Option K) → option_map (λ p. p.0) (option_map paired o) ≡ o
  paired-back None = refl
  paired-back (Some k) = refl

  pub to-units : (ks ls : List K) → IsPermutation ks ls → IsPermutation (with_units ks) (with_units ls)
  to-units ks ls p = IsPermutation-map paired ks ls p

  pub from-units : (ks ls : List K) → IsPermutation (with_units ks) (with_units ls) → IsPermutation ks ls
  from-units ks ls p =
      let q : IsPermutation (keys_of (with_units ks)) (keys_of (with_units ls)) = IsPermutation-map (λ p. p.0) (with_units ks) (with_units ls) p in
      subst (λ l. IsPermutation l ls) (units-back ks) (subst (λ l. IsPermutation (keys_of (with_units ks)) l) (units-back ls) q)

  pub units-distinct : (eq : K → K → Bool) (ks : List K) → IsDistinct eq ks → IsDistinct eq (keys_of (with_units ks))
  units-distinct eq ks d = subst (IsDistinct eq) (sym (units-back ks)) d

module _ {K : Type 0} {eq : K → K → Bool} (laws : IsEquivalence eq) where
  -- a rearrangement changes no look-up
  pub find-rearranged : (ks ls : List K) (k : K) → IsPermutation ks ls → IsDistinct eq ks → find eq ls k ≡ find eq ks k
  find-rearranged ks ls k p d =
      let same = find-IsPermutation laws (with_units ks) (with_units ls) k (to-units ks ls p) (units-distinct eq ks d) in
      sym (paired-back (find eq ls k)) ∙ ap (option_map (λ p. p.0)) (sym (find-units (eq k) ls) ∙ same ∙ find-units (eq k) ks) ∙ paired-back (find eq ks k)

  -- if q equals k, a look-up of q finds what a look-up of k finds
  pub find-alike : (ks : List K) (q k : K) → eq q k ≡ true → find eq ks q ≡ find eq ks k
  find-alike [] q k y = refl
  find-alike (x ∷ ks) q k y = λ i. cond (laws.congr q k x y i) (Some x) (find-alike ks q k y i)

  -- if equal keys pass the test alike, a look-up of q in the filter finds what it finds in the list, if q passes
  pub find-filter : (test : K → Bool) → ((a b : K) → eq a b ≡ true → test a ≡ test b) → (ks : List K) (q : K) → find eq (filter test ks) q ≡ cond (test q) (find eq ks q) None
  find-filter test alike [] q = elim (test q) as (λ y. find eq [] q ≡ cond y (find eq [] q) None) [ true ↦ refl | false ↦ refl ]
  find-filter test alike (x ∷ ks) q =
      let inner = find-filter test alike ks q in
      by_answer (eq q x)
      (λ y.
      let whole : find eq (x ∷ ks) q ≡ Some x = cond-true (Some x) (find eq ks q) y in
      by_answer (test x)
      (λ z. ap (λ l. find eq l q) (cond-true (x ∷ filter test ks) (filter test ks) z) ∙ cond-true (Some x) (find eq (filter test ks) q) y ∙ sym (cond-true (find eq (x ∷ ks) q) None (alike q x y ∙ z) ∙ whole))
      (λ z. ap (λ l. find eq l q) (cond-false (x ∷ filter test ks) (filter test ks) z) ∙ inner ∙ cond-false (find eq ks q) None (alike q x y ∙ z) ∙ sym (cond-false (find eq (x ∷ ks) q) None (alike q x y ∙ z))))
      (λ y.
      let past : find eq (x ∷ ks) q ≡ find eq ks q = cond-false (Some x) (find eq ks q) y in
      by_answer (test x)
      (λ z. ap (λ l. find eq l q) (cond-true (x ∷ filter test ks) (filter test ks) z) ∙ cond-false (Some x) (find eq (filter test ks) q) y ∙ inner ∙ ap (λ o. cond (test q) o None) (sym past))
      (λ z. ap (λ l. find eq l q) (cond-false (x ∷ filter test ks) (filter test ks) z) ∙ inner ∙ ap (λ o. cond (test q) o None) (sym past)))

module _ {F K : Type 0} (T : F → K → Bool → F → Type 0) (test : K → Bool) (f : F) (says : (k : K) (b : Bool) (f' : F) → T f k b f' → (b ≡ test k) × (f' ≡ f)) where
  said : (g : F) (k : K) (b : Bool) (g' : F) → g ≡ f → T g k b g' → (b ≡ test k) × (g' ≡ f)
  said g k b g' e t = says k b g' (subst (λ z. T z k b g') e t)

  walked : {g last : F} {ks stay : List K} → g ≡ f → Retains T g ks stay last → stay ≡ filter test ks
  walked e retained = refl
  walked e (stayed {f = g} {f' = g'} {q = k} {ks = ks} {stay = stay} t rest) =
      let s = said g k true g' e t in
      ap (λ l. k ∷ l) (walked s.1 rest) ∙ sym (cond-true (k ∷ filter test ks) (filter test ks) (sym s.0))
  walked e (went {f = g} {f' = g'} {q = k} {ks = ks} {stay = stay} t rest) =
      let s = said g k false g' e t in
      walked s.1 rest ∙ sym (cond-false (k ∷ filter test ks) (filter test ks) (sym s.0))

  -- if the closure only tests, the keys that stay are the keys that pass the test
  pub retains-filter : (ks stay : List K) (last : F) → Retains T f ks stay last → stay ≡ filter test ks
  retains-filter ks stay last r = walked refl r

module _ {K : Type 0} (eq : K → K → Bool) where
  -- a look-up of q finds a key just if q is a member
  pub is-there : (ks : List K) (q : K) → is_some (find eq ks q) ≡ is_member eq ks q
  is-there [] q = refl
  is-there (x ∷ ks) q = elim (eq q x) as (λ y. is_some (cond y (Some x) (find eq ks q)) ≡ (y || is_member eq ks q)) [ true ↦ refl | false ↦ is-there ks q ]

  pub not-there : (ks : List K) (q : K) → find eq ks q ≡ None → is_member eq ks q ≡ false
  not-there ks q e = sym (is-there ks q) ∙ ap is_some e

  pub same-members : (old new : List K) → ((q : K) → find eq new q ≡ find eq old q) → (q : K) → is_member eq new q ≡ is_member eq old q
  same-members old new h q = sym (is-there new q) ∙ ap is_some (h q) ∙ is-there old q

  put-there : (b : Bool) (k : K) (o : Option K) → is_some (cond b (Some k) o) ≡ (is_some o || (b || false))
  put-there true k None = refl
  put-there true k (Some x) = refl
  put-there false k None = refl
  put-there false k (Some x) = refl

  -- after k was put in, the members are the members of `done ++ k ∷ []`
  pub one-more : (old new done : List K) (k : K) → ((q : K) → is_member eq old q ≡ is_member eq done q) → FindsInstead eq old k (Some k) new → (q : K) → is_member eq new q ≡ is_member eq (done ++ k ∷ []) q
  one-more old new done k same f q =
      sym (is-there new q) ∙ ap is_some (f.finds q) ∙ put-there (eq q k) k (find eq old q) ∙ ap (λ b. b || (eq q k || false)) (is-there old q ∙ same q) ∙ sym (list_any-append (eq q) done (k ∷ []))

  pub listed-more : (list done : List K) (k : K) → ((q : K) → is_member eq list q ≡ is_member eq done q) → (q : K) → is_member eq (list ++ k ∷ []) q ≡ is_member eq (done ++ k ∷ []) q
  listed-more list done k same q = list_any-append (eq q) list (k ∷ []) ∙ ap (λ b. b || (eq q k || false)) (same q) ∙ sym (list_any-append (eq q) done (k ∷ []))

or-same : (a b : Bool) → (b ≡ true → a ≡ true) → a ≡ (a || (b || false))
or-same true b h = refl
or-same false true h = h refl
or-same false false h = refl

module _ {K : Type 0} {eq : K → K → Bool} (laws : IsEquivalence eq) where
  -- if k is a member already, the members are the members of `done ++ k ∷ []`
  pub no-more : (list done : List K) (k : K) → ((q : K) → is_member eq list q ≡ is_member eq done q) → is_member eq done k ≡ true → (q : K) → is_member eq list q ≡ is_member eq (done ++ k ∷ []) q
  no-more list done k same here q =
      same q ∙ or-same (is_member eq done q) (eq q k) (λ y. list_any_congr laws q k done y ∙ here) ∙ sym (list_any-append (eq q) done (k ∷ []))

pub none-distinct : {K : Type 0} (eq : K → K → Bool) → IsDistinct eq []
unfolding IsDistinct
none-distinct eq = tt

alike-answers : (a b : Bool) → (a ≡ true → b ≡ true) → (b ≡ true → a ≡ true) → a ≡ b
alike-answers true b f g = sym (f refl)
alike-answers false true f g = g refl
alike-answers false false f g = refl

-- if `had` says whether o is there, and b is the opposite of `had`, b says whether o is missing
pub turned : {X : Type 0} (b had : Bool) (o : Option X) → b ≡ not had → IsTrue had ↔ IsSome o → b ≡ not (is_some o)
turned b had o e h = e ∙ ap not (alike-answers had (is_some o) h.0 h.1)

not-first : {X : Type 0} (b : Bool) (o p : Option X) → p ≡ cond (not b) o None → p ≡ cond b None o
not-first true o p e = e
not-first false o p e = e

module _ {K S T : Type 0} {eq : K → K → Bool} (laws : IsEquivalence eq) (c d : Contents K S) (e : Contents K T) where
  abbrev pub lacks : K → Bool
  lacks k = not (is_some (find eq (entries e) k))

  lacks-alike : (a b : K) → eq a b ≡ true → lacks a ≡ lacks b
  lacks-alike a b y = ap (λ o. not (is_some o)) (find-alike laws (entries e) a b y)

  -- if just the keys that are not in e stay, a look-up finds what it found before, if the key is not in e
  pub finds-difference : (ks stay : List K) → IsPermutation (entries c) ks → stay ≡ filter lacks ks → Holds c stay d → IsUnique eq c → IsUnique eq d → (q : K) → find eq (entries d) q ≡ cond (is_some (find eq (entries e) q)) None (find eq (entries c) q)
  finds-difference ks stay p same h u v q =
      not-first (is_some (find eq (entries e) q)) (find eq (entries c) q) (find eq (entries d) q)
      (sym (find-rearranged laws (entries d) stay q (IsPermutation-sym stay (entries d) h.same) v)
      ∙ ap (λ l. find eq l q) same
      ∙ find-filter laws lacks lacks-alike ks q
      ∙ ap (λ o. cond (lacks q) o None) (find-rearranged laws (entries c) ks q p u))
