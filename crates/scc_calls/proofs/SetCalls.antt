-- The calls of a set as calls on its state.
use Rattle.std.proofs.Common.{◌≡◌, ◌∙◌, ℕ, suc, arith, length, List, [], Bool, ◌∷◌, Option, None, Some, Ok, refl, sym, ap}
use Rattle.std.specs.Prelude.{IsSome, is_some}
use Rattle.std.specs.List.{position, slice_get, find as first_passing}
use Rattle.std.specs.List.Sorted.{IsPermutation}
use Rattle.std.specs.Option.{option_map}
use Rattle.std.proofs.lemmas.List.Sorted.{length_permutation}
use Rattle.scc_buckets.specs.declared.place.Place.{Place}
use Rattle.scc_buckets.proofs.FindingLemmas.{position_cons, position_hit}
use Rattle.scc_buckets.proofs.PairSplits.{by_answer, cond-true, cond-false}
use Rattle.scc_common.specs.Contents.{Contents, entries, settings_of}
use Rattle.scc_common.specs.Steps.{Holds}
use Rattle.scc_table.specs.Places.{IsFoundAt, index_of}
use Rattle.scc_owned_set.specs.Keys.{find, with_key, without}
use Rattle.scc_owned_set.specs.SetSteps.{Inserts, Removes, Replaces}
use Rattle.scc_calls.specs.Resized.{MovesResized}
use Rattle.scc_calls.specs.States.{ResizesTo, state_of, run_setting}
use Rattle.scc_calls.specs.SetCalls.{SetMoves}
use Rattle.scc_calls.specs.declared.calls_as_values.SetCall.TheVariants.{Insert, Replace, Remove, Clear}
use Rattle.scc_calls.specs.declared.replies.Reply.TheVariants.{Inserted, Key, Cleared}
use Rattle.scc_calls.proofs.States.{holds-changes, exactly-changes, unchanged-changes}

none-left : {E : Type 0} (l : List E) → IsPermutation [] l → l ≡ []
none-left [] p = refl
none-left (x ∷ l) p = absurd (let n : suc (length l) ≡ 0 = length_permutation [] (x ∷ l) p in omega (arith, n))

module _ {K H : Type 0} (eq : K → K → Bool) (hash : H → K → ℕ) (c d : Contents K H) where
  -- an insertion of a new key
  pub inserted : (k : K) (u : Unit {0}) → Inserts eq (hash (settings_of c).hasher) c k (Ok u) d → MovesResized (λ s. s.1) (SetMoves eq) (ResizesTo (run_setting c)) (state_of c) (Insert k) Inserted (state_of d)
  inserted k u h = holds-changes (SetMoves eq) (Insert k) Inserted c d (k ∷ entries c) h.1 (λ number l p. (h.0, p, refl))

  -- a replacement that is not refused
  pub replaced : (k : K) (o : Option K) → Replaces eq (hash (settings_of c).hasher) c k (Ok o) d → MovesResized (λ s. s.1) (SetMoves eq) (ResizesTo (run_setting c)) (state_of c) (Replace k) (Key o) (state_of d)
  replaced k None h = holds-changes (SetMoves eq) (Replace k) (Key None) c d (k ∷ entries c) h.1 (λ number l p. (h.0, p, refl))
  replaced k (Some q) h = exactly-changes (SetMoves eq) (Replace k) (Key (Some q)) c d (with_key eq (entries c) k) h.1 (λ e b. (h.0, e, b))

module _ {K H : Type 0} (eq : K → K → Bool) (c d : Contents K H) where
  -- a call that clears the set
  pub cleared : Holds c [] d → MovesResized (λ s. s.1) (SetMoves eq) (ResizesTo (run_setting c)) (state_of c) Clear Cleared (state_of d)
  cleared h = holds-changes (SetMoves eq) Clear Cleared c d [] h (λ number l p. (none-left l p, refl))

  -- a removal
  pub removed : (k : K) (o : Option K) → Removes eq c k o d → MovesResized (λ s. s.1) (SetMoves eq) (ResizesTo (run_setting c)) (state_of c) (Remove k) (Key o) (state_of d)
  removed k None h = unchanged-changes (SetMoves eq) (Remove k) (Key None) c d h.1 (λ e. (h.0, e))
  removed k (Some q) h = holds-changes (SetMoves eq) (Remove k) (Key (Some q)) c d (without eq (entries c) k) h.1 (λ number l p. (h.0, p, refl))

some-left : (o : Option ℕ) (i : ℕ) → option_map suc o ≡ Some i → (j : ℕ) × (o ≡ Some j) × (i ≡ suc j)
some-left None i e = absurd (let z : None ≡ Some i = e in cc)
some-left (Some k) i e = let z : Some (suc k) ≡ Some i = e in let w : suc k ≡ i = cc in (k, refl, sym w)

-- the element at the index of the first that passes is the first that passes
first-there : {X : Type 0} (test : X → Bool) (xs : List X) (i : ℕ) (x : X) → position test xs ≡ Some i → slice_get xs i ≡ Some x → first_passing test xs ≡ Some x
first-there test [] i x found got = absurd (let z : None ≡ Some i = found in cc)
first-there test (y ∷ xs) i x found got =
    by_answer (test y)
    (λ yes.
    let z : Some 0 ≡ Some i = sym (position_hit test y xs yes) ∙ found in
    let w : 0 ≡ i = cc in
    cond-true (Some y) (first_passing test xs) yes ∙ ap (slice_get (y ∷ xs)) w ∙ got)
    (λ no.
    let s = some-left (position test xs) i (sym (position_cons test y xs no) ∙ found) in
    cond-false (Some y) (first_passing test xs) no ∙ first-there test xs s.0 x s.1 (sym (ap (slice_get (y ∷ xs)) s.2) ∙ got))

-- the key at the place that a search found, or the key that it didn't find, as a look-up tells it
pub key-there : {K S : Type 0} (eq : K → K → Bool) (c : Contents K S) (k : K) (place : Place) (q : K) → IsFoundAt (eq k) c place → slice_get (entries c) (index_of c place) ≡ Some q → find eq (entries c) k ≡ Some q
key-there eq c k place q found got = first-there (eq k) (entries c) (index_of c place) q found.found got

some-there : {X : Type 0} (test : X → Bool) (xs : List X) (i : ℕ) → position test xs ≡ Some i → IsSome (first_passing test xs)
some-there test [] i found = absurd (let z : None ≡ Some i = found in cc)
some-there test (y ∷ xs) i found =
    by_answer (test y)
    (λ yes. ap is_some (cond-true (Some y) (first_passing test xs) yes))
    (λ no.
    let s = some-left (position test xs) i (sym (position_cons test y xs no) ∙ found) in
    ap is_some (cond-false (Some y) (first_passing test xs) no) ∙ some-there test xs s.0 s.1)

-- a key whose place a search found is there
pub is-there : {K S : Type 0} (eq : K → K → Bool) (c : Contents K S) (k : K) (place : Place) → IsFoundAt (eq k) c place → IsSome (find eq (entries c) k)
is-there eq c k place found = some-there (eq k) (entries c) (index_of c place) found.found
