-- What the calls of a cache do to its lists, each from the least to the most recent pair. `number n k` is the number
-- of the list of k among n lists.
use Rattle.std.specs.Prelude.{◌≡◌, ℕ, ◌<◌, ◌≤◌, Bool, List, [], ◌∷◌, ◌++◌, length, Option, None, Some, slice_get, remove}
use Rattle.std.specs.List.{position, slice_index_or, slice_set}
use Rattle.scc_common.specs.Pairs.{find}

module _ {K V : Type 0} (number : ℕ → K → ℕ) where
  -- the list of k, or the empty list if there is no list
  abbrev pub list_for : List (List (K × V)) → K → List (K × V)
  list_for ls k = slice_index_or ls (number (length ls) k) []

  -- the lists, with es as the list of k
  abbrev pub with_list : List (List (K × V)) → K → List (K × V) → List (List (K × V))
  with_list ls k es = slice_set ls (number (length ls) k) es

  module _ (eq : K → K → Bool) where
    -- no pair in the list of k has a key that equals k
    abbrev pub IsMissing : List (List (K × V)) → K → Type 0
    IsMissing ls k = position (λ p. eq k p.0) (list_for ls k) ≡ None

    -- p is the first pair in the list of k whose key equals k, and stands at i in the list
    pub record IsThere (ls : List (List (K × V))) (k : K) (i : ℕ) (p : K × V) : Type 0 where
      pub first : position (λ q. eq k q.0) (list_for ls k) ≡ Some i
      pub pair : slice_get (list_for ls k) i ≡ Some p

    -- the pair of k in the list of k, if there is one
    abbrev pub pair_for : List (List (K × V)) → K → Option (K × V)
    pair_for ls k = find eq (list_for ls k) k

    -- the new pair p stands last in its key's list; if the list held 32 pairs, its first pair x was evicted
    abbrev pub PutsPair : K × V → Option (K × V) → List (List (K × V)) → List (List (K × V)) → Type 0
    PutsPair p None ls ms = IsMissing ls p.0 × (0 < length ls) × (length (list_for ls p.0) < 32) × (ms ≡ with_list ls p.0 (list_for ls p.0 ++ p ∷ []))
    PutsPair p (Some x) ls ms = IsMissing ls p.0 × (32 ≤ length (list_for ls p.0)) × ((rest : List (K × V)) × (list_for ls p.0 ≡ x ∷ rest) × (ms ≡ with_list ls p.0 (rest ++ p ∷ [])))

    -- p, the pair of k, is taken out of its list, and q stands last in the list
    abbrev pub RefreshesAs : K → K × V → K × V → List (List (K × V)) → List (List (K × V)) → Type 0
    RefreshesAs k p q ls ms = (i : ℕ) × IsThere ls k i p × (ms ≡ with_list ls k (remove (list_for ls k) i ++ q ∷ []))

    -- p, the pair of k, moves to the end of its list
    abbrev pub Refreshes : K → K × V → List (List (K × V)) → List (List (K × V)) → Type 0
    Refreshes k p = RefreshesAs k p p

    -- q stands in the place of p, the pair of k
    abbrev pub Rewrites : K → K × V → K × V → List (List (K × V)) → List (List (K × V)) → Type 0
    Rewrites k p q ls ms = (i : ℕ) × IsThere ls k i p × (ms ≡ with_list ls k (slice_set (list_for ls k) i q))

    -- p, the pair of k, is taken out of its list
    abbrev pub TakesOut : K → K × V → List (List (K × V)) → List (List (K × V)) → Type 0
    TakesOut k p ls ms = (i : ℕ) × IsThere ls k i p × (ms ≡ with_list ls k (remove (list_for ls k) i))
