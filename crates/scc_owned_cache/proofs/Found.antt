-- A search in one list finds the first pair whose key equals the searched key.
use Rattle.std.proofs.Common.{◌≡◌, ◌∙◌, ℕ, Bool, List, None, Some, sym}
use Rattle.scc_buckets.proofs.Lookups.{find-position, find-position_none}
use Rattle.scc_owned_cache.specs.ListSteps.{list_for, pair_for, IsMissing, IsThere}

module _ {K V : Type 0} (number : ℕ → K → ℕ) (eq : K → K → Bool) (ls : List (List (K × V))) (k : K) where
  -- if p is the pair of k at index i, the search for k finds p
  pub there-found : (i : ℕ) (p : K × V) → IsThere number eq ls k i p → pair_for number eq ls k ≡ Some p
  there-found i p at =
      let f = find-position (eq k) (list_for number ls k) i at.first in
      let same : f.0 ≡ p = let z : Some f.0 ≡ Some p = sym f.1 ∙ at.pair in cc in
      rw (← same) f.2

  -- if no key equals k, the search for k finds nothing
  pub missing-found : IsMissing number eq ls k → pair_for number eq ls k ≡ None
  missing-found none = find-position_none (eq k) (list_for number ls k) none
