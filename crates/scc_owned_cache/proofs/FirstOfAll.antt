-- What a look-up among all pairs finds is the pair of the key in the key's list.
use Rattle.std.proofs.Common.{◌≡◌, ℕ, zero, suc, ◌<◌, Bool, true, List, [], ◌∷◌, length, Option, None, Some, MatchOption, refl, sym, ap, subst, ◌∙◌, arith}
use Rattle.std.specs.Borrow.{Bor}
use Rattle.std.specs.List.{find, flat_map, position, slice_index_or}
use Rattle.std.specs.Option.{option_copied}
use native.Mathlib.Decide.{dec_lt}
use Rattle.scc_buckets.specs.Bounded.{IsListed}
use Rattle.scc_common.specs.Contents.{Contents, entries, bucket_count, list_of, settings_of}
use Rattle.scc_buckets.proofs.FindingLemmas.{HashOf}
use Rattle.scc_buckets.proofs.Finds.{find-routed, lookup-find}
use Rattle.scc_buckets.proofs.Lookups.{find-position, find-position_none}
use Rattle.scc_table.proofs.resizes.Installation.{number-within}
use Rattle.scc_owned_cache.specs.CacheSteps.{IsAbsent, IsPresent, list_number}
use Rattle.scc_owned_cache.proofs.Caching.{is-missing, is-there}

-- without a list there is no entry
no-list : {E S : Type 0} (c : Contents E S) (i : ℕ) → bucket_count c ≡ 0 → entries c ≡ list_of c i
unfolding entries bucket_count list_of
no-list {E} c i none = by_lists c.lists none where
  by_lists : (ls : List (List E)) → length ls ≡ 0 → flat_map (λ l. l) ls ≡ slice_index_or ls i []
  by_lists [] z = refl
  by_lists (l ∷ ls) z = absurd (omega arith)

module _ {K V S : Type 0} (hash : K → ℕ) (eq : K → K → Bool) (c : Contents (K × V) S) (k : K) where
  -- the first pair of the list of k whose key equals k
  first-in-list : (i : ℕ) → i ≡ list_number hash c (bucket_count c) k → (r : Option (K × V)) → r ≡ find (λ p. eq k p.0) (list_of c i) → MatchOption r (IsAbsent hash eq c k) (IsPresent hash eq c k)
  first-in-list i at r found = by_position (position (λ (p : K × V). eq k p.0) (list_of c i)) refl where
    by_position : (o : Option ℕ) → position (λ p. eq k p.0) (list_of c i) ≡ o → MatchOption r (IsAbsent hash eq c k) (IsPresent hash eq c k)
    by_position None n =
        let none : r ≡ None = found ∙ sym (lookup-find (eq k) (list_of c i)) ∙ find-position_none (eq k) (list_of c i) n in
        subst (λ o. MatchOption o (IsAbsent hash eq c k) (IsPresent hash eq c k)) (sym none) (is-missing eq (list_number hash c) c k i at n)
    by_position (Some j) s =
        let f = find-position (eq k) (list_of c i) j s in
        let some : r ≡ Some f.0 = found ∙ sym (lookup-find (eq k) (list_of c i)) ∙ f.2 in
        subst (λ o. MatchOption o (IsAbsent hash eq c k) (IsPresent hash eq c k)) (sym some) (j, is-there eq (list_number hash c) c k i at j f.0 s f.1)

  -- the first of all pairs whose key equals k
  pub first-of-all : IsListed (λ p. hash p.0) c → ((q : K) → eq k q ≡ true → hash k ≡ hash q) → (r : Option (K × V)) → r ≡ find (λ p. eq k p.0) (entries c) → MatchOption r (IsAbsent hash eq c k) (IsPresent hash eq c k)
  first-of-all listed alike r found =
      let i = list_number hash c (bucket_count c) k in
      let same : HashOf (λ (p : K × V). eq k p.0) (λ p. hash p.0) (hash k) = record { same = λ p w. sym (alike p.0 w) } in
      first-in-list i refl r (found ∙ elim (dec_lt 0 (bucket_count c)) [
        | yes some ↦ find-routed (λ (p : K × V). eq k p.0) (λ p. hash p.0) (hash k) same c (record { routed = listed.routed }) i refl (number-within (settings_of c).skipped (bucket_count c) (hash k) some)
        | no none ↦ ap (find (λ (p : K × V). eq k p.0)) (no-list c i (omega arith))
      ])

-- a fact about a borrowed answer, from the fact about its value
pub by_borrow : {X : Type 0} (A : Type 0) (Q : X → Type 0) (o : Option (Bor X)) → MatchOption (option_copied o) A Q → MatchOption o A (λ b. Q b.now)
by_borrow A Q None m = m
by_borrow A Q (Some b) m = m
