-- An insertion at a place of a map or an index under a rule, as a step of the call that makes it.
use Rattle.std.proofs.Common.{◌≡◌, ℕ, Bool, true, false, None, Some, Result, Ok, Err, rules}
use Rattle.std.specs.Cmp.{IsEquivalence}
use Rattle.scc_buckets.specs.declared.place.Place.{Place}
use Rattle.scc_buckets.proofs.KeyWrites.{grows-same}
use Rattle.scc_buckets.proofs.Lookups.{finds-added}
use Rattle.scc_common.specs.Contents.{Contents, entries, hash_in}
use Rattle.scc_common.specs.Pairs.{find, FindsInstead}
use Rattle.scc_common.specs.declared.errors.InsertError.TheVariants.{Memory}
use Rattle.scc_table.specs.Arrays.{GrowsByRule}
use Rattle.scc_owned.specs.IndexSteps as versions
use Rattle.scc_owned.specs.Insertions.{InsertsInto}
use Rattle.scc_owned.specs.MapSteps.{Inserts}
use Rattle.scc_owned.proofs.AfterSteps.{finds-unchanged}
use Rattle.scc_owned.proofs.CallerLemmas.{finds-rearranged}

module _ {K V S : Type 0} {eq : K → K → Bool} (laws : IsEquivalence eq) (hash_of : S → K → ℕ) (c d : Contents (K × V) S) (k : K) (v : V) where
  abbrev Step : Bool → Result Place (K × V) → Type 0
  Step taking r = InsertsInto (λ (p : K × V). p.0) eq hash_of taking c k v (k, v) r d

  -- a look-up finds the pair that was inserted
  pub added-finds : (taking : Bool) (p : Place) → Step taking (Ok p) → FindsInstead eq (entries c) k (Some (k, v)) (entries d)
  added-finds taking p s = finds-added laws (entries c) (entries d) (k, v) s.ok.holds.same s.unique

  -- look-ups find what they found if memory is refused
  pub refused-same : (q : K × V) → Step false (Err q) → (x : K) → find eq (entries d) x ≡ find eq (entries c) x
  refused-same q s = finds-rearranged laws c d s.rests.rests s.unique

  pub refused-same_version : (q : K × V) → Step true (Err q) → (x : K) → find eq (entries d) x ≡ find eq (entries c) x
  refused-same_version q s = finds-unchanged laws c d s.rests.unchanged

  module _ (none : find eq (entries c) k ≡ None) where
    pub added-step : (p : Place) → Step false (Ok p) → Inserts eq (hash_in hash_of c) c (k, v) (Ok tt) d
    added-step p s = (none, s.ok.holds)

    pub refused-step : (q : K × V) → Step false (Err q) → Inserts eq (hash_in hash_of c) c (k, v) (Err (Memory q)) d
    refused-step q s = (s.refused, none, s.rests.rests, s.full)

    pub added-version : (p : Place) → Step true (Ok p) → versions.Inserts eq c (k, v) (Ok tt) d
    added-version p s = (none, s.ok.holds)

    pub refused-version : (q : K × V) → Step true (Err q) → versions.Inserts eq c (k, v) (Err (Memory q)) d
    refused-version q s = (s.refused, none, s.rests.unchanged)

    module _ {A B : Type 0} where
      -- what an insertion that succeeds does to the array
      pub added-array : (taking : Bool) (p : Place) (a : A) (r : Result A B) → r ≡ Ok a → Step taking (Ok p) → GrowsByRule (λ (p : K × V). p.0) (hash_in hash_of c) (find eq (entries c) k) c k r d
      added-array taking p a r is s = rw (is, none) record {
        growth = s.growth.grows.growth;
        kept = λ _. s.growth.grows.kept;
        once = s.growth.once;
        due = λ _. s.growth.grows.due;
        first = λ _. s.growth.first;
        noted = λ there. absurd (search rules);
        relocates = λ _. s.relocates;
        two = λ _. s.two;
        waiting = λ there. absurd (search rules);
      }

      -- what an insertion into a map that is refused memory does to the array
      pub refused-array : (q : K × V) (b : B) (r : Result A B) → r ≡ Err b → Step false (Err q) → GrowsByRule (λ (p : K × V). p.0) (hash_in hash_of c) (find eq (entries c) k) c k r d
      refused-array q b r is s = rw (is, none) record {
        growth = s.rests.grows.growth;
        kept = λ _. s.rests.grows.kept;
        once = s.rests.once;
        due = λ _. s.rests.grows.due;
        first = λ _. tt;
        noted = λ there. absurd (search rules);
        relocates = λ _. s.relocates;
        two = λ _. tt;
        waiting = λ there. absurd (search rules);
      }

      -- what an insertion into an index that is refused memory does to the array
      pub refused-array_version : (q : K × V) (b : B) (r : Result A B) → r ≡ Err b → Step true (Err q) → GrowsByRule (λ (p : K × V). p.0) (hash_in hash_of c) (find eq (entries c) k) c k r d
      refused-array_version q b r is s = rw (is, none) record {
        growth = grows-same c d s.rests.unchanged.buckets;
        kept = λ _ _. s.rests.unchanged.buckets;
        once = λ _. s.rests.unchanged.buckets;
        due = λ _. s.rests.due;
        first = λ _. tt;
        noted = λ there. absurd (search rules);
        relocates = λ _. s.relocates;
        two = λ _. tt;
        waiting = λ there. absurd (search rules);
      }
