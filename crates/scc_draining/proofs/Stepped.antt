-- The entries of the old array before one of its places, and before the next place.
use Rattle.std.proofs.Common.{◌≡◌, ◌≢◌, ℕ, ◌+◌, ◌<◌, ◌≤◌, Some, List, [], ◌∷◌, ◌++◌, length, take, refl, sym, ap, ◌∙◌, add-one, append_assoc}
use Rattle.std.specs.List.{flat_map, slice_get}
use Rattle.std.proofs.lemmas.List.{append-nil, take_all}
use Rattle.scc_array.specs.Shelves.{shelf_of}
use Rattle.scc_array.specs.Shelf.{Shelf, empty_shelf, shelf_entries}
use Rattle.scc_buckets.specs.Pour.{destined_for}
use Rattle.scc_common.specs.Routing.{bucket_number}
use Rattle.scc_buckets.proofs.Arrays.{take-got}
use Rattle.scc_buckets.proofs.Pours.{destined_append, destined_here, destined_other}
use Rattle.scc_draining.specs.Moves.{IsWithinSources}
use Rattle.scc_draining.specs.Stepping.{entries_before, StandsNext}
use Rattle.scc_draining.proofs.Drains.{before-none, flat-more}

take-none : {X : Type 0} (xs : List X) → take 0 xs ≡ []
take-none [] = refl
take-none (x ∷ xs) = refl

module _ {E : Type 0} (olds : List (Shelf E)) (j : ℕ) where
  pub before-more : (s : ℕ) (e : E) → slice_get (shelf_entries (shelf_of olds j)) s ≡ Some e → entries_before olds j (s + 1) ≡ entries_before olds j s ++ e ∷ []
  before-more s e got =
      let xs = shelf_entries (shelf_of olds j) in
      let fs = flat_map shelf_entries (take j olds) in
      ap (λ n. fs ++ take n xs) (add-one s) ∙ ap (λ z. fs ++ z) (take-got xs s e got) ∙ sym (append_assoc fs (take s xs) (e ∷ []))

  -- all entries of bucket j stand before its end
  pub before-end : (s : ℕ) → j < length olds → length (shelf_entries (shelf_of olds j)) ≤ s → entries_before olds j s ≡ flat_map shelf_entries (take (j + 1) olds)
  before-end s l far = ap (λ z. flat_map shelf_entries (take j olds) ++ z) (take_all s (shelf_entries (shelf_of olds j)) far) ∙ sym (flat-more j olds l)

  pub before-start : entries_before olds j 0 ≡ flat_map shelf_entries (take j olds)
  before-start = ap (λ z. flat_map shelf_entries (take j olds) ++ z) (take-none (shelf_entries (shelf_of olds j))) ∙ append-nil (flat_map shelf_entries (take j olds))

  module _ (hash : E → ℕ) (t n i s : ℕ) (e : E) (got : slice_get (shelf_entries (shelf_of olds j)) s ≡ Some e) where
    -- an entry of another bucket is skipped
    pub destined-skip : i ≢ bucket_number t n (hash e) → destined_for hash t n i (entries_before olds j (s + 1)) ≡ destined_for hash t n i (entries_before olds j s)
    destined-skip ne =
        let bs = destined_for hash t n i (entries_before olds j s) in
        ap (destined_for hash t n i) (before-more s e got) ∙ destined_append hash t n i (entries_before olds j s) (e ∷ []) ∙ ap (λ z. bs ++ z) (destined_other hash t n i e [] ne) ∙ append-nil bs

    -- an entry of this bucket is counted
    pub destined-count : i ≡ bucket_number t n (hash e) → destined_for hash t n i (entries_before olds j (s + 1)) ≡ destined_for hash t n i (entries_before olds j s) ++ e ∷ []
    destined-count h =
        let bs = destined_for hash t n i (entries_before olds j s) in
        ap (destined_for hash t n i) (before-more s e got) ∙ destined_append hash t n i (entries_before olds j s) (e ∷ []) ∙ ap (λ z. bs ++ z) (destined_here hash t n i e [] h)

pub nothing-before : {E : Type 0} (olds : List (Shelf E)) → entries_before olds 0 0 ≡ []
nothing-before olds = before-start olds 0 ∙ ap (flat_map shelf_entries) (take-none olds)

module _ {E : Type 0} (hash : E → ℕ) (t n i first last : ℕ) (olds : List (Shelf E)) (sources : IsWithinSources hash t n i first last olds) where
  -- no entry of bucket i stands before the sources
  pub none-before : destined_for hash t n i (entries_before olds first 0) ≡ []
  none-before = ap (destined_for hash t n i) (before-start olds first) ∙ before-none hash t n i first last olds sources empty_shelf

  -- if the sources begin past the last old bucket, there is no entry of bucket i
  pub none-past : length olds ≤ first → destined_for hash t n i (flat_map shelf_entries olds) ≡ []
  none-past far = ap (λ z. destined_for hash t n i (flat_map shelf_entries z)) (sym (take_all first olds far)) ∙ before-none hash t n i first last olds sources empty_shelf

  -- the first entry of bucket i from the sources on is its first entry
  pub stands-first : {j s : ℕ} → StandsNext hash t n i olds first 0 j s → StandsNext hash t n i olds 0 0 j s
  stands-first next = record {
    entry = next.entry;
    within = next.within;
    here = next.here;
    target = next.target;
    before = next.before ∙ none-before ∙ ap (destined_for hash t n i) (sym (nothing-before olds));
  }
