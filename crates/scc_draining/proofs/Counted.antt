-- How many entries of old buckets belong to a target.
use Rattle.std.proofs.Common.{◌≡◌, ◌==◌, ℕ, ◌+◌, ◌<◌, ◌≤◌, ◌≢◌, Some, List, [], ◌∷◌, ◌++◌, length, take, drop, sym, ap, ◌∙◌, arith, length-append}
use Rattle.std.specs.List.{flat_map, slice_get}
use Rattle.std.proofs.lemmas.List.{append-nil, take_more}
use Rattle.std.proofs.lemmas.List.Sums.{length-filter, count_by-le-length}
use native.Mathlib.Decide.{dec_lt}
use Rattle.scc_array.specs.Shelf.{Shelf, shelf_entries, empty_shelf}
use Rattle.scc_array.proofs.ListsLemmas.{get-is}
use Rattle.scc_array.specs.Shelves.{shelf_of}
use Rattle.scc_buckets.specs.Pour.{destined_for}
use Rattle.scc_common.specs.Routing.{bucket_number}
use Rattle.scc_buckets.proofs.Pours.{destined_append, destined_here, destined_other}
use Rattle.scc_draining.specs.Moves.{IsWithinSources}
use Rattle.scc_draining.proofs.Drains.{before-none, flat-more, flat-parts, take-all_bound}

pub destined-le : {E : Type 0} (hash : E → ℕ) (t n i : ℕ) (es : List E) → length (destined_for hash t n i es) ≤ length es
destined-le hash t n i es = omega (arith, length-filter (λ e. bucket_number t n (hash e) == i) es, count_by-le-length (λ e. bucket_number t n (hash e) == i) es)

module _ {E : Type 0} (hash : E → ℕ) (t n i k : ℕ) (es : List E) (e : E) (l : k < length es) (got : slice_get es k ≡ Some e) where
  more : take (k + 1) es ≡ take k es ++ e ∷ []
  more = take_more es k e l ∙ ap (λ z. take k es ++ z ∷ []) (sym (get-is es k e e got))

  pub counts-one : i ≡ bucket_number t n (hash e) → length (destined_for hash t n i (take (k + 1) es)) ≡ length (destined_for hash t n i (take k es)) + 1
  counts-one h =
      let xs = destined_for hash t n i (take k es) in
      ap (λ z. length (destined_for hash t n i z)) more ∙ ap length (destined_append hash t n i (take k es) (e ∷ []) ∙ ap (λ z. xs ++ z) (destined_here hash t n i e [] h)) ∙ length-append xs (e ∷ [])

  pub counts-none : i ≢ bucket_number t n (hash e) → length (destined_for hash t n i (take (k + 1) es)) ≡ length (destined_for hash t n i (take k es))
  counts-none h =
      let xs = destined_for hash t n i (take k es) in
      ap (λ z. length (destined_for hash t n i z)) more ∙ ap length (destined_append hash t n i (take k es) (e ∷ []) ∙ ap (λ z. xs ++ z) (destined_other hash t n i e [] h) ∙ append-nil xs)

module _ {E : Type 0} (hash : E → ℕ) (t n i first last : ℕ) (olds : List (Shelf E)) (sources : IsWithinSources hash t n i first last olds) where
  pub total-start : length (destined_for hash t n i (flat_map shelf_entries (take first olds))) ≡ 0
  total-start = ap length (before-none hash t n i first last olds sources empty_shelf)

  pub total-end : length (destined_for hash t n i (flat_map shelf_entries (take last olds))) ≡ length (destined_for hash t n i (flat_map shelf_entries olds))
  total-end = ap length (take-all_bound hash t n i first last olds sources empty_shelf)

  pub total-more : (m : ℕ) → m < length olds → length (destined_for hash t n i (flat_map shelf_entries (take (m + 1) olds))) ≡ length (destined_for hash t n i (flat_map shelf_entries (take m olds))) + length (destined_for hash t n i (shelf_entries (shelf_of olds m)))
  total-more m l =
      let xs = flat_map shelf_entries (take m olds) in
      ap (λ z. length (destined_for hash t n i z)) (flat-more m olds l) ∙ ap length (destined_append hash t n i xs (shelf_entries (shelf_of olds m))) ∙ length-append (destined_for hash t n i xs) (destined_for hash t n i (shelf_entries (shelf_of olds m)))

  -- if there is one source, it holds all entries of the target
  pub one-source : first + 1 ≡ last → length (destined_for hash t n i (flat_map shelf_entries olds)) ≤ length (shelf_entries (shelf_of olds first))
  one-source h =
      let l : first < length olds = omega (arith, sources.within) in
      let more = total-more first l in
      let end = ap (λ z. length (destined_for hash t n i (flat_map shelf_entries (take z olds)))) h in
      let few = destined-le hash t n i (shelf_entries (shelf_of olds first)) in
      omega (arith, total-start, more, end, total-end, few)

-- the first m buckets and bucket m have no more entries than all buckets
pub part-le : {E : Type 0} (olds : List (Shelf E)) (m : ℕ) → m < length olds → length (flat_map shelf_entries (take m olds)) + length (shelf_entries (shelf_of olds m)) ≤ length (flat_map shelf_entries olds)
part-le olds m l =
    let xs = flat_map shelf_entries (take m olds) in
    let a : length (flat_map shelf_entries (take (m + 1) olds)) ≡ length xs + length (shelf_entries (shelf_of olds m)) = ap length (flat-more m olds l) ∙ length-append xs (shelf_entries (shelf_of olds m)) in
    let b : length (flat_map shelf_entries olds) ≡ length (flat_map shelf_entries (take (m + 1) olds)) + length (flat_map shelf_entries (drop (m + 1) olds)) =
    ap length (flat-parts (m + 1) olds) ∙ length-append (flat_map shelf_entries (take (m + 1) olds)) (flat_map shelf_entries (drop (m + 1) olds)) in
    omega arith

-- if n is equal to m whenever n is more than 32, and m is at most 32, then n is at most 32
pub short-counted : (n m : ℕ) → (32 < n → n ≡ m) → m ≤ 32 → n ≤ 32
short-counted n m exact few = elim (dec_lt 32 n) [
  | yes l ↦ absurd (let same = exact l in omega arith)
  | no l ↦ omega arith
]
