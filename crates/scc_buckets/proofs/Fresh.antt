-- New arrays, whose buckets are empty.
use Rattle.std.proofs.Common.{◌≡◌, ℕ, ◌<◌, List, [], length, replicate, ap, ◌∙◌, arith}
use Rattle.std.proofs.lemmas.List.{get_or-replicate, length-replicate}
use Rattle.scc_array.specs.Shelves.{shelf_of}
use Rattle.scc_array.specs.Shelf.{Shelf, empty_shelf, shelf_entries}
use Rattle.scc_buckets.specs.Tables.{AllEmpty}
use Rattle.scc_buckets.proofs.Arrays.{shelf-at}

pub empty-replicate : (E : Type 0) (n : ℕ) → AllEmpty {E = E} (replicate n empty_shelf)
empty-replicate E n = record {
  empty = λ i b l at.
      let m : length (replicate n (empty_shelf {E = E})) ≡ n = length-replicate n (empty_shelf {E = E}) in
      let is : b ≡ empty_shelf = at ∙ get_or-replicate n i empty_shelf b (omega arith) in
      (ap shelf_entries is, ap (λ (s : Shelf E). s.tags) is);
}

pub all-empty : {E : Type 0} (bs : List (Shelf E)) → AllEmpty bs → (i : ℕ) → i < length bs → shelf_entries (shelf_of bs i) ≡ []
all-empty bs h i l = (h.empty i (shelf_of bs i) l (shelf-at bs i l)).0
