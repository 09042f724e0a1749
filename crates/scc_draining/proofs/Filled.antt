-- A bucket without entries, which the entries of an old array fill, or which stays as it is.
use Rattle.std.proofs.Common.{◌≡◌, ℕ, ◌+◌, ◌^◌, ◌<◌, ◌≤◌, Bool, List, [], length, map, set, refl, sym, ◌∙◌, subst, arith, Result}
use Rattle.std.specs.List.{flat_map, IsDistinct}
use Rattle.scc_array.specs.Shelf.{Shelf, empty_shelf, shelf_entries}
use Rattle.scc_array.specs.Shelves.{shelf_of}
use Rattle.scc_buckets.specs.Pour.{destined_for}
use Rattle.scc_buckets.specs.Filling.{IsArrayOf, IsFilledArray}
use Rattle.scc_buckets.specs.Routes.{Route, route_of}
use Rattle.scc_buckets.specs.Tables.{IsBuckets}
use Rattle.scc_buckets.proofs.Arrays.{shelf-at}
use Rattle.scc_buckets.proofs.Inserts.{bucket-bound}
use Rattle.scc_common.specs.Contents.{Contents, bucket_count, hash_in, list_of, lists_of, settings_of, IsUniqueBy}
use Rattle.scc_draining.specs.Filling.{Fills}
use Rattle.scc_draining.specs.Moves.{IsDrainable}
use Rattle.scc_draining.proofs.Arriving.{Landed, count-were, is-bare, list-were, landed-from, landed-list, landed-spilled, landed-table, distinct-landed, any-ok}
use Rattle.scc_draining.proofs.Buckets.{still-within}

-- the bucket i of the table bs held no entry, and is filled by the entries of olds that belong to it, so that the array
-- becomes ns; or that failed
pub record IsFilled {E X : Type 0} (hash : E → ℕ) (t i : ℕ) (bs olds news ns : List (Shelf E)) (count over left coming : ℕ) (r : Result (Unit {0}) X) : Type 0 where
  pub table : IsBuckets hash t bs count over
  pub within : i < length bs
  pub bare : shelf_entries (shelf_of bs i) ≡ []
  pub most : length (destined_for hash t (length bs) i (flat_map shelf_entries olds)) ≤ coming
  pub fills : Fills hash t (length bs) i coming left bs olds r ns news

module _ {E X : Type 0} {hash : E → ℕ} {t i : ℕ} {bs olds news ns : List (Shelf E)} {count over left coming : ℕ} {r : Result (Unit {0}) X} (x : IsFilled hash t i bs olds news ns count over left coming r) where
  landed-in : Landed hash (destined_for hash t (length bs) i (flat_map shelf_entries olds)) left (shelf_of ns i)
  landed-in = landed-from hash t i bs olds news (shelf_of ns i) left coming t (length bs) refl refl x.most r x.fills.ok x.fills.few x.fills.stays

  pub within-filled : i < length ns
  within-filled = still-within bs ns i x.within x.fills.others

  -- at most as many entries as allowed stand in its overflow list
  pub spilled-filled : length (shelf_of ns i).overflow ≤ left
  spilled-filled = landed-spilled hash t i bs (shelf_of bs i) (flat_map shelf_entries olds) left (shelf_of ns i) landed-in

  -- if at most 32 entries come, none stands in its overflow list
  pub spilled-none : coming ≤ 32 → length (shelf_of ns i).overflow ≤ 0
  spilled-none few =
      let none : coming ≤ 32 + 0 = few in
      landed-spilled hash t i bs (shelf_of bs i) (flat_map shelf_entries olds) 0 (shelf_of ns i)
      (landed-from hash t i bs olds news (shelf_of ns i) 0 coming t (length bs) refl refl x.most r x.fills.ok (any-ok r none) x.fills.stays)

  -- the array is a table again
  pub table-filled : over + left < 2 ^ 62 → IsBuckets hash t ns (count + length (shelf_entries (shelf_of ns i))) (over + length (shelf_of ns i).overflow)
  table-filled few =
      subst (λ (z : List (Shelf E)). IsBuckets hash t z (count + length (shelf_entries (shelf_of ns i))) (over + length (shelf_of ns i).overflow)) (sym x.fills.others)
      (landed-table hash t i bs (shelf_of bs i) (flat_map shelf_entries olds) left (shelf_of ns i) count over x.table x.within (shelf-at bs i x.within) x.bare few landed-in)

  pub bucket-filled : over + left < 2 ^ 62 → length (shelf_entries (shelf_of ns i)) < 2 ^ 63
  bucket-filled few = bucket-bound hash t (count + length (shelf_entries (shelf_of ns i))) (over + length (shelf_of ns i).overflow) i ns (shelf_of ns i) (table-filled few) within-filled (shelf-at ns i within-filled)

  -- keys stay distinct if those of the lists with the entries that come are
  pub distinct-filled : {K S : Type 0} (eq : K → K → Bool) (key : E → K) (c : Contents E S) → lists_of c ≡ map shelf_entries bs → IsUniqueBy eq key c
      → IsDistinct eq (map key (flat_map (λ l. l) (set (lists_of c) i (destined_for hash t (length bs) i (flat_map shelf_entries olds))))) → IsDistinct eq (map key (flat_map shelf_entries ns))
  distinct-filled eq key c were unique there =
      let es = destined_for hash t (length bs) i (flat_map shelf_entries olds) in
      subst (λ (z : List (Shelf E)). IsDistinct eq (map key (flat_map shelf_entries z))) (sym x.fills.others)
      (distinct-landed eq key c bs were i (shelf_of ns i) es (shelf_of bs i) x.within (shelf-at bs i x.within) x.bare (landed-list hash t i bs (shelf_of bs i) (flat_map shelf_entries olds) left (shelf_of ns i) landed-in) unique there)

-- bs is the array of c, whose list i is empty
module _ {E K S : Type 0} (eq : K → K → Bool) (hash_of : S → K → ℕ) (key : E → K) (c : Contents E S) {bs : List (Shelf E)} {count over : ℕ} (array : IsArrayOf eq key (λ e. hash_in hash_of c (key e)) c bs count over) (i : ℕ) (target : i < bucket_count c) (none : list_of c i ≡ []) where
  pub target-within : i < length bs
  target-within = let n = count-were c bs array.were in omega (arith, target, n)

  pub target-bare : shelf_entries (shelf_of bs i) ≡ []
  target-bare = sym (list-were c bs array.were i (shelf_of bs i) target-within (shelf-at bs i target-within)) ∙ none

  pub target-empty : shelf_of bs i ≡ record empty_shelf { room = (shelf_of bs i).room }
  target-empty = is-bare (λ e. hash_in hash_of c (key e)) (settings_of c).skipped i bs (shelf_of bs i) (array.table.own i (shelf_of bs i) target-within (shelf-at bs i target-within)) target-bare

  module _ {X : Type 0} {n left coming : ℕ} {olds news ns : List (Shelf E)} {r : Result (Unit {0}) X} (size : n ≡ bucket_count c) (most : length (destined_for (λ e. hash_in hash_of c (key e)) (settings_of c).skipped (bucket_count c) i (flat_map shelf_entries olds)) ≤ coming)
      (route : Route S) (at : route ≡ route_of c) (fills : Fills (λ e. hash_of route.hasher (key e)) route.skipped n i coming left bs olds r ns news) where
    pub target-filled : IsFilled (λ e. hash_in hash_of c (key e)) (settings_of c).skipped i bs olds news ns count over left coming r
    target-filled =
        let counted = count-were c bs array.were in
        let here : Fills (λ e. hash_in hash_of c (key e)) (settings_of c).skipped n i coming left bs olds r ns news = subst (λ (z : Route S). Fills (λ e. hash_of z.hasher (key e)) z.skipped n i coming left bs olds r ns news) at fills in
        record {
          table = array.table;
          within = target-within;
          bare = target-bare;
          most = subst (λ m. length (destined_for (λ e. hash_in hash_of c (key e)) (settings_of c).skipped m i (flat_map shelf_entries olds)) ≤ coming) counted most;
          fills = subst (λ m. Fills (λ e. hash_in hash_of c (key e)) (settings_of c).skipped m i coming left bs olds r ns news) (size ∙ counted) here;
        }

    -- the array is one of c with a filled bucket
    pub array-filled : over + left < 2 ^ 62 → IsDistinct eq (map key (flat_map (λ l. l) (set (lists_of c) i (destined_for (λ e. hash_in hash_of c (key e)) (settings_of c).skipped (bucket_count c) i (flat_map shelf_entries olds)))))
        → IsFilledArray eq key (λ e. hash_in hash_of c (key e)) c i count over ns
    array-filled few distinct =
        let there = subst (λ m. IsDistinct eq (map key (flat_map (λ l. l) (set (lists_of c) i (destined_for (λ e. hash_in hash_of c (key e)) (settings_of c).skipped m i (flat_map shelf_entries olds)))))) (count-were c bs array.were) distinct in
        record {
          within = within-filled target-filled;
          table = table-filled target-filled few;
          unique = distinct-filled target-filled eq key c array.were array.unique there;
        }

-- a route that is that of c says of entries what c says
module _ {E K S : Type 0} (hash_of : S → K → ℕ) (key : E → K) (c : Contents E S) (route : Route S) (at : route ≡ route_of c) {n : ℕ} (size : n ≡ bucket_count c) (i : ℕ) (olds : List (Shelf E)) where
  pub drainable-by : {first last : ℕ} {whole : Bool} → IsDrainable (λ e. hash_in hash_of c (key e)) (settings_of c).skipped (bucket_count c) i first last whole olds → IsDrainable (λ e. hash_of route.hasher (key e)) route.skipped n i first last whole olds
  drainable-by {first} {last} {whole} h =
      subst (λ (z : Route S). IsDrainable (λ e. hash_of z.hasher (key e)) z.skipped n i first last whole olds) (sym at)
      (subst (λ m. IsDrainable (λ e. hash_in hash_of c (key e)) (settings_of c).skipped m i first last whole olds) (sym size) h)

  pub coming-by : (coming : ℕ) → length (destined_for (λ e. hash_in hash_of c (key e)) (settings_of c).skipped (bucket_count c) i (flat_map shelf_entries olds)) ≤ coming
      → length (destined_for (λ e. hash_of route.hasher (key e)) route.skipped n i (flat_map shelf_entries olds)) ≤ coming
  coming-by coming h =
      subst (λ (z : Route S). length (destined_for (λ e. hash_of z.hasher (key e)) z.skipped n i (flat_map shelf_entries olds)) ≤ coming) (sym at)
      (subst (λ m. length (destined_for (λ e. hash_in hash_of c (key e)) (settings_of c).skipped m i (flat_map shelf_entries olds)) ≤ coming) (sym size) h)
