-- How many entries stand before a place.
use Rattle.std.proofs.Common.{◌≡◌, ℕ, zero, suc, ◌+◌, ◌<◌, ◌≤◌, Bool, List, [], ◌∷◌, length, take, map, set, get_or, refl, sym, ap, ◌∙◌, arith, length-append, length-set, get_or-set_same, Option, None, Some, MatchOption}
use Rattle.std.specs.List.{flat_map, remove, slice_get}
use Rattle.std.proofs.lemmas.List.{map-set}
use Rattle.std.proofs.lemmas.List.Edits.{length-remove}
use Rattle.scc_common.specs.Contents.{Contents, Settings, entries, bucket_count, list_of}
use Rattle.scc_buckets.specs.Places.{IsSpot, index_of_spot}
use Rattle.scc_array.specs.Shelf.{Shelf, shelf_entries, without_slot}
use Rattle.scc_buckets.specs.declared.place.Place.{Place}
use Rattle.scc_buckets.proofs.Removes.{entries_without}
use Rattle.scc_array.proofs.ListsLemmas.{get-below}
use Rattle.scc_buckets.proofs.Spots.{before, flat-get}
use Rattle.scc_buckets.proofs.Views.{view_of, list-view}

skip : {E : Type 0} (ls : List (List E)) (i : ℕ) → i < length ls → before ls (suc i) ≡ before ls i + length (get_or ls i [])
skip [] i h = absurd (omega arith)
skip (l ∷ ls) zero h = omega (arith, length-append l [])
skip (l ∷ ls) (suc i) h =
    omega (arith, skip ls i (omega arith), length-append l (flat_map (λ x. x) (take i ls)), length-append l (flat_map (λ x. x) (take (suc i) ls)))

all : {E : Type 0} (ls : List (List E)) (i : ℕ) → length ls ≤ i → before ls i ≡ length (flat_map (λ l. l) ls)
all [] zero h = refl
all [] (suc i) h = refl
all (l ∷ ls) zero h = absurd (omega arith)
all (l ∷ ls) (suc i) h = omega (arith, all ls i (omega arith), length-append l (flat_map (λ x. x) (take i ls)), length-append l (flat_map (λ x. x) ls))

past : {E : Type 0} (ls : List (List E)) (i : ℕ) → length ls ≤ i → length (get_or ls i []) ≡ 0
past [] i h = refl
past (l ∷ ls) zero h = absurd (omega arith)
past (l ∷ ls) (suc i) h = past ls i (omega arith)

there : {X : Type 0} (xs : List X) (i : ℕ) → i < length xs → (x : X) × (slice_get xs i ≡ Some x)
there [] i h = absurd (omega arith)
there (x ∷ xs) zero h = (x, refl)
there (x ∷ xs) (suc i) h = there xs i (omega arith)

module _ {E S : Type 0} (c : Contents E S) where
  -- the end of a bucket's list has the same index as the start of the next bucket's list
  pub index-skip : (b s : ℕ) → b < bucket_count c → s ≡ length (list_of c b) → index_of_spot c (record { bucket = suc b; slot = 0 }) ≡ index_of_spot c (record { bucket = b; slot = s })
  unfolding index_of_spot bucket_count list_of
  index-skip b s h e = omega (arith, skip c.lists b h)

  -- all entries stand before the end
  pub index-end : (p : Place) → bucket_count c ≤ p.bucket → p.slot ≤ length (list_of c p.bucket) → index_of_spot c p ≡ length (entries c)
  unfolding index_of_spot bucket_count list_of entries
  index-end p h s = omega (arith, all c.lists p.bucket h, past c.lists p.bucket h)

  -- no entry stands before the start
  pub index-start : index_of_spot c (record { bucket = 0; slot = 0 }) ≡ 0
  unfolding index_of_spot
  index-start = refl

  -- the next place has one entry more before it
  pub index-after : (p : Place) → index_of_spot c (record p { slot = suc p.slot }) ≡ suc (index_of_spot c p)
  unfolding index_of_spot
  index-after p = omega arith

  -- fewer than all entries stand before a place
  pub index-below : (p : Place) → IsSpot c p → index_of_spot c p < length (entries c)
  unfolding entries index_of_spot list_of bucket_count
  index-below p h = get-below (flat_map (λ l. l) c.lists) (before c.lists p.bucket + p.slot) _ (flat-get c.lists p.bucket p.slot _ h.bucket (there (get_or c.lists p.bucket []) p.slot h.slot).1)

pub length-zero : {X : Type 0} (xs : List X) → 0 ≡ length xs → xs ≡ []
length-zero [] h = refl
length-zero (x ∷ xs) h = absurd (omega arith)

pub along : {X A B : Type 0} {P Q : X → Type 0} (o : Option X) → (A → B) → ((x : X) → P x → Q x) → MatchOption o A P → MatchOption o B Q
along None f h m = f m
along (Some x) f h m = h x m

take-set : {X : Type 0} (xs : List X) (i : ℕ) (x : X) → take i (set xs i x) ≡ take i xs
take-set [] zero x = refl
take-set [] (suc i) x = refl
take-set (y ∷ xs) zero x = refl
take-set (y ∷ xs) (suc i) x = ap (λ z. y ∷ z) (take-set xs i x)

module _ {E S : Type 0} (p : Place) (bs : List (Shelf E)) (s : Settings S) {f : Bool × Bool} (c : Contents E S) (view : view_of f bs s ≡ c) (b : Shelf E) (l : p.bucket < length bs) (lk : p.slot < length (shelf_entries b)) (d : Shelf E) (new : d ≡ without_slot b p.slot) where
  -- the number of entries before a place is unchanged if the entry at the place is taken out
  pub taken-index : index_of_spot (view_of f (set bs p.bucket d) s) p ≡ index_of_spot c p
  unfolding index_of_spot
  taken-index =
      ap (λ z. length (flat_map (λ l. l) (take p.bucket z)) + p.slot) (map-set shelf_entries bs p.bucket d)
      ∙ ap (λ z. length (flat_map (λ l. l) z) + p.slot) (take-set (map shelf_entries bs) p.bucket (shelf_entries d))
      ∙ ap (λ (x : Contents E S). length (flat_map (λ l. l) (take p.bucket x.lists)) + p.slot) view

  -- after the entry at a place was taken out, the list of its bucket still reaches the place
  pub taken-list : p.slot ≤ length (list_of (view_of f (set bs p.bucket d) s) p.bucket)
  taken-list =
      let there : p.bucket < length (set bs p.bucket d) = rw (length-set bs p.bucket d) l in
      let here = list-view (set bs p.bucket d) s (view_of f (set bs p.bucket d) s) refl p.bucket d there (sym (get_or-set_same bs p.bucket d d l)) in
      let fewer : length (shelf_entries d) ≡ length (remove (shelf_entries b) p.slot) = ap (λ x. length (shelf_entries x)) new ∙ ap length (entries_without b p.slot lk) in
      rw here (omega (arith, length-remove (shelf_entries b) p.slot lk))
