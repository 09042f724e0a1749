-- Where a search for the next entry in the old array leads.
use Rattle.std.proofs.Common.{◌≡◌, ◌==◌, ℕ, suc, ◌+◌, ◌-◌, ◌<◌, ◌≤◌, Bool, true, false, cond, nat_lt, rules, add-one, Some, List, [], ◌∷◌, length, map, refl, sym, ap, ◌∙◌, subst, arith, length-append}
use Rattle.std.proofs.lemmas.List.{length-map}
use Rattle.std.specs.List.{count_by, flat_map, slice_get}
use Rattle.scc_array.specs.Shelves.{shelf_of}
use Rattle.scc_array.specs.Shelf.{Shelf, shelf_entries}
use Rattle.scc_common.specs.Contents.{Contents, bucket_count, entries, owed_of, list_of, settings_of, waiting_of}
use Rattle.scc_buckets.specs.Places as spots
use Rattle.scc_buckets.specs.Pour.{destined_for}
use Rattle.scc_buckets.specs.declared.place.Place.{Place}
use Rattle.scc_buckets.proofs.Standing.{index-after, index-below}
use Rattle.scc_table.specs.Places.{owed_before, index_of, spot_of, StandsAt}
use Rattle.scc_table.specs.NextPlaces.{index_on, own, old, rank_on, spot_on, IsStart}
use Rattle.scc_draining.specs.Stepping.{entries_before, StandsNext}
use Rattle.scc_table.specs.TwoArrays.{target_by, together, TwoArrays, waits_at}
use Rattle.scc_table.proofs.arrays.JoinedLists.{count-together, owed-together, waiting-together}
use Rattle.scc_table.proofs.places.OldSpots.{count-map, owed-before, owed-some, old-place, old-spot, old-waits, own-list, own-place, own-spot}
use Rattle.scc_table.proofs.relocations.Preparation.{long-flags, waiting-list}
use Rattle.scc_draining.proofs.Flags.{up-within}
use Rattle.scc_draining.proofs.Stepped.{destined-count, nothing-before}

module _ {E S : Type 0} (hash : E → ℕ) (c : Contents E S) (ws : List Bool) (olds : List (Shelf E)) (arrays : TwoArrays hash c ws olds) (i : ℕ) (up : waits_at ws i ≡ true) where
  pub owed-is : owed_of (together hash c ws olds) ≡ map (λ b. map (target_by hash c) (shelf_entries b)) olds
  owed-is = owed-together hash c ws olds ∙ owed-some (target_by hash c) ws olds (let l = up-within ws i up in omega arith)

  pub owed-count : length (owed_of (together hash c ws olds)) ≡ length olds
  owed-count = ap length owed-is ∙ length-map olds (λ b. map (target_by hash c) (shelf_entries b))

  -- `rank_on` counts the entries of bucket i that stand before slot s of old bucket j
  pub rank-is : (j s : ℕ) → j < length olds → rank_on (together hash c ws olds) i j s ≡ length (destined_for hash (settings_of c).skipped (bucket_count c) i (entries_before olds j s))
  rank-is j s l =
      ap (λ h. count_by (λ u. u == i) (owed_before h j s)) owed-is ∙ ap (count_by (λ u. u == i)) (owed-before (target_by hash c) olds j s l) ∙ count-map (target_by hash c) i (entries_before olds j s)

  -- if the entries of bucket i stand before slot s of old bucket j, `rank_on` is the length of its list
  pub rank-end : (j s : ℕ) → j < length olds → destined_for hash (settings_of c).skipped (bucket_count c) i (entries_before olds j s) ≡ destined_for hash (settings_of c).skipped (bucket_count c) i (flat_map shelf_entries olds)
      → rank_on (together hash c ws olds) i j s ≡ length (list_of (together hash c ws olds) i)
  rank-end j s l e = rank-is j s l ∙ ap length (e ∙ sym (waiting-list hash c ws olds arrays i up (long-flags c ws i arrays.flags up)))

  -- the next entry of bucket i stands at slot s of old bucket j
  pub rank-next : (a b j s : ℕ) → a < length olds → StandsNext hash (settings_of c).skipped (bucket_count c) i olds a b j s → (p : Place) → p.bucket ≡ bucket_count c + j → p.slot ≡ s
      → StandsAt (together hash c ws olds) (spots.index_of_spot (together hash c ws olds) (record { bucket = i; slot = rank_on (together hash c ws olds) i a b })) p
  rank-next a b j s la next p at slot =
      let d = together hash c ws olds in
      let t = (settings_of c).skipped in
      let n = bucket_count c in
      let e = next.entry in
      let spot : spot_of d p ≡ record { bucket = i; slot = rank_on d i a b } =
      old-spot hash c ws olds arrays j s e next.within next.here p at slot ∙ ap (λ k. let q : Place = record { bucket = k; slot = length (destined_for hash t n k (entries_before olds j s)) } in q) next.target
      ∙ ap (λ l. let q : Place = record { bucket = i; slot = length l } in q) next.before ∙ ap (λ m. let q : Place = record { bucket = i; slot = m } in q) (sym (rank-is a b la)) in
      record {
        within = old-place hash c ws olds arrays j s e next.within next.here p at slot;
        index = ap (spots.index_of_spot d) spot;
      }

  -- the first entry of bucket i stands at slot s of old bucket j
  pub rank-first : (j s : ℕ) → 0 < length olds → StandsNext hash (settings_of c).skipped (bucket_count c) i olds 0 0 j s → (p : Place) → p.bucket ≡ bucket_count c + j → p.slot ≡ s
      → StandsAt (together hash c ws olds) (spots.index_of_spot (together hash c ws olds) (record { bucket = i; slot = 0 })) p
  rank-first j s some next p at slot =
      let d = together hash c ws olds in
      let start : rank_on d i 0 0 ≡ 0 = rank-is 0 0 some ∙ ap (λ z. length (destined_for hash (settings_of c).skipped (bucket_count c) i z)) (nothing-before olds) in
      subst (λ m. StandsAt d (spots.index_of_spot d (record { bucket = i; slot = m })) p) start (rank-next 0 0 j s some next p at slot)

-- a place in a bucket that doesn't wait is its own spot
pub own-stands : {E S : Type 0} (hash : E → ℕ) (c : Contents E S) (ws : List Bool) (olds : List (Shelf E)) (arrays : TwoArrays hash c ws olds) (p : Place) → p.bucket < bucket_count c → waits_at ws p.bucket ≡ false → p.slot < length (list_of c p.bucket)
    → StandsAt (together hash c ws olds) (spots.index_of_spot (together hash c ws olds) p) p
own-stands hash c ws olds arrays p l down q = record {
  within = own-place hash c ws olds arrays p l down q;
  index = ap (spots.index_of_spot (together hash c ws olds)) (own-spot hash c ws olds arrays p l down);
}

module _ {E S : Type 0} (d : Contents E S) (t b s : ℕ) where
  pub spot-on_own : b < bucket_count d → spot_on d t b s ≡ record { bucket = t; slot = s }
  spot-on_own l =
      let before : nat_lt b (bucket_count d) ≡ true = search rules in
      let p : Place = record { bucket = t; slot = s } in
      let q : Place = record { bucket = t; slot = rank_on d t (b - bucket_count d) s } in
      ap (λ v. cond v p q) before

  pub spot-on_old : (j : ℕ) → b ≡ bucket_count d + j → spot_on d t b s ≡ record { bucket = t; slot = rank_on d t j s }
  spot-on_old j at =
      let past : nat_lt b (bucket_count d) ≡ false = let l : bucket_count d ≤ b = omega arith in search rules in
      let p : Place = record { bucket = t; slot = s } in
      let q : Place = record { bucket = t; slot = rank_on d t (b - bucket_count d) s } in
      let number : b - bucket_count d ≡ j = omega arith in
      ap (λ v. cond v p q) past ∙ ap (λ m. let r : Place = record { bucket = t; slot = rank_on d t m s } in r) number

-- if the bucket b of a start is below the number of buckets, b is t, and t doesn't wait
pub start-own : {E S : Type 0} (d : Contents E S) (t b s : ℕ) → IsStart d t b s → b < bucket_count d → (b ≡ t) × (waits_at (waiting_of d) t ≡ false) × (s ≤ length (list_of d t))
start-own d t b s (own e down q) l = (e, down, q)
start-own d t b s (old up far m) l = absurd (omega arith)

pub start-old : {E S : Type 0} (d : Contents E S) (t b s : ℕ) → IsStart d t b s → bucket_count d ≤ b → t < bucket_count d → (waits_at (waiting_of d) t ≡ true) × (b < bucket_count d + length (owed_of d))
start-old d t b s (own e down q) far l = absurd (omega arith)
start-old d t b s (old up low m) far l = (up, m)

-- a search for the entry after p may start at the slot after p
pub record NextStart {E S : Type 0} (d : Contents E S) (t : ℕ) (p : Place) : Type 0 where
  pub start : IsStart d t p.bucket (p.slot + 1)
  pub index : index_on d t p.bucket (p.slot + 1) ≡ suc (index_of d p)

pub slot-below : {E S : Type 0} (c : Contents E S) (p : Place) → spots.IsSpot c p → p.slot < length (entries c)
unfolding spots.index_of_spot
slot-below c p h = omega (arith, index-below c p h)

module _ {E S : Type 0} (hash : E → ℕ) (c : Contents E S) (ws : List Bool) (olds : List (Shelf E)) (arrays : TwoArrays hash c ws olds) (p : Place) where
  pub own-next : spots.IsSpot c p → waits_at ws p.bucket ≡ false → NextStart (together hash c ws olds) p.bucket p
  own-next h down =
      let d = together hash c ws olds in
      let count = count-together hash c ws olds arrays.flags in
      let l : p.bucket < bucket_count d = let q : p.bucket < bucket_count c = h.bucket in omega arith in
      let list = ap length (own-list hash c ws olds arrays p.bucket h.bucket down) in
      record {
        start = own refl (ap (λ w. waits_at w p.bucket) (waiting-together hash c ws olds) ∙ down) (let q : p.slot < length (list_of c p.bucket) = h.slot in omega arith);
        index = ap (spots.index_of_spot d) (spot-on_own d p.bucket p.bucket (p.slot + 1) l) ∙ ap (λ m. spots.index_of_spot d (record { bucket = p.bucket; slot = m })) (add-one p.slot) ∙ index-after d p
            ∙ ap (λ q. suc (spots.index_of_spot d q)) (sym (own-spot hash c ws olds arrays p h.bucket down));
      }

  module _ (j s : ℕ) (e : E) (lj : j < length olds) (got : slice_get (shelf_entries (shelf_of olds j)) s ≡ Some e) (at : p.bucket ≡ bucket_count c + j) (slot : p.slot ≡ s) where
    pub old-next : NextStart (together hash c ws olds) (target_by hash c e) p
    old-next =
        let d = together hash c ws olds in
        let t = (settings_of c).skipped in
        let n = bucket_count c in
        let i = target_by hash c e in
        let up = old-waits hash c ws olds arrays j s e lj got in
        let count = count-together hash c ws olds arrays.flags in
        let owed = owed-count hash c ws olds arrays i up in
        let bs = destined_for hash t n i (entries_before olds j s) in
        let more : rank_on d i j (s + 1) ≡ suc (length bs) =
        rank-is hash c ws olds arrays i up j (s + 1) lj ∙ ap length (destined-count olds j hash t n i s e got refl) ∙ length-append bs (e ∷ []) ∙ add-one (length bs) in
        let q : Place = record { bucket = i; slot = length bs } in
        record {
          start = old (ap (λ w. waits_at w i) (waiting-together hash c ws olds) ∙ up) (omega arith) (omega arith);
          index = ap (spots.index_of_spot d) (spot-on_old d i p.bucket (p.slot + 1) j (omega arith)) ∙ ap (λ m. spots.index_of_spot d (record { bucket = i; slot = rank_on d i j (m + 1) })) slot
              ∙ ap (λ m. spots.index_of_spot d (record { bucket = i; slot = m })) more ∙ index-after d q ∙ ap (λ r. suc (spots.index_of_spot d r)) (sym (old-spot hash c ws olds arrays j s e lj got p at slot));
        }
