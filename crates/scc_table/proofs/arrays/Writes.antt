-- A table of two arrays after a write to one entry, whose new key is equal to its former key.
use Rattle.std.proofs.Common.{◌≡◌, ◌==◌, ℕ, zero, suc, ◌+◌, ◌-◌, ◌^◌, ◌<◌, ◌≤◌, inr, Bool, true, false, cond, Some, List, [], ◌∷◌, ◌++◌, length, map, take, drop, set, refl, sym, ap, ◌∙◌, subst, arith, length-set, get_or-set_same}
use Rattle.std.specs.Cmp.{IsEquivalence}
use Rattle.std.specs.List.{filter, slice_get, sum_by, IsDistinct}
use Rattle.std.proofs.Math.Seq.{map-set_same}
use Rattle.std.proofs.lemmas.List.{get_or_default}
use Rattle.scc_array.specs.Shelves.{shelf_of}
use Rattle.scc_array.specs.Shelf.{Shelf, shelf_entries, empty_shelf}
use Rattle.scc_array.specs.ShelfWrites.{write_at, shelf_write_at}
use Rattle.scc_common.specs.Contents.{Contents, entries, bucket_count, list_of, lists_of, settings_of, notes_of, overflow_of}
use Rattle.scc_buckets.specs.Placed.{at, at-get}
use Rattle.scc_buckets.specs.Places as spots
use Rattle.scc_common.specs.Routing.{bucket_number}
use Rattle.scc_common.specs.Sizes.{IsBucketCount}
use Rattle.scc_buckets.specs.Tables.{IsOwn, IsBuckets, overflow_in}
use Rattle.scc_buckets.specs.Writes as writes
use Rattle.scc_buckets.specs.declared.place.Place.{Place}
use Rattle.scc_buckets.proofs.Arrays.{shelf-at}
use Rattle.scc_buckets.proofs.KeyWrites.{write-parts}
use Rattle.scc_buckets.proofs.Spots.{place-get}
use Rattle.scc_buckets.proofs.Views.{view_of}
use Rattle.scc_buckets.proofs.WritingTables.{distinct-write, entries-write, entries_write, written-table}
use Rattle.scc_draining.specs.Moves.{AreOwn}
use Rattle.scc_table.specs.Places.{IsPlace, index_of, spot_of, with_write_at}
use Rattle.scc_draining.specs.Drainings.{Draining}
use Rattle.scc_table.specs.TwoArrays.{owed_in, waits_at, target_by, together, TwoArrays, IsTable}
use Rattle.scc_draining.proofs.Arriving.{same-contents}
use Rattle.scc_table.proofs.arrays.CurrentChanges.{own-fields, own-write, lists-write, settings-write, refused-write, spilled-write, waiting-write, owed-write, spilled-together}
use Rattle.scc_table.proofs.arrays.JoinedLists.{owed-together, refused-together, settings-together, waiting-together}
use Rattle.scc_table.proofs.arrays.OldChanges.{list-split, list_back, list_front, old-arrays, old-fields, old-lists, write-middle}
use Rattle.scc_table.proofs.places.OldSpots.{own, old, own-get, own-spot, old-get, old-spot, old-waits, place-kind, rank_of}
use Rattle.scc_table.proofs.relocations.Preparation.{sized-flags}

-- `IsBuckets` holds of the old array
pub old-table : {E : Type 0} (hash : E → ℕ) (t : ℕ) (olds : List (Shelf E)) → IsBucketCount (length olds) → AreOwn hash t olds → overflow_in olds < 2 ^ 62 → IsBuckets hash t olds (sum_by (λ b. length (shelf_entries b)) olds) (overflow_in olds)
old-table hash t olds sized ours few = record {
  sized = inr sized;
  counted = refl;
  spilled = refl;
  few = few;
  own = λ j b l at. subst (IsOwn hash t (length olds) j) (sym (at ∙ get_or_default olds j b empty_shelf l)) (ours.own j l);
}

map-write : {E X Y : Type 0} (put : E → X → E) (f : E → Y) (es : List E) (i : ℕ) (e : E) (w : X) → slice_get es i ≡ Some e → f (put e w) ≡ f e → map f (write_at put es i w) ≡ map f es
map-write put f [] i e w got same = refl
map-write put f (x ∷ es) zero e w got same = let s : x ≡ e = cc in ap (λ y. y ∷ map f es) (ap (λ z. f (put z w)) s ∙ same ∙ ap f (sym s))
map-write put f (x ∷ es) (suc i) e w got same = ap (λ z. f x ∷ z) (map-write put f es i e w got same)

pub owed-same : {E : Type 0} (f : E → ℕ) (ws : List Bool) (olds news : List (Shelf E)) → map (λ b. map f (shelf_entries b)) news ≡ map (λ b. map f (shelf_entries b)) olds → owed_in f ws news ≡ owed_in f ws olds
owed-same f [] olds news h = refl
owed-same f (w ∷ ws) olds news h = h

module _ {E S X : Type 0} (put : E → X → E) (hash : E → ℕ) (c : Contents E S) (ws : List Bool) (olds : List (Shelf E)) (arrays : TwoArrays hash c ws olds) (few : overflow_in olds < 2 ^ 62) (j s : ℕ) (e : E) (lj : j < length olds) (got : slice_get (shelf_entries (shelf_of olds j)) s ≡ Some e)
    (w : X) (same : hash (put e w) ≡ hash e) where
  pub table-after : IsBuckets hash (settings_of c).skipped (set olds j (shelf_write_at put (shelf_of olds j) s w)) (sum_by (λ b. length (shelf_entries b)) olds) (overflow_in olds)
  table-after =
      let sized = sized-flags c ws olds (target_by hash c e) arrays.sized (old-waits hash c ws olds arrays j s e lj got) in
      let p : Place = record { bucket = j; slot = s } in
      written-table put hash (settings_of c).skipped (sum_by (λ b. length (shelf_entries b)) olds) (overflow_in olds) p olds (old-table hash (settings_of c).skipped olds sized arrays.own few) (settings_of c)
      (view_of (notes_of c) olds (settings_of c)) refl (shelf_of olds j) lj (shelf-at olds j lj) e got w same

  own-after : IsOwn hash (settings_of c).skipped (length olds) j (shelf_write_at put (shelf_of olds j) s w)
  own-after =
      let b = shelf_write_at put (shelf_of olds j) s w in
      let n : length (set olds j b) ≡ length olds = length-set olds j b in
      subst (λ m. IsOwn hash (settings_of c).skipped m j b) n (table-after.own j b (omega arith) (sym (get_or-set_same olds j b b lj)))

  parts : shelf_entries (shelf_write_at put (shelf_of olds j) s w) ≡ take s (shelf_entries (shelf_of olds j)) ++ ((put e w ∷ []) ++ drop (suc s) (shelf_entries (shelf_of olds j)))
  parts = entries_write put (shelf_of olds j) s w ∙ write-parts put (shelf_entries (shelf_of olds j)) s e w got

  target-kept : target_by hash c (put e w) ≡ target_by hash c e
  target-kept = ap (bucket_number (settings_of c).skipped (bucket_count c)) same

  seen : (k : ℕ) → filter (λ x. target_by hash c x == k) (put e w ∷ []) ≡ cond (target_by hash c e == k) (put e w ∷ []) []
  seen k = ap (λ t. let r : List E = cond (t == k) (put e w ∷ []) [] in r) target-kept

  pub arrays-after : TwoArrays hash c ws (set olds j (shelf_write_at put (shelf_of olds j) s w))
  arrays-after = old-arrays hash c ws olds arrays j s e lj got (shelf_write_at put (shelf_of olds j) s w) (put e w ∷ []) parts seen own-after

  -- a write to an entry of the old array is a write in the list of its bucket
  pub old-write : together hash c ws (set olds j (shelf_write_at put (shelf_of olds j) s w))
      ≡ writes.with_write_at_spot put (together hash c ws olds) (record { bucket = target_by hash c e; slot = rank_of hash c ws olds arrays j s e lj got }) w
  old-write =
      let b = shelf_write_at put (shelf_of olds j) s w in
      let news = set olds j b in
      let f = target_by hash c in
      let m : ℕ = rank_of hash c ws olds arrays j s e lj got in
      let p : Place = record { bucket = f e; slot = m } in
      let u = together hash c ws olds in
      let v = together hash c ws news in
      let front = list_front hash c ws olds arrays j s e lj got in
      let back = list_back hash c ws olds arrays j s e lj got in
      let list : write_at put (list_of u (f e)) m w ≡ front ++ put e w ∷ back = ap (λ z. write_at put z m w) (list-split hash c ws olds arrays j s e lj got) ∙ write-middle put front e back w in
      let row : map f (shelf_entries b) ≡ map f (shelf_entries (shelf_of olds j)) = ap (map f) (entries_write put (shelf_of olds j) s w) ∙ map-write put f (shelf_entries (shelf_of olds j)) s e w got target-kept in
      let rows : map (λ x. map f (shelf_entries x)) news ≡ map (λ x. map f (shelf_entries x)) olds = map-set_same (λ x. map f (shelf_entries x)) olds j b empty_shelf row in
      same-contents (writes.with_write_at_spot put u p w) v
      (old-lists hash c ws olds arrays j s e lj got b (put e w ∷ []) parts seen ∙ ap (set (lists_of u) (f e)) (sym list) ∙ sym (lists-write put u p w))
      (settings-together hash c ws news ∙ sym (settings-together hash c ws olds) ∙ sym (settings-write put u p w))
      (refused-together hash c ws news ∙ sym (refused-together hash c ws olds) ∙ sym (refused-write put u p w))
      (spilled-together hash c ws news ∙ ap (λ n. overflow_of c + n) (sym table-after.spilled) ∙ sym (spilled-together hash c ws olds) ∙ sym (spilled-write put u p w))
      (waiting-together hash c ws news ∙ sym (waiting-together hash c ws olds) ∙ sym (waiting-write put u p w))
      (owed-together hash c ws news ∙ owed-same f ws olds news rows ∙ sym (owed-together hash c ws olds) ∙ sym (owed-write put u p w))

-- a place of the contents a is a place of both arrays
pub place-seen : {E K S : Type 0} {eq : K → K → Bool} {key : E → K} {hash : K → ℕ} {c : Contents E S} {drain : Draining E} (inv : IsTable eq key hash c drain) {a : Contents E S} (p : Place) → together (λ e. hash (key e)) c drain.waiting drain.array ≡ a → IsPlace a p
    → IsPlace (together (λ e. hash (key e)) c drain.waiting drain.array) p
place-seen inv p view place = subst (λ z. IsPlace z p) (sym view) place

-- the invariant `IsTable` holds after a write to the entry at p
module _ {E K S : Type 0} {eq : K → K → Bool} (laws : IsEquivalence eq) {key : E → K} {hash : K → ℕ} {c : Contents E S} {drain : Draining E} (inv : IsTable eq key hash c drain) (p : Place)
    (within : IsPlace (together (λ e. hash (key e)) c drain.waiting drain.array) p) where
  module _ (l : p.bucket < bucket_count c) where
    -- if p is below the number of buckets, it is a place of the current array, in a bucket that doesn't wait
    pub own-is : spots.IsSpot c p × (waits_at drain.waiting p.bucket ≡ false)
    own-is = elim (place-kind (λ e. hash (key e)) c drain.waiting drain.array inv.arrays p within) [
      | own q down ↦ (q, down)
      | old j at lj ls ↦ absurd (omega arith)
    ]

    pub own-got : (e : E) → slice_get (entries c) (spots.index_of_spot c p) ≡ Some e → slice_get (entries (together (λ x. hash (key x)) c drain.waiting drain.array)) (index_of (together (λ x. hash (key x)) c drain.waiting drain.array) p) ≡ Some e
    own-got e got =
        let q = own-is.0 in
        let here = at-get (list_of c p.bucket) p.slot q.slot in
        let s : Some (at (list_of c p.bucket) p.slot q.slot) ≡ Some e = sym (place-get c p q (at (list_of c p.bucket) p.slot q.slot) here) ∙ got in
        let is : at (list_of c p.bucket) p.slot q.slot ≡ e = cc in
        own-get (λ x. hash (key x)) c drain.waiting drain.array inv.arrays p l own-is.1 e (here ∙ ap (λ z. Some z) is)

    module _ {X : Type 0} (put : E → X → E) (w : X) where
      pub own-written : together (λ x. hash (key x)) (writes.with_write_at_spot put c p w) drain.waiting drain.array ≡ with_write_at put (together (λ x. hash (key x)) c drain.waiting drain.array) p w
      own-written =
          let h : E → ℕ = λ x. hash (key x) in
          own-write put c p w h drain.waiting drain.array own-is.1 ∙ ap (λ q. writes.with_write_at_spot put (together h c drain.waiting drain.array) q w) (sym (own-spot h c drain.waiting drain.array inv.arrays p l own-is.1))

      pub own-kept : (e : E) → slice_get (entries c) (spots.index_of_spot c p) ≡ Some e → eq (key (put e w)) (key e) ≡ true → IsTable eq key hash (writes.with_write_at_spot put c p w) drain
      own-kept e got equal =
          let h : E → ℕ = λ x. hash (key x) in
          let d = writes.with_write_at_spot put c p w in
          let u = together h c drain.waiting drain.array in
          let there = own-got e got in
          let q = spot_of u p in
          let inside : spots.IsSpot u q = within in
          let all : entries (together h d drain.waiting drain.array) ≡ write_at put (entries u) (spots.index_of_spot u q) w = ap entries own-written
          ∙ entries-write put u q inside (at (list_of u q.bucket) q.slot inside.slot) (at-get (list_of u q.bucket) q.slot inside.slot) w in
          own-fields eq key hash c d p.bucket (write_at put (list_of c p.bucket) p.slot w) (lists-write put c p w) (settings-write put c p w) drain own-is.1 inv
          (let n = spilled-write put c p w in let f = inv.few in omega arith)
          (subst (λ z. IsDistinct eq (map key z)) (sym all) (distinct-write laws key put (entries u) (spots.index_of_spot u q) e w there equal inv.unique))

  module _ (far : bucket_count c ≤ p.bucket) where
    -- if p is not below the number of buckets, it is a place of the old array
    pub old-is : (p.bucket - bucket_count c < length drain.array) × (p.slot < length (shelf_entries (shelf_of drain.array (p.bucket - bucket_count c))))
    old-is = elim (place-kind (λ e. hash (key e)) c drain.waiting drain.array inv.arrays p within) [
      | own q down ↦ let b = q.bucket in absurd (omega arith)
      | old j at lj ls ↦ let m : p.bucket - bucket_count c ≡ j = omega arith in (omega arith, subst (λ k. p.slot < length (shelf_entries (shelf_of drain.array k))) (sym m) ls)
    ]

    back-is : p.bucket ≡ bucket_count c + (p.bucket - bucket_count c)
    back-is = omega arith

    few-owed : overflow_in drain.array < 2 ^ 62
    few-owed = let a = inv.overflow_is in let b = inv.few in omega arith

    module _ (e : E) (got : slice_get (shelf_entries (shelf_of drain.array (p.bucket - bucket_count c))) p.slot ≡ Some e) where
      pub old-got : slice_get (entries (together (λ x. hash (key x)) c drain.waiting drain.array)) (index_of (together (λ x. hash (key x)) c drain.waiting drain.array) p) ≡ Some e
      old-got = old-get (λ x. hash (key x)) c drain.waiting drain.array inv.arrays (p.bucket - bucket_count c) p.slot e old-is.0 got p back-is refl

      module _ {X : Type 0} (put : E → X → E) (w : X) (equal : hash (key (put e w)) ≡ hash (key e)) where
        pub old-written : together (λ x. hash (key x)) c drain.waiting (set drain.array (p.bucket - bucket_count c) (shelf_write_at put (shelf_of drain.array (p.bucket - bucket_count c)) p.slot w)) ≡ with_write_at put (together (λ x. hash (key x)) c drain.waiting drain.array) p w
        old-written =
            let h : E → ℕ = λ x. hash (key x) in
            old-write put h c drain.waiting drain.array inv.arrays few-owed (p.bucket - bucket_count c) p.slot e old-is.0 got w equal
            ∙ ap (λ q. writes.with_write_at_spot put (together h c drain.waiting drain.array) q w) (sym (old-spot h c drain.waiting drain.array inv.arrays (p.bucket - bucket_count c) p.slot e old-is.0 got p back-is refl))

        pub old-kept : eq (key (put e w)) (key e) ≡ true
            → IsTable eq key hash c (record drain { array = set drain.array (p.bucket - bucket_count c) (shelf_write_at put (shelf_of drain.array (p.bucket - bucket_count c)) p.slot w) })
        old-kept same =
            let h : E → ℕ = λ x. hash (key x) in
            let j = p.bucket - bucket_count c in
            let news = set drain.array j (shelf_write_at put (shelf_of drain.array j) p.slot w) in
            let u = together h c drain.waiting drain.array in
            let q = spot_of u p in
            let inside : spots.IsSpot u q = within in
            let table = table-after put h c drain.waiting drain.array inv.arrays few-owed j p.slot e old-is.0 got w equal in
            let all : entries (together h c drain.waiting news) ≡ write_at put (entries u) (spots.index_of_spot u q) w = ap entries old-written
            ∙ entries-write put u q inside (at (list_of u q.bucket) q.slot inside.slot) (at-get (list_of u q.bucket) q.slot inside.slot) w in
            old-fields eq key hash c drain news drain.left inv (arrays-after put h c drain.waiting drain.array inv.arrays few-owed j p.slot e old-is.0 got w equal) (length-set drain.array j (shelf_write_at put (shelf_of drain.array j) p.slot w))
            (inv.left_is ∙ table.counted) (let n = table.spilled in let o = inv.overflow_is in omega arith)
            (subst (λ z. IsDistinct eq (map key z)) (sym all) (distinct-write laws key put (entries u) (spots.index_of_spot u q) e w old-got same inv.unique))
