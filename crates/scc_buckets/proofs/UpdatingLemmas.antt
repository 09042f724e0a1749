-- A table in which a closure wrote into the first entry of a bucket that passes.
use Rattle.std.proofs.Common.{◌≡◌, ℕ, ◌<◌, Bool, true, List, length, map, Option, Some, None, sym, ap, subst, ◌∙◌}
use Rattle.std.specs.Cmp.{IsEquivalence}
use Rattle.std.specs.List.{flat_map, IsDistinct}
use Rattle.scc_array.specs.Shelves.{shelf_of}
use Rattle.scc_array.specs.Updates.{WritesShelf}
use Rattle.scc_array.specs.Shelf.{Shelf, shelf_entries}
use Rattle.scc_common.specs.Contents.{Contents, Settings}
use Rattle.scc_common.specs.Routing.{bucket_number}
use Rattle.scc_buckets.specs.Tables.{IsBuckets}
use Rattle.scc_buckets.specs.Updates.{WritesFirstSpot}
use Rattle.scc_buckets.proofs.Arrays.{shelf-at}
use Rattle.scc_buckets.proofs.FindingLemmas.{HashOf, found_at, missed_at}
use Rattle.scc_buckets.proofs.Spots.{place-get}
use Rattle.scc_buckets.proofs.Views.{view_of, list-view}
use Rattle.scc_buckets.proofs.WritingTables.{written-table, written-view, written-unique}

module _ {E K V R S : Type 0} (gives : E → R → V → Type 0) (key_of : E → K) (put : E → V → E) (p : E → Bool)
    (hash : E → ℕ) (h t n o i : ℕ) (bs ds : List (Shelf E)) (own : IsBuckets hash t bs n o) (same : HashOf p hash h) (here : i ≡ bucket_number t (length bs) h) (l : i < length bs) (s : Settings S) {flag : Bool × Bool} (c : Contents E S) (view : view_of flag bs s ≡ c) where
  -- the table stays a table if a written value keeps the hash
  pub updated-table : ((e : E) (w : V) → hash (put e w) ≡ hash e) → (r : Option R) → WritesShelf gives put p bs i ds r → IsBuckets hash t ds n o
  updated-table keeps None (missed, stays) = subst (λ z. IsBuckets hash t z n o) (sym stays) own
  updated-table keeps (Some r) (j, e, w, at, got, called, written) = subst (λ z. IsBuckets hash t z n o) (sym written)
      (written-table put hash t n o (record { bucket = i; slot = j }) bs own s c view (shelf_of bs i) l (shelf-at bs i l) e got w (keeps e w))

  -- no two keys are equal if a written value keeps the key
  pub updated-unique : {eq : K → K → Bool} (laws : IsEquivalence eq) → ((e : E) (w : V) → eq (key_of (put e w)) (key_of e) ≡ true) → IsDistinct eq (map key_of (flat_map shelf_entries bs)) → (r : Option R)
      → WritesShelf gives put p bs i ds r → IsDistinct eq (map key_of (flat_map shelf_entries ds))
  updated-unique {eq} laws keeps unique None (missed, stays) = subst (λ (z : List (Shelf E)). IsDistinct eq (map key_of (flat_map shelf_entries z))) (sym stays) unique
  updated-unique {eq} laws keeps unique (Some r) (j, e, w, at, got, called, written) =
      let b = shelf_of bs i in
      let found = found_at p hash h t n o i bs own same here s c view b l (shelf-at bs i l) j (sym at) in
      subst (λ (z : List (Shelf E)). IsDistinct eq (map key_of (flat_map shelf_entries z))) (sym written)
      (written-unique put hash t n o (record { bucket = i; slot = j }) bs own s c view b l (shelf-at bs i l) e got w found.within (rw (list-view bs s c view i b l (shelf-at bs i l)) got) laws key_of (keeps e w) unique)

  -- an update of the array is an update of the contents
  pub updated-first : (r : Option R) → WritesShelf gives put p bs i ds r → WritesFirstSpot gives put p c (view_of flag ds s) r
  updated-first None (missed, stays) = (missed_at p hash h t n o i bs own same here s c view (shelf_of bs i) l (shelf-at bs i l) missed, ap (λ z. view_of flag z s) stays ∙ view)
  updated-first (Some r) (j, e, w, at, got, called, written) =
      let b = shelf_of bs i in
      let found = found_at p hash h t n o i bs own same here s c view b l (shelf-at bs i l) j (sym at) in (
        record { bucket = i; slot = j },
        e,
        w,
        found,
        place-get c (record { bucket = i; slot = j }) found.within e (rw (list-view bs s c view i b l (shelf-at bs i l)) got),
        called,
        ap (λ z. view_of flag z s) written ∙ written-view put hash t n o (record { bucket = i; slot = j }) bs own s c view b l (shelf-at bs i l) e got w,
      )
