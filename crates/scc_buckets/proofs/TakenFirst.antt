-- A table from which the first entry of a bucket that passes was taken.
use Rattle.std.proofs.Common.{◌≡◌, ℕ, arith, ◌-◌, ◌<◌, ◌≤◌, Bool, List, [], length, map, set, None, Some, refl, sym, ap, subst, ◌∙◌}
use Rattle.std.specs.Cmp.{IsEquivalence}
use Rattle.std.specs.List.{flat_map, position, slice_get, IsDistinct}
use Rattle.scc_array.proofs.Joined.{position-joined, or_later}
use Rattle.scc_array.specs.Shelves.{shelf_of}
use Rattle.scc_array.specs.Takes.{IsTakenOut}
use Rattle.scc_array.specs.Shelf.{Shelf, shelf_entries, without_slot, swapped_out}
use Rattle.scc_common.specs.Contents.{Contents, Settings, entries}
use Rattle.scc_common.specs.Routing.{bucket_number}
use Rattle.scc_buckets.specs.OneList.{IsSwappedOutOf}
use Rattle.scc_buckets.specs.Places.{IsFoundAtSpot, index_of_spot}
use Rattle.scc_buckets.specs.Tables.{IsBuckets}
use Rattle.scc_buckets.specs.Takes.{TakesFirstSpot}
use Rattle.scc_buckets.specs.declared.place.Place.{Place}
use Rattle.scc_buckets.proofs.Arrays.{shelf-at, put-is, put-own}
use Rattle.scc_buckets.proofs.FindingLemmas.{HashOf, found_at, missed_at, position-below}
use Rattle.scc_buckets.proofs.OneList.{swapped-out-of-list}
use Rattle.scc_buckets.proofs.Removes.{at-least-one}
use Rattle.scc_buckets.proofs.Spots.{place-get}
use Rattle.scc_buckets.proofs.SwapRemoves.{swapped-table, swapped-unique-flat}
use Rattle.scc_buckets.proofs.Views.{view_of, list-view}

module _ {E S : Type 0} (p : E → Bool) (hash : E → ℕ) (h t n o i : ℕ) (bs : List (Shelf E)) (own : IsBuckets hash t bs n o) (same : HashOf p hash h) (here : i ≡ bucket_number t (length bs) h) (l : i < length bs) (s : Settings S) {flag : Bool × Bool} (c : Contents E S)
    (view : view_of flag bs s ≡ c) where
  -- the bucket that the entry is in
  abbrev bucket : Shelf E
  bucket = shelf_of bs i

  -- if the bucket has no entry that passes, the table has none
  pub missed-all : position p (shelf_entries (shelf_of bs i)) ≡ None → (ds : List (Shelf E)) → ds ≡ bs → TakesFirstSpot p c (view_of flag ds s) None
  missed-all missed ds stays = (missed_at p hash h t n o i bs own same here s c view bucket l (shelf-at bs i l) missed, ap (λ z. view_of flag z s) stays ∙ view)

  -- if no entry in the bucket's slots passes and its overflow list is empty, no entry of the table passes
  pub missed-places : position p (shelf_of bs i).slots ≡ None → (shelf_of bs i).overflow ≡ [] → (ds : List (Shelf E)) → ds ≡ bs → TakesFirstSpot p c (view_of flag ds s) None
  missed-places missed empty =
      missed-all (position-joined p bucket.slots bucket.overflow ∙ ap (λ q. or_later q (length bucket.slots) (position p bucket.overflow)) missed ∙ ap (λ z. or_later None (length bucket.slots) (position p z)) empty)

  module _ (ds : List (Shelf E)) (j : ℕ) (x : E) (out : IsTakenOut p bs i ds j x) where
    -- the place of the removed entry
    abbrev spot : Place
    spot = record { bucket = i; slot = j }

    found : IsFoundAtSpot p c spot
    found = found_at p hash h t n o i bs own same here s c view bucket l (shelf-at bs i l) j (sym out.first)

    within : j < length (shelf_entries bucket)
    within = position-below p (shelf_entries bucket) j out.first

    got : slice_get (entries c) (index_of_spot c spot) ≡ Some x
    got = place-get c spot found.within x (rw (list-view bs s c view i bucket l (shelf-at bs i l)) out.entry)

    put : ds ≡ set bs i (shelf_of ds i)
    put = put-own bs i l ds _ out.others

    left : shelf_of ds i ≡ swapped_out bucket j x
    left = put-is bs i l ds _ out.others

    pub taken-some : 1 ≤ n
    taken-some = at-least-one hash t n o spot bs own s c view bucket l (shelf-at bs i l) within (without_slot bucket j) refl

    table : (r : ℕ) → (j < length (shelf_of bs i).slots → r ≡ 0) → (length (shelf_of bs i).slots ≤ j → r ≡ 1) → IsBuckets hash t ds (n - 1) (o - r) × (r ≤ o)
    table r lower upper =
        let w = swapped-table hash t n o spot bs own s c view bucket l (shelf-at bs i l) within x (shelf_of ds i) left r lower upper in
        (subst (λ z. IsBuckets hash t z (n - 1) (o - r)) (sym put) w.0, w.1)

    -- if the entry stood in a slot, the table stays a table with one entry less
    pub taken-near : j < length (shelf_of bs i).slots → IsBuckets hash t ds (n - 1) o
    taken-near near = let w = table 0 (λ _. refl) (λ far. absurd (omega arith)) in let e : o - 0 ≡ o = omega arith in subst (λ m. IsBuckets hash t ds (n - 1) m) e w.0

    -- if the entry stood in the overflow list, the table stays a table with one overflow entry less
    pub taken-far : length (shelf_of bs i).slots ≤ j → IsBuckets hash t ds (n - 1) (o - 1) × (1 ≤ o)
    taken-far far = table 1 (λ near. absurd (omega arith)) (λ _. refl)

    pub taken-unique : {K : Type 0} {eq : K → K → Bool} (laws : IsEquivalence eq) (key : E → K) → IsDistinct eq (map key (flat_map shelf_entries bs)) → IsDistinct eq (map key (flat_map shelf_entries ds))
    taken-unique {eq = eq} laws key unique =
        subst (λ (z : List (Shelf E)). IsDistinct eq (map key (flat_map shelf_entries z))) (sym put)
        (swapped-unique-flat hash t n o spot bs own s c view bucket l (shelf-at bs i l) within x (shelf_of ds i) left laws key x got unique)

    pub taken-first : TakesFirstSpot p c (view_of flag ds s) (Some x)
    taken-first = (
      spot,
      found,
      got,
      subst (λ z. let d : Contents E S = view_of flag z s in IsSwappedOutOf c spot d) (sym put) (swapped-out-of-list bs s c view i bucket l (shelf-at bs i l) (shelf_of ds i) j x within left),
    )
