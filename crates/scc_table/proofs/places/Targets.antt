-- The bucket of the entry at a place, and where the search for the next entry goes on.
use Rattle.std.proofs.Common.{◌≡◌, ℕ, ◌-◌, ◌<◌, ◌≤◌, Bool, Some, sym, ap, ◌∙◌, subst, arith}
use Rattle.std.specs.List.{slice_get}
use Rattle.scc_array.specs.Shelves.{shelf_of}
use Rattle.scc_array.specs.Shelf.{shelf_entries}
use Rattle.scc_common.specs.Contents.{Contents, bucket_count, settings_of}
use Rattle.scc_common.specs.Routing.{bucket_number}
use Rattle.scc_buckets.specs.declared.place.Place.{Place}
use Rattle.scc_draining.specs.Drainings.{Draining}
use Rattle.scc_table.specs.Places.{IsPlace, spot_of}
use Rattle.scc_table.specs.TwoArrays.{together, IsTable}
use Rattle.scc_table.proofs.arrays.OneBucket.{count-own, old-here, own-here}
use Rattle.scc_table.proofs.places.NextPlaces.{NextStart, old-next, own-next}
use Rattle.scc_table.proofs.places.OldSpots.{old-within, old-spot, own-spot}

-- m is the bucket of the entry at p, and the search for the next entry goes on in it
pub record IsTarget {E S : Type 0} (a : Contents E S) (p : Place) (m : ℕ) : Type 0 where
  pub value : m ≡ (spot_of a p).bucket
  pub next : NextStart a m p
  pub within : m < bucket_count a

module _ {E K S : Type 0} {eq : K → K → Bool} {key : E → K} {hash : K → ℕ} {c a : Contents E S} {drain : Draining E} (inv : IsTable eq key hash c drain) (view : together (λ e. hash (key e)) c drain.waiting drain.array ≡ a) (p : Place) (place : IsPlace a p) {n : ℕ} (count : n ≡ bucket_count c) where
  -- of a place in the current array
  pub target-own : p.bucket < n → IsTarget a p p.bucket
  target-own l =
      let at = own-here inv p view place (omega (arith, count, l)) in
      let seen = count-own inv view in
      record {
        value = sym (ap (λ d. (spot_of d p).bucket) (sym view) ∙ ap (λ q. q.bucket) (own-spot (λ e. hash (key e)) c drain.waiting drain.array inv.arrays p at.0.bucket at.1));
        next = subst (λ d. NextStart d p.bucket p) view (own-next (λ e. hash (key e)) c drain.waiting drain.array inv.arrays p at.0 at.1);
        within = omega (arith, l, count, seen);
      }

  -- of a place in the old array, which has the entry e
  pub target-old : n ≤ p.bucket → (e : E) → slice_get (shelf_entries (shelf_of drain.array (p.bucket - n))) p.slot ≡ Some e → {m : ℕ} → m ≡ bucket_number (settings_of c).skipped n (hash (key e)) → IsTarget a p m
  target-old far e read {m} routed =
      let at = old-here inv p view place n count far in
      let number = routed ∙ ap (λ k. bucket_number (settings_of c).skipped k (hash (key e))) count in
      let seen = count-own inv view in
      let below = old-within (λ x. hash (key x)) c drain.waiting drain.array inv.arrays (p.bucket - n) p.slot e at.1 read in
      record {
        value = number ∙ sym (ap (λ d. (spot_of d p).bucket) (sym view) ∙ ap (λ q. q.bucket) (old-spot (λ x. hash (key x)) c drain.waiting drain.array inv.arrays (p.bucket - n) p.slot e at.1 read p at.0 (omega arith)));
        next = subst (λ k. NextStart a k p) (sym number) (subst (λ d. NextStart d (bucket_number (settings_of c).skipped (bucket_count c) (hash (key e))) p) view (old-next (λ x. hash (key x)) c drain.waiting drain.array inv.arrays p (p.bucket - n) p.slot e at.1 read at.0 (omega arith)));
        within = omega (arith, seen, number, below);
      }
