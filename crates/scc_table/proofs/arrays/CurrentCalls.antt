-- A table of two arrays without a waiting bucket, and a call that changes the current array alone.
use Rattle.std.proofs.Common.{◌≡◌, ℕ, ◌+◌, ◌*◌, ◌^◌, ◌<◌, ◌==◌, inl, inr, Bool, true, false, [], ◌∷◌, length, map, sym, ap, ◌∙◌, subst, arith}
use Rattle.std.specs.List.{count_by, filter, flat_map, slice_get, IsDistinct}
use Rattle.std.specs.List.Sorted.{IsPermutation}
use Rattle.scc_array.specs.Shelf.{shelf_entries}
use Rattle.scc_common.specs.Contents.{Contents, entries, bucket_count, owed_of, lists_of, minimum_of, settings_of, overflow_of, waiting_of}
use Rattle.scc_buckets.specs.Places as spots
use Rattle.scc_common.specs.Routing.{bucket_number}
use Rattle.scc_common.specs.Sizes.{IsBucketCount, IsArraySize}
use Rattle.scc_common.specs.Steps.{FirstArrayWhenDue, Grows, IsUnchanged}
use Rattle.scc_buckets.specs.declared.place.Place.{Place}
use Rattle.scc_draining.specs.Moves.{AreOwn}
use Rattle.scc_table.specs.Places.{IsInsertedAt, spot_of}
use Rattle.scc_draining.specs.Drainings.{Draining}
use Rattle.scc_table.specs.TwoArrays.{IsTable, waits_at}
use Rattle.scc_table.proofs.arrays.OneArray.{entries-alone, nothing-owed, spilled-bare}
use Rattle.scc_table.proofs.places.OldSpots.{spot-own}
use Rattle.scc_table.proofs.insertions.Places.{index-same}
use Rattle.scc_table.proofs.arrays.SameParts.{count-same, entries-same, list-same}

-- the invariant `IsTable` holds after the contents of the current array change from c to d
pub fields-lone : {E K S : Type 0} (eq : K → K → Bool) (key : E → K) (hash : K → ℕ) (c d : Contents E S) (drain : Draining E) → IsTable eq key hash c drain → drain.waiting ≡ [] → settings_of d ≡ settings_of c → overflow_of d < 2 ^ 62
    → IsDistinct eq (map key (entries d)) → IsTable eq key hash d drain
fields-lone {E} eq key hash c d drain inv none settings few unique =
    let h : E → ℕ = λ e. hash (key e) in
    let nothing : flat_map shelf_entries drain.array ≡ [] = nothing-owed h c drain.waiting drain.array none inv.arrays in
    record {
      arrays = record {
        flags = inl none;
        multiples = inl none;
        sized = inl none;
        own = subst (λ s. AreOwn h s.skipped drain.array) (sym settings) inv.arrays.own;
        not_waiting = λ i down. ap (filter (λ e. bucket_number (settings_of d).skipped (bucket_count d) (h e) == i)) nothing;
        bare = λ i up. absurd (let z : false ≡ true = ap (λ w. waits_at w i) (sym none) ∙ up in cc);
      };
      counted = inv.counted;
      none = inv.none;
      given_back = inv.given_back;
      nothing_left = inv.nothing_left;
      below = inv.below;
      left_is = inv.left_is;
      overflow_is = let z = spilled-bare drain.array nothing in omega arith;
      few = let idle : drain.pending ≡ 0 = inv.counted ∙ ap (count_by (λ w. w)) none in let nothing_aside = inv.nothing_left idle in omega arith;
      unique = subst (λ es. IsDistinct eq (map key es)) (sym (entries-alone h d drain.waiting drain.array none)) unique;
    }

-- a and f, the contents of both arrays before and after, have the lists and settings of c and d, those of the current array
module _ {E S : Type 0} (a c d f : Contents E S) (before : lists_of a ≡ lists_of c) (had : settings_of a ≡ settings_of c) (after : lists_of f ≡ lists_of d) (has : settings_of f ≡ settings_of d) where
  pub over-unchanged : IsUnchanged c d → IsUnchanged a f
  over-unchanged u = record {
    exact = entries-same d f after ∙ u.exact ∙ sym (entries-same c a before);
    buckets = count-same d f after ∙ u.buckets ∙ sym (count-same c a before);
    settings = has ∙ u.settings ∙ sym had;
  }

  size : (n : ℕ) → IsArraySize (minimum_of c) (32 * bucket_count d) → IsArraySize (minimum_of a) (32 * bucket_count f)
  size n h = subst (λ s. IsArraySize (s.asked + s.reserved) (32 * bucket_count f)) (sym had) (subst (λ m. IsArraySize (minimum_of c) (32 * m)) (sym (count-same d f after)) h)

  pub over-grows : bucket_count a ≡ 0 → Grows c d → Grows a f
  over-grows none g = record {
    first = λ z ne. size 0 (g.first (sym (count-same c a before) ∙ z) (λ q. ne (count-same d f after ∙ q ∙ sym (count-same c a before))));
    half = λ some ne. absurd (omega arith);
    below = λ some ne. absurd (omega arith);
    doubled = λ some ne. absurd (omega arith);
    not_waiting = λ some ne. absurd (omega arith);
  }

  pub over-first : FirstArrayWhenDue c d → FirstArrayWhenDue a f
  over-first g = record { made = λ z. size 0 (g.made (sym (count-same c a before) ∙ z)) }

  pub over-inserted : waiting_of f ≡ [] → (e : E) (p : Place) → spots.IsInsertedAtSpot c e d p → IsInsertedAt a e f p
  over-inserted none e p i =
      let ca = count-same c a before in
      let cf = count-same d f after in
      let there : spots.IsInsertedAtSpot a e f p = record {
        holds = record {
          same = subst (λ es. IsPermutation (e ∷ entries a) es) (sym (entries-same d f after)) (subst (λ es. IsPermutation (e ∷ es) (entries d)) (sym (entries-same c a before)) i.holds.same);
          size = record {
            lawful = elim i.holds.size.lawful [ inl z ↦ inl (cf ∙ z ∙ sym ca) | inr z ↦ inr (subst IsBucketCount (sym cf) z) ];
            minimum = λ less. let m = i.holds.size.minimum (omega arith) in let z : minimum_of a ≡ minimum_of c = ap (λ s. s.asked + s.reserved) had in omega arith;
          };
          settings = has ∙ i.holds.settings ∙ sym had;
        };
        within = record { bucket = omega (arith, i.within.bucket); slot = subst (λ z. p.slot < length z) (sym (list-same d f after p.bucket)) i.within.slot };
        here = ap (λ es. slice_get es (spots.index_of_spot f p)) (entries-same d f after) ∙ ap (slice_get (entries d)) (index-same d f p after) ∙ i.here;
      } in
      let spot : spot_of f p ≡ p = spot-own (waiting_of f) (owed_of f) (bucket_count f) p there.within.bucket (ap (λ w. waits_at w p.bucket) none) in
      subst (spots.IsInsertedAtSpot a e f) (sym spot) there
