-- The first entry that passes is taken out of the current array of two arrays. Its bucket doesn't wait.
use Rattle.std.proofs.Common.{◌≡◌, ℕ, ◌+◌, ◌<◌, Bool, true, false, [], length, take, Option, Some, None, refl, sym, ap, subst, ◌∙◌, arith}
use Rattle.std.specs.Cmp.{IsEquivalence}
use Rattle.std.specs.List.{flat_map, position, slice_get}
use Rattle.std.specs.Option.{option_map}
use Rattle.scc_common.specs.Contents.{Contents, Settings, entries, bucket_count, list_of, lists_of, owed_of, settings_of, IsRouted}
use Rattle.scc_common.specs.Routing.{bucket_number}
use Rattle.scc_buckets.specs.OneList.{IsSwappedOutOf}
use Rattle.scc_buckets.specs.Placed.{at, at-get}
use Rattle.scc_buckets.specs.Places as spots
use Rattle.scc_buckets.specs.Takes.{TakesFirstSpot}
use Rattle.scc_buckets.specs.declared.place.Place.{Place}
use Rattle.scc_buckets.proofs.FindingLemmas.{HashOf}
use Rattle.scc_buckets.proofs.Spots.{place-get}
use Rattle.scc_table.specs.Places.{IsFoundAt, spot_of}
use Rattle.scc_table.specs.Removals.{SwapTakesFirst}
use Rattle.scc_draining.specs.Drainings.{Draining}
use Rattle.scc_table.specs.TwoArrays.{together, waits_at, IsTable}
use Rattle.scc_table.proofs.arrays.JoinedLists.{waiting-together}
use Rattle.scc_table.proofs.places.Searches.{entries-not_waiting, found-not_waiting, found-own, found-split, missed-own, position-routed, routed-current}
use Rattle.scc_table.proofs.removals.Fields.{own-owed_kept, own-less_swapped, own-swapped}
use Rattle.scc_table.proofs.removals.OneList.{index-is, swapped-count, swapped-moved, swapped-unique}
use Rattle.scc_table.proofs.arrays.Writes.{own-got}

added : (a n : ℕ) (o : Option ℕ) → option_map (λ k. a + k) o ≡ Some n → (k : ℕ) × (o ≡ Some k) × (n ≡ a + k)
added a n None e = absurd (let z : None ≡ Some n = e in cc)
added a n (Some k) e = let z : Some (a + k) ≡ Some n = e in let w : a + k ≡ n = cc in (k, refl, sym w)

never-added : (a : ℕ) (o : Option ℕ) → option_map (λ k. a + k) o ≡ None → o ≡ None
never-added a None e = refl
never-added a (Some k) e = absurd (let z : Some (a + k) ≡ None = e in cc)

-- the entry at the place of the first entry that passes, which passes
passing : {E S : Type 0} (p : E → Bool) (d : Contents E S) (q : Place) → spots.IsFoundAtSpot p d q → (e : E) × (slice_get (list_of d q.bucket) q.slot ≡ Some e) × (p e ≡ true)
passing p d q f =
    let e = at (list_of d q.bucket) q.slot f.within.slot in
    let here = at-get (list_of d q.bucket) q.slot f.within.slot in
    let s = found-split p (entries d) (spots.index_of_spot d q) f.found in
    let both : Some s.0 ≡ Some e = sym s.1 ∙ place-get d q f.within e here in
    let same : s.0 ≡ e = cc in
    (e, here, ap p (sym same) ∙ s.2)

-- the entries of d stand in the buckets of their hashes, and those that pass have the hash h, whose bucket is i
module _ {E S : Type 0} (hash : E → ℕ) (d : Contents E S) (routed : IsRouted hash d) (p : E → Bool) (h i : ℕ) (a : HashOf p hash h) (here : i ≡ bucket_number (settings_of d).skipped (bucket_count d) h) (l : i < bucket_count d) where
  first-listed : (q : Place) → spots.IsFoundAtSpot p d q → (q.bucket ≡ i) × (position p (list_of d i) ≡ Some q.slot)
  first-listed q f =
      let r = passing p d q f in
      let bucket : q.bucket ≡ i = sym (routed.routed q.bucket q.slot r.0 r.1) ∙ ap (bucket_number (settings_of d).skipped (bucket_count d)) (a.same r.0 r.2) ∙ sym here in
      let n : ℕ = length (flat_map (λ x. x) (take i (lists_of d))) in
      let s = added n (spots.index_of_spot d q) (position p (list_of d i)) (sym (position-routed hash d routed p h i a here l) ∙ f.found) in
      let index : spots.index_of_spot d q ≡ n + q.slot = index-is d q ∙ ap (λ k. length (flat_map (λ x. x) (take k (lists_of d))) + q.slot) bucket in
      let same : s.0 ≡ q.slot = let z = s.2 in omega arith in
      (bucket, s.1 ∙ ap (λ k. Some k) same)

  none-listed : position p (entries d) ≡ None → position p (list_of d i) ≡ None
  none-listed e = never-added (length (flat_map (λ x. x) (take i (lists_of d)))) (position p (list_of d i)) (sym (position-routed hash d routed p h i a here l) ∙ e)

module _ {E K S : Type 0} (key : E → K) (p : E → Bool) {eq : K → K → Bool} (laws : IsEquivalence eq) (hash_for : Settings S → K → ℕ) (c d : Contents E S) (drain : Draining E)
    (inv : IsTable eq key (hash_for (settings_of c)) c drain) where
  abbrev hk : K → ℕ
  hk = hash_for (settings_of c)

  abbrev both : Contents E S → Contents E S
  both z = together (λ e. hash_for (settings_of z) (key e)) z drain.waiting drain.array

  -- a removal from the current array is a removal from both arrays
  own-takes : (q : Place) → IsFoundAt p (both c) q → q.bucket < bucket_count c → (x : E) → slice_get (entries c) (spots.index_of_spot c q) ≡ Some x → IsSwappedOutOf c q d → SwapTakesFirst eq key p (both c) (both d) (Some x)
  own-takes q at near x got out =
      let spot = spot_of (both c) q in
      let there = own-got laws inv q at.within near x got in
      let taken : IsSwappedOutOf (both c) spot (both d) =
      subst (λ (s : Settings S). let z : Contents E S = together (λ e. hash_for s (key e)) d drain.waiting drain.array in IsSwappedOutOf (both c) spot z) (sym out.settings) (own-swapped laws inv q at.within near d out) in (
        q,
        at,
        record {
          entry = there;
          others = swapped-moved (both c) (both d) spot at.within taken;
          buckets = swapped-count (both c) (both d) spot at.within taken;
          noted = taken.refused;
          settings = taken.settings;
          waiting = waiting-together (λ e. hash_for (settings_of d) (key e)) d drain.waiting drain.array ∙ sym (waiting-together (λ e. hk (key e)) c drain.waiting drain.array);
          owed =
              ap (λ (s : Settings S). let z : Contents E S = together (λ e. hash_for s (key e)) d drain.waiting drain.array in owed_of z) out.settings
              ∙ own-owed_kept laws inv q at.within near d out.left out.lists out.settings;
          exact = taken;
          unique = swapped-unique (both c) (both d) spot at.within taken laws key x there inv.unique;
        },
      )

  -- the invariant `IsTable` holds after the removal
  own-left : (q : Place) → IsFoundAt p (both c) q → q.bucket < bucket_count c → (x : E) → slice_get (entries c) (spots.index_of_spot c q) ≡ Some x → IsSwappedOutOf c q d → IsTable eq key (hash_for (settings_of d)) d drain
  own-left q at near x got out = subst (λ (s : Settings S). IsTable eq key (hash_for s) d drain) (sym out.settings) (own-less_swapped laws inv q at.within near d x got out)

  own-same : d ≡ c → IsTable eq key (hash_for (settings_of d)) d drain
  own-same stays = subst (λ (z : Contents E S). IsTable eq key (hash_for (settings_of z)) z drain) (sym stays) inv

  -- no bucket waits
  module _ (none : drain.waiting ≡ []) where
    pub not_waiting-taken : (r : Option E) → TakesFirstSpot p c d r → SwapTakesFirst eq key p (both c) (both d) r
    not_waiting-taken None (missed, stays) = (ap (position p) (entries-not_waiting (λ e. hk (key e)) c drain.array drain.waiting none) ∙ missed, ap both stays)
    not_waiting-taken (Some x) (q, found, got, out) = own-takes q (found-not_waiting (λ e. hk (key e)) c drain.array drain.waiting none p q found) found.within.bucket x got out

    pub not_waiting-left : (r : Option E) → TakesFirstSpot p c d r → IsTable eq key (hash_for (settings_of d)) d drain
    not_waiting-left None (missed, stays) = own-same stays
    not_waiting-left (Some x) (q, found, got, out) = own-left q (found-not_waiting (λ e. hk (key e)) c drain.array drain.waiting none p q found) found.within.bucket x got out

  -- the entries that pass have the hash h, whose bucket i doesn't wait
  module _ (routed : IsRouted (λ e. hk (key e)) (both c)) (h i : ℕ) (a : HashOf p (λ e. hk (key e)) h) (here : i ≡ bucket_number (settings_of c).skipped (bucket_count c) h) (l : i < bucket_count c) (down : waits_at drain.waiting i ≡ false) where
    routed-here : IsRouted (λ e. hk (key e)) c
    routed-here = routed-current (λ e. hk (key e)) c drain.waiting drain.array inv.arrays routed

    found-here : (q : Place) → spots.IsFoundAtSpot p c q → IsFoundAt p (both c) q
    found-here q f =
        let r = first-listed (λ e. hk (key e)) c routed-here p h i a here l q f in
        found-own (λ e. hk (key e)) c drain.waiting drain.array inv.arrays routed-here p h i a here l down q r.0 r.1

    pub down-taken : (r : Option E) → TakesFirstSpot p c d r → SwapTakesFirst eq key p (both c) (both d) r
    down-taken None (missed, stays) = (
      missed-own (λ e. hk (key e)) c drain.waiting drain.array inv.arrays routed-here p h i a here l down (none-listed (λ e. hk (key e)) c routed-here p h i a here l missed),
      ap both stays,
    )
    down-taken (Some x) (q, found, got, out) = own-takes q (found-here q found) found.within.bucket x got out

    pub down-left : (r : Option E) → TakesFirstSpot p c d r → IsTable eq key (hash_for (settings_of d)) d drain
    down-left None (missed, stays) = own-same stays
    down-left (Some x) (q, found, got, out) = own-left q (found-here q found) found.within.bucket x got out
