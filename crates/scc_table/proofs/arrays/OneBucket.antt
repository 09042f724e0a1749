-- What the invariant of a table says of one bucket.
use Rattle.std.proofs.Common.{◌≡◌, ℕ, ◌+◌, ◌-◌, ◌<◌, ◌≤◌, Bool, true, false, length, map, set, get_or, sym, ap, ◌∙◌, subst, arith}
use Rattle.std.specs.List.{flat_map, sum_by, IsDistinct}
use Rattle.std.proofs.lemmas.List.Sums.{count_by-le-length, get_or-le-sum_by}
use Rattle.scc_array.specs.Shelves.{shelf_of}
use Rattle.scc_array.specs.Shelf.{Shelf, empty_shelf, shelf_entries}
use Rattle.scc_common.specs.Contents.{Contents, IsRouted, bucket_count, list_of, lists_of, settings_of, waiting_of, owed_of, pending_of, hash_in}
use Rattle.scc_common.specs.Routing.{bucket_number}
use Rattle.scc_common.specs.Sizes.{IsBucketCount}
use Rattle.scc_buckets.specs.Pour.{destined_for}
use Rattle.scc_draining.specs.Moves.{AreMultiples}
use Rattle.scc_buckets.specs.Places as spots
use Rattle.scc_buckets.specs.declared.place.Place.{Place}
use Rattle.scc_table.specs.Places.{IsPlace}
use Rattle.scc_draining.specs.Drainings.{Draining}
use Rattle.scc_table.specs.TwoArrays.{IsTable, IsWaiting, together, waits_at}
use Rattle.scc_table.proofs.arrays.JoinedLists.{flags-length}
use Rattle.scc_table.proofs.places.NextPlaces.{owed-count}
use Rattle.scc_table.proofs.places.OldSpots.{old-at, own-at}
use Rattle.scc_table.proofs.relocations.Preparation.{unique-before, waiting-list, long-flags, multiple-flags, sized-flags}
use Rattle.scc_draining.proofs.Flags.{up-within}
use Rattle.scc_table.proofs.places.Searches.{not_true, routed-together}
use Rattle.scc_table.proofs.arrays.Views.{count-seen, pending-seen, settings-seen, waiting-seen}

-- if each entry of the current array stands in the list of the bucket of its hash, so does each entry of both arrays
pub routed-seen : {E K S : Type 0} (hash_of : S → K → ℕ) {eq : K → K → Bool} (key : E → K) {c a : Contents E S} {drain : Draining E} → IsTable eq key (hash_in hash_of c) c drain
    → together (λ e. hash_in hash_of c (key e)) c drain.waiting drain.array ≡ a → IsRouted (λ e. hash_in hash_of c (key e)) c → IsRouted (λ e. hash_in hash_of a (key e)) a
routed-seen {E} hash_of key {c} {a} {drain} inv view routed =
    let hash = λ (e : E). hash_in hash_of c (key e) in
    let all = subst (λ d. IsRouted hash d) view (routed-together hash c drain.waiting drain.array inv.arrays routed) in
    subst (λ s. IsRouted (λ (e : E). hash_of s.hasher (key e)) a) (sym (settings-seen hash c drain.waiting drain.array a view)) all

module _ {E K S : Type 0} {eq : K → K → Bool} {key : E → K} {hash : K → ℕ} {c : Contents E S} {drain : Draining E} (inv : IsTable eq key hash c drain) where
  -- if bucket i of the contents a waits, its flag is up
  pub flag-up : {a : Contents E S} (i : ℕ) → together (λ e. hash (key e)) c drain.waiting drain.array ≡ a → IsWaiting a i → waits_at drain.waiting i ≡ true
  flag-up {a} i view waits = ap (λ w. waits_at w i) (sym (waiting-seen (λ e. hash (key e)) c drain.waiting drain.array a view)) ∙ waits

  pub flag-seen : {a : Contents E S} (i : ℕ) → together (λ e. hash (key e)) c drain.waiting drain.array ≡ a → waits_at drain.waiting i ≡ true → IsWaiting a i
  flag-seen {a} i view up = ap (λ w. waits_at w i) (waiting-seen (λ e. hash (key e)) c drain.waiting drain.array a view) ∙ up

  -- if bucket i of the contents a doesn't wait, its flag is down
  pub flag-down : {a : Contents E S} (i : ℕ) → together (λ e. hash (key e)) c drain.waiting drain.array ≡ a → waits_at (waiting_of a) i ≡ false → waits_at drain.waiting i ≡ false
  flag-down {a} i view down = ap (λ w. waits_at w i) (sym (waiting-seen (λ e. hash (key e)) c drain.waiting drain.array a view)) ∙ down

  -- the current array has as many buckets as the contents a, and a hash has the same bucket in a and in c
  pub within-own : {a : Contents E S} {i : ℕ} → together (λ e. hash (key e)) c drain.waiting drain.array ≡ a → i < bucket_count a → i < bucket_count c
  within-own {a} view l = let count = count-seen (λ e. hash (key e)) c drain.waiting drain.array a view inv.arrays.flags in omega (arith, l, count)

  pub routed-own : {a : Contents E S} {i : ℕ} (h : ℕ) → together (λ e. hash (key e)) c drain.waiting drain.array ≡ a → i ≡ bucket_number (settings_of a).skipped (bucket_count a) h → i ≡ bucket_number (settings_of c).skipped (bucket_count c) h
  routed-own {a} h view routed =
      routed ∙ ap (λ s. bucket_number s.skipped (bucket_count a) h) (settings-seen (λ e. hash (key e)) c drain.waiting drain.array a view)
      ∙ ap (λ n. bucket_number (settings_of c).skipped n h) (count-seen (λ e. hash (key e)) c drain.waiting drain.array a view inv.arrays.flags)

  pub count-own : {a : Contents E S} → together (λ e. hash (key e)) c drain.waiting drain.array ≡ a → bucket_count c ≡ bucket_count a
  count-own {a} view = sym (count-seen (λ e. hash (key e)) c drain.waiting drain.array a view inv.arrays.flags)

  pub count-within : {a : Contents E S} {i : ℕ} → together (λ e. hash (key e)) c drain.waiting drain.array ≡ a → (0 < bucket_count a → i < bucket_count a) → 0 < bucket_count c → i < bucket_count c
  count-within view within some = let count = count-own view in let l = within (omega (arith, some, count)) in omega (arith, l, count)

  pub flag-free : {a : Contents E S} (i : ℕ) → together (λ e. hash (key e)) c drain.waiting drain.array ≡ a → (IsWaiting a i → ⊥) → waits_at drain.waiting i ≡ false
  flag-free {a} i view free = not_true (waits_at drain.waiting i) (λ up. free (ap (λ w. waits_at w i) (waiting-seen (λ e. hash (key e)) c drain.waiting drain.array a view) ∙ up))

  -- a place of a below the number of buckets is a place of the current array, in a bucket that doesn't wait
  pub own-here : {a : Contents E S} (p : Place) → together (λ e. hash (key e)) c drain.waiting drain.array ≡ a → IsPlace a p → p.bucket < bucket_count c → spots.IsSpot c p × (waits_at drain.waiting p.bucket ≡ false)
  own-here {a} p view place = own-at (λ e. hash (key e)) c drain.waiting drain.array inv.arrays a view p place

  -- a place of a that is not below the number of buckets is a place of the old array
  pub old-here : {a : Contents E S} (p : Place) → together (λ e. hash (key e)) c drain.waiting drain.array ≡ a → IsPlace a p → (n : ℕ) → n ≡ bucket_count c → n ≤ p.bucket
      → (p.bucket ≡ bucket_count c + (p.bucket - n)) × (p.bucket - n < length drain.array) × (p.slot < length (shelf_entries (shelf_of drain.array (p.bucket - n))))
  old-here {a} p view place = old-at (λ e. hash (key e)) c drain.waiting drain.array inv.arrays a view p place

  module _ (i : ℕ) (up : waits_at drain.waiting i ≡ true) where
    pub flags-whole : length drain.waiting ≡ bucket_count c
    flags-whole = long-flags c drain.waiting i inv.arrays.flags up

    pub target-within : i < bucket_count c
    target-within = let l = up-within drain.waiting i up in let long = flags-whole in omega (arith, l, long)

    pub old-multiples : AreMultiples (length drain.array) (bucket_count c)
    old-multiples = multiple-flags c drain.waiting drain.array i inv.arrays.multiples up

    pub old-sized : IsBucketCount (length drain.array)
    old-sized = sized-flags c drain.waiting drain.array i inv.arrays.sized up

    pub unique-coming : IsDistinct eq (map key (flat_map (λ l. l) (set (lists_of c) i (destined_for (λ e. hash (key e)) (settings_of c).skipped (bucket_count c) i (flat_map shelf_entries drain.array)))))
    unique-coming = unique-before (λ e. hash (key e)) c drain.waiting drain.array inv.arrays i up flags-whole eq key inv.unique

    -- the list of the waiting bucket i has the entries of the old array that belong to bucket i
    pub list-coming : {a : Contents E S} → together (λ e. hash (key e)) c drain.waiting drain.array ≡ a → list_of a i ≡ destined_for (λ e. hash (key e)) (settings_of c).skipped (bucket_count c) i (flat_map shelf_entries drain.array)
    list-coming view = ap (λ z. list_of z i) (sym view) ∙ waiting-list (λ e. hash (key e)) c drain.waiting drain.array inv.arrays i up flags-whole

    -- `owed_of` has one list for each old bucket
    pub owed-length : {a : Contents E S} → together (λ e. hash (key e)) c drain.waiting drain.array ≡ a → length (owed_of a) ≡ length drain.array
    owed-length view = ap (λ d. length (owed_of d)) (sym view) ∙ owed-count (λ e. hash (key e)) c drain.waiting drain.array inv.arrays i up

  -- an old bucket holds at most as many entries as the old array
  pub left-most : (j : ℕ) → j < length drain.array → length (shelf_entries (shelf_of drain.array j)) ≤ drain.left
  left-most j l =
      let f : Shelf E → ℕ = λ b. length (shelf_entries b) in
      let most : f (get_or drain.array j empty_shelf) ≤ sum_by f drain.array = get_or-le-sum_by f drain.array j empty_shelf l in
      omega (arith, most, inv.left_is)

  -- if some bucket waits, there are buckets, and each has a flag
  module _ {a : Contents E S} (view : together (λ e. hash (key e)) c drain.waiting drain.array ≡ a) (pending : 0 < pending_of a) where
    flags-all : length drain.waiting ≡ bucket_count c
    flags-all = let counted = pending-seen (λ e. hash (key e)) c drain.waiting drain.array a view in flags-length c drain.waiting drain.pending inv.arrays.flags inv.counted (omega (arith, counted, inv.counted, pending))

    pub bucket-within : {i : ℕ} → (0 < bucket_count c → i < bucket_count c) → i < bucket_count c
    bucket-within within =
        let counted = pending-seen (λ e. hash (key e)) c drain.waiting drain.array a view in
        let most = count_by-le-length (λ w. w) drain.waiting in
        let long = flags-all in
        within (omega (arith, counted, most, long, pending))

    pub index-within : {i : ℕ} → (0 < bucket_count c → i < bucket_count c) → i < length drain.waiting
    index-within within = let l = bucket-within within in let long = flags-all in omega (arith, l, long)

  -- the old bucket of a hash is a bucket of the old array
  pub source-within : (i : ℕ) {j n : ℕ} → waits_at drain.waiting i ≡ true → n ≡ length drain.array → (0 < n → j < n) → j < length drain.array
  source-within i up len within =
      let least = (old-sized i up).least in
      let l = within (omega (arith, len, least)) in
      omega (arith, l, len)
