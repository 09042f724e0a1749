-- What is known of the bucket of a key, and of its old bucket if that bucket waits, from the hash of the key.
use Rattle.std.proofs.Common.{◌≡◌, ◌∙◌, ℕ, ◌+◌, ◌^◌, ◌<◌, Bool, true, false, Some, None, List, length, refl, sym, ap, subst, arith}
use Rattle.std.specs.List.{find, position}
use Rattle.scc_array.specs.Shelves.{shelf_of}
use Rattle.scc_array.specs.Shelf.{shelf_entries}
use Rattle.scc_common.specs.Contents.{Contents, IsRouted, bucket_count, entries, hash_in, list_of, pending_of, settings_of}
use Rattle.scc_common.specs.Routing.{bucket_number}
use Rattle.scc_buckets.specs.declared.place.Place.{Place}
use Rattle.scc_buckets.proofs.FindingLemmas.{HashOf}
use Rattle.scc_draining.specs.Drainings.{Draining}
use Rattle.scc_table.specs.Places.{IsFoundAt}
use Rattle.scc_table.specs.TwoArrays.{IsTable, IsWaiting, together, waits_at}
use Rattle.scc_table.proofs.arrays.CurrentParts.{settings-seen}
use Rattle.scc_table.proofs.arrays.OneBucket.{bucket-within, flag-up, old-sized, routed-own, target-within}
use Rattle.scc_table.proofs.places.Finds.{find-current, find-draining}
use Rattle.scc_table.proofs.places.Searches.{found-old, found-own, missed-old, missed-own}
use Rattle.scc_table.proofs.resizes.Installation.{number-within}

-- each entry that passes p has the hash h, and bucket i of the current array, with the flag w, is the bucket of h
pub record IsBucketOf {E S : Type 0} (hash : E → ℕ) (p : E → Bool) (h i : ℕ) (c : Contents E S) (ws : List Bool) (w : Bool) : Type 0 where
  pub same : HashOf p hash h
  pub at : i ≡ bucket_number (settings_of c).skipped (bucket_count c) h
  pub within : i < bucket_count c
  pub flag : waits_at ws i ≡ w

-- the number of the old bucket of the hash h
abbrev pub old_bucket : {E S : Type 0} → Contents E S → Draining E → ℕ → ℕ
old_bucket c drain h = bucket_number (settings_of c).skipped (length drain.array) h

-- the entries of the old bucket of the hash h
abbrev pub old_entries : {E S : Type 0} → Contents E S → Draining E → ℕ → List E
old_entries c drain h = shelf_entries (shelf_of drain.array (old_bucket c drain h))

module _ {E K S : Type 0} (hash_of : S → K → ℕ) {eq : K → K → Bool} {key : E → K} {c a : Contents E S} {drain : Draining E} (inv : IsTable eq key (hash_in hash_of c) c drain)
    (view : together (λ e. hash_in hash_of c (key e)) c drain.waiting drain.array ≡ a) where
  -- a key has the same hash in the contents a and in the current array
  pub hash-own : (k : K) {h : ℕ} → h ≡ hash_in hash_of a k → h ≡ hash_in hash_of c k
  hash-own k hashed = hashed ∙ ap (λ s. hash_of s.hasher k) (sym (settings-seen (λ (e : E). hash_in hash_of c (key e)) c drain.waiting drain.array a view))

  -- if each entry of the contents a stands in the bucket of its hash, it does so in the contents of both arrays
  pub routed-own-hash : IsRouted (λ e. hash_in hash_of a (key e)) a → IsRouted (λ e. hash_in hash_of c (key e)) (together (λ e. hash_in hash_of c (key e)) c drain.waiting drain.array)
  routed-own-hash routed =
      let hash = λ (e : E). hash_in hash_of c (key e) in
      let all = subst (λ s. IsRouted (λ (e : E). hash_of s.hasher (key e)) a) (sym (settings-seen hash c drain.waiting drain.array a view)) routed in
      subst (λ d. IsRouted hash d) (sym view) all

  module _ (respects : (s : S) (x y : K) → eq x y ≡ true → hash_of s x ≡ hash_of s y) {k : K} {h : ℕ} (hashed : h ≡ hash_in hash_of a k) where
    -- entries with an equal key have its hash
    pub same-hash : HashOf (λ e. eq k (key e)) (λ e. hash_in hash_of c (key e)) h
    same-hash = record { same = λ e w. sym (hash-own k hashed ∙ respects (settings_of c).hasher k (key e) w) }

    -- what is known after the flag of the bucket of the hash was read
    pub bucket-read : {i : ℕ} {w : Bool} → 0 < pending_of a → i ≡ bucket_number (settings_of c).skipped (bucket_count c) h → (0 < bucket_count c → i < bucket_count c) → waits_at drain.waiting i ≡ w
        → IsBucketOf (λ e. hash_in hash_of c (key e)) (λ e. eq k (key e)) h i c drain.waiting w
    bucket-read pending at within flag = record { same = same-hash; at = at; within = bucket-within inv view pending within; flag = flag }

    -- what is known if the bucket of the hash waits
    pub bucket-waits : IsWaiting a (bucket_number (settings_of a).skipped (bucket_count a) h)
        → IsBucketOf (λ e. hash_in hash_of c (key e)) (λ e. eq k (key e)) h (bucket_number (settings_of a).skipped (bucket_count a) h) c drain.waiting true
    bucket-waits waits =
        let i = bucket_number (settings_of a).skipped (bucket_count a) h in
        let up = flag-up inv i view waits in
        record { same = same-hash; at = routed-own inv h view refl; within = target-within inv i up; flag = up }

module _ {E K S : Type 0} {eq : K → K → Bool} {key : E → K} {hash : K → ℕ} {c a : Contents E S} {drain : Draining E} (inv : IsTable eq key hash c drain) (view : together (λ e. hash (key e)) c drain.waiting drain.array ≡ a) where
  -- if a bucket waits, the old array has buckets
  pub old-some : (i : ℕ) → waits_at drain.waiting i ≡ true → 0 < length drain.array
  old-some i up = let least = (old-sized inv i up).least in omega (arith, least)

  pub old-below : (h i : ℕ) → waits_at drain.waiting i ≡ true → old_bucket c drain h < length drain.array
  old-below h i up = number-within (settings_of c).skipped (length drain.array) h (old-some i up)

  pub old-near : (h i : ℕ) → waits_at drain.waiting i ≡ true → old_bucket c drain h < 2 ^ 58
  old-near h i up = let l = old-below h i up in let most = (old-sized inv i up).most in omega (arith, l, most)

  module _ (routed : IsRouted (λ e. hash (key e)) c) {p : E → Bool} {h i : ℕ} where
    module _ (b : IsBucketOf (λ e. hash (key e)) p h i c drain.waiting true) where
      -- if the bucket waits, the first entry that passes stands in the old bucket, or none passes
      pub found-there : (q : Place) → q.bucket ≡ bucket_count c + old_bucket c drain h → position p (old_entries c drain h) ≡ Some q.slot → IsFoundAt p a q
      found-there q at found = subst (λ d. IsFoundAt p d q) view (found-old (λ e. hash (key e)) c drain.waiting drain.array inv.arrays routed p h i b.same b.at b.within b.flag (old_bucket c drain h) (old-below h i b.flag) refl q at found)

      pub missed-there : position p (old_entries c drain h) ≡ None → position p (entries a) ≡ None
      missed-there missed = ap (λ d. position p (entries d)) (sym view) ∙ missed-old (λ e. hash (key e)) c drain.waiting drain.array inv.arrays routed p h i b.same b.at b.within b.flag (old_bucket c drain h) (old-below h i b.flag) refl missed

      pub find-there : find p (old_entries c drain h) ≡ find p (entries a)
      find-there = sym (find-draining (λ e. hash (key e)) c drain.waiting drain.array inv.arrays routed p h i b.same b.at b.within b.flag (old_bucket c drain h) (old-below h i b.flag) refl) ∙ ap (λ d. find p (entries d)) view

    module _ (b : IsBucketOf (λ e. hash (key e)) p h i c drain.waiting false) where
      -- if the bucket doesn't wait, the first entry that passes stands in its own list, or none passes
      pub found-here : (q : Place) → q.bucket ≡ i → position p (list_of c i) ≡ Some q.slot → IsFoundAt p a q
      found-here q at found = subst (λ d. IsFoundAt p d q) view (found-own (λ e. hash (key e)) c drain.waiting drain.array inv.arrays routed p h i b.same b.at b.within b.flag q at found)

      pub missed-here : position p (list_of c i) ≡ None → position p (entries a) ≡ None
      missed-here missed = ap (λ d. position p (entries d)) (sym view) ∙ missed-own (λ e. hash (key e)) c drain.waiting drain.array inv.arrays routed p h i b.same b.at b.within b.flag missed

      pub find-here : find p (entries c) ≡ find p (entries a)
      find-here = sym (find-current (λ e. hash (key e)) c drain.waiting drain.array inv.arrays routed p h i b.same b.at b.within b.flag) ∙ ap (λ d. find p (entries d)) view
