-- Where a search for the entries of a bucket may start, and how many entries stand before it.
use Rattle.std.proofs.Common.{◌≡◌, ℕ, ◌+◌, ◌-◌, ◌<◌, ◌≤◌, Bool, false, length, sym, ap, ◌∙◌, subst, arith, add-one}
use Rattle.scc_common.specs.Contents.{Contents, bucket_count, list_of, owed_of, waiting_of}
use Rattle.scc_buckets.specs.Places as spots
use Rattle.scc_buckets.specs.declared.place.Place.{Place}
use Rattle.scc_buckets.proofs.Standing.{index-skip}
use Rattle.scc_draining.specs.Drainings.{Draining}
use Rattle.scc_table.specs.NextPlaces.{IsStart, index_on, rank_on}
use Rattle.scc_table.specs.Places.{StandsAt}
use Rattle.scc_table.specs.TwoArrays.{IsTable, IsWaiting, together, waits_at}
use Rattle.scc_table.proofs.arrays.OneBucket.{count-own, flag-down}
use Rattle.scc_table.proofs.places.NextPlaces.{own-stands, spot-on_old, spot-on_own, start-old, start-own}
use Rattle.scc_table.proofs.places.OldSpots.{own-list}

module _ {E K S : Type 0} {eq : K → K → Bool} {key : E → K} {hash : K → ℕ} {c a : Contents E S} {drain : Draining E} (inv : IsTable eq key hash c drain) (view : together (λ e. hash (key e)) c drain.waiting drain.array ≡ a) {n : ℕ} (count : n ≡ bucket_count c) {i b s : ℕ} (start : IsStart a i b s) where
  -- in the current array
  module _ (below : b < n) where
    near : b < bucket_count a
    near = let seen = count-own inv view in omega (arith, seen, count, below)

    from : (b ≡ i) × (waits_at (waiting_of a) i ≡ false) × (s ≤ length (list_of a i))
    from = start-own a i b s start near

    down : waits_at drain.waiting b ≡ false
    down = flag-down inv b view (ap (waits_at (waiting_of a)) from.0 ∙ from.1)

    list : list_of a b ≡ list_of c b
    list = ap (λ d. list_of d b) (sym view) ∙ own-list (λ e. hash (key e)) c drain.waiting drain.array inv.arrays b (omega (arith, below, count)) down

    to : spots.index_of_spot a (record { bucket = b; slot = s }) ≡ index_on a i b s
    to = ap (λ m. spots.index_of_spot a (record { bucket = m; slot = s })) from.0 ∙ sym (ap (spots.index_of_spot a) (spot-on_own a i b s near))

    module _ {m : ℕ} (len : m ≡ length (list_of c b)) where
      -- its entry is the next one
      pub start-stands : s < m → StandsAt a (index_on a i b s) (record { bucket = b; slot = s })
      start-stands l =
          let p : Place = record { bucket = b; slot = s } in
          let own = subst (λ d. StandsAt d (spots.index_of_spot d p) p) view (own-stands (λ e. hash (key e)) c drain.waiting drain.array inv.arrays p (omega (arith, below, count)) down (omega (arith, l, len))) in
          record { within = own.within; index = own.index ∙ to }

      -- if its list ends there, the next entry stands in a later bucket
      pub start-past : m ≤ s → spots.index_of_spot a (record { bucket = b + 1; slot = 0 }) ≡ index_on a i b s
      start-past far =
          let most : s ≤ length (list_of a b) = subst (λ k. s ≤ length (list_of a k)) (sym from.0) from.2 in
          let same = ap length list in
          ap (λ k. spots.index_of_spot a (record { bucket = k; slot = 0 })) (add-one b) ∙ index-skip a b s near (omega (arith, far, len, most, same)) ∙ to

  -- in the old array
  module _ (far : n ≤ b) (within : i < bucket_count a) where
    behind : b ≡ bucket_count a + (b - n)
    behind = let seen = count-own inv view in omega (arith, seen, count, far)

    pub start-waits : IsWaiting a i
    start-waits = (start-old a i b s start (omega (arith, behind)) within).0

    pub start-source : b - n < length (owed_of a)
    start-source = let st = start-old a i b s start (omega (arith, behind)) within in let at = behind in omega (arith, st.1, at)

    pub start-index : spots.index_of_spot a (record { bucket = i; slot = rank_on a i (b - n) s }) ≡ index_on a i b s
    start-index = sym (ap (spots.index_of_spot a) (spot-on_old a i b s (b - n) behind))

    -- if no entry of the bucket is left, the next entry stands in a later bucket
    pub start-next : rank_on a i (b - n) s ≡ length (list_of a i) → spots.index_of_spot a (record { bucket = i + 1; slot = 0 }) ≡ index_on a i b s
    start-next end = ap (λ k. spots.index_of_spot a (record { bucket = k; slot = 0 })) (add-one i) ∙ index-skip a i (rank_on a i (b - n) s) within end ∙ start-index
