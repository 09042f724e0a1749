-- Where a walk goes on after an entry is taken out.
use Rattle.std.proofs.Common.{◌≡◌, ◌==◌, ℕ, zero, suc, ◌+◌, ◌-◌, ◌<◌, ◌≤◌, Bool, true, false, cond, nat_lt, rules, Option, Some, None, MatchOption, List, [], ◌∷◌, ◌++◌, length, take, set, get_or, refl, sym, ap, ◌∙◌, subst, arith, length-set, get_or-set_same}
use Rattle.std.specs.List.{flat_map, count_by, remove, slice_get}
use Rattle.std.proofs.lemmas.List.Edits.{length-remove}
use Rattle.scc_common.specs.Contents.{Contents, entries, bucket_count, list_of, lists_of, waiting_of, owed_of}
use Rattle.scc_buckets.specs.OneList.{IsTakenFrom}
use Rattle.scc_buckets.specs.Places as spots
use Rattle.scc_buckets.specs.declared.place.Place.{Place}
use Rattle.scc_buckets.proofs.Standing.{along, index-below}
use Rattle.scc_table.specs.Places.{IsPlace, StandsAt, owed_before, index_of, spot_by, spot_of}
use Rattle.scc_table.specs.NextPlaces.{index_on, rank_on, spot_on, IsStart, own, old}
use Rattle.scc_table.specs.Takes.{owed_taken}
use Rattle.scc_table.specs.TwoArrays.{waits_at}
use Rattle.scc_table.proofs.places.OldSpots.{spot-old, spot-own}
use Rattle.scc_draining.proofs.Flags.{up-within}
use Rattle.scc_table.proofs.removals.OneList.{index-is, taken-exactly, taken-list}

take-set : {X : Type 0} (xs : List X) (i : ℕ) (x : X) → take i (set xs i x) ≡ take i xs
take-set [] zero x = refl
take-set [] (suc i) x = refl
take-set (y ∷ xs) zero x = refl
take-set (y ∷ xs) (suc i) x = ap (λ z. y ∷ z) (take-set xs i x)

take-remove : {X : Type 0} (xs : List X) (i : ℕ) → take i (remove xs i) ≡ take i xs
take-remove [] zero = refl
take-remove [] (suc i) = refl
take-remove (y ∷ []) zero = refl
take-remove (y ∷ z ∷ xs) zero = refl
take-remove (y ∷ xs) (suc i) = ap (λ l. y ∷ l) (take-remove xs i)

-- if the entry at a place of the old array is taken out, what stands before this place stays
pub before-taken : (hs : List (List ℕ)) (j s : ℕ) → j < length hs → owed_before (set hs j (remove (get_or hs j []) s)) j s ≡ owed_before hs j s
before-taken hs j s l =
    let x = remove (get_or hs j []) s in
    let here : get_or (set hs j x) j [] ≡ x = get_or-set_same hs j x [] l in
    ap (λ z. flat_map (λ y. y) z ++ take s (get_or (set hs j x) j [])) (take-set hs j x) ∙ ap (λ z. flat_map (λ y. y) (take j hs) ++ take s z) here ∙ ap (λ z. flat_map (λ y. y) (take j hs) ++ z) (take-remove (get_or hs j []) s)

-- if the entry at q is taken out, the number of entries before q stays
pub index-taken : {E S : Type 0} (c d : Contents E S) (q : Place) → IsTakenFrom c q d → spots.index_of_spot d q ≡ spots.index_of_spot c q
index-taken c d q t =
    index-is d q ∙ ap (λ ls. length (flat_map (λ l. l) (take q.bucket ls)) + q.slot) t.lists
    ∙ ap (λ z. length (flat_map (λ l. l) z) + q.slot) (take-set (lists_of c) q.bucket (remove (list_of c q.bucket) q.slot)) ∙ sym (index-is c q)

spot-some : (n t : ℕ) (o : Option ℕ) (b : List ℕ) → (spot_by n o b).bucket ≡ t → t < n → spot_by n o b ≡ record { bucket = t; slot = count_by (λ u. u == t) b }
spot-some n t None b e l = absurd (let z : n ≡ t = e in omega arith)
spot-some n t (Some u) b e l = let z : u ≡ t = e in ap (λ m. let q : Place = record { bucket = m; slot = count_by (λ v. v == m) b } in q) z

module _ {E S : Type 0} (c d : Contents E S) (p : Place) (within : IsPlace c p) (taken : IsTakenFrom c (spot_of c p) d) (waiting : waiting_of d ≡ waiting_of c) (left : owed_of d ≡ owed_taken (bucket_count c) (owed_of c) p)
    (t : ℕ) (target : t ≡ (spot_of c p).bucket) (below : t < bucket_count c) where
  count-kept : bucket_count d ≡ bucket_count c
  count-kept = (taken-exactly c d (spot_of c p) within taken).buckets

  module _ (past : bucket_count c ≤ p.bucket) where
    owed-is : owed_of d ≡ set (owed_of c) (p.bucket - bucket_count c) (remove (get_or (owed_of c) (p.bucket - bucket_count c) []) p.slot)
    owed-is =
        let n = bucket_count c in
        let j = p.bucket - n in
        let far : nat_lt p.bucket n ≡ false = search rules in
        left ∙ ap (λ (b : Bool). cond b (owed_of c) (set (owed_of c) j (remove (get_or (owed_of c) j []) p.slot))) far

  -- after the removal, a search for the next entry may start at the slot of p
  pub step-start : IsStart c t p.bucket (p.slot + 1) → IsStart d t p.bucket p.slot
  step-start (own same down le) =
      let q = spot_of c p in
      let there : q ≡ p = spot-own (waiting_of c) (owed_of c) (bucket_count c) p (omega arith) (ap (waits_at (waiting_of c)) same ∙ down) in
      let list : list_of d t ≡ remove (list_of c q.bucket) q.slot = ap (list_of d) target ∙ taken-list c d q within taken in
      let n : length (list_of d t) ≡ length (remove (list_of c q.bucket) q.slot) = ap length list in
      let m = length-remove (list_of c q.bucket) q.slot within.slot in
      let k : length (list_of c q.bucket) ≡ length (list_of c t) = ap (λ i. length (list_of c i)) (sym target) in
      own same (ap (λ w. waits_at w t) waiting ∙ down) (omega arith)
  step-start (old up past less) =
      let n : length (owed_of d) ≡ length (owed_of c) = ap length (owed-is past) ∙ length-set (owed_of c) (p.bucket - bucket_count c) (remove (get_or (owed_of c) (p.bucket - bucket_count c) []) p.slot) in
      old (ap (λ w. waits_at w t) waiting ∙ up) (omega (arith, count-kept)) (omega (arith, count-kept))

  spot-kept : IsStart c t p.bucket (p.slot + 1) → spot_on d t p.bucket p.slot ≡ spot_of c p
  spot-kept (own same down le) =
      let q = spot_of c p in
      let n = bucket_count d in
      let there : q ≡ p = spot-own (waiting_of c) (owed_of c) (bucket_count c) p (omega arith) (ap (waits_at (waiting_of c)) same ∙ down) in
      let near : nat_lt p.bucket n ≡ true = let l : p.bucket < n = omega (arith, count-kept) in search rules in
      let here : Place = record { bucket = t; slot = p.slot } in
      let away : Place = record { bucket = t; slot = rank_on d t (p.bucket - n) p.slot } in
      ap (λ (b : Bool). cond b here away) near ∙ ap (λ m. let r : Place = record { bucket = m; slot = p.slot } in r) (sym same) ∙ sym there
  spot-kept (old up past less) =
      let n = bucket_count d in
      let j = p.bucket - bucket_count c in
      let hs = owed_of c in
      let far : nat_lt p.bucket n ≡ false = let l : n ≤ p.bucket = omega (arith, count-kept) in search rules in
      let here : Place = record { bucket = t; slot = p.slot } in
      let away : Place = record { bucket = t; slot = rank_on d t (p.bucket - n) p.slot } in
      let some : 0 < length (waiting_of c) = let l = up-within (waiting_of c) t up in omega arith in
      let spot = spot-old (waiting_of c) hs (bucket_count c) j p some (omega arith) in
      let is = spot-some (bucket_count c) t (slice_get (get_or hs j []) p.slot) (owed_before hs j p.slot) (ap (λ q. q.bucket) (sym spot) ∙ sym target) below in
      let ranks : rank_on d t (p.bucket - n) p.slot ≡ count_by (λ u. u == t) (owed_before hs j p.slot) =
      ap (λ m. rank_on d t (p.bucket - m) p.slot) count-kept ∙ ap (λ h. count_by (λ u. u == t) (owed_before h j p.slot)) (owed-is past) ∙ ap (count_by (λ u. u == t)) (before-taken hs j p.slot (omega arith)) in
      ap (λ (b : Bool). cond b here away) far ∙ ap (λ m. let r : Place = record { bucket = t; slot = m } in r) ranks ∙ sym is ∙ sym spot

  -- as many entries stand before the start of the search as stood before the removed entry
  pub step-index : IsStart c t p.bucket (p.slot + 1) → index_on d t p.bucket p.slot ≡ index_of c p
  step-index start = ap (spots.index_of_spot d) (spot-kept start) ∙ index-taken c d (spot_of c p) taken

  -- the walk goes on with the entry that stood after the removed entry
  pub step-next : IsStart c t p.bucket (p.slot + 1) → (o : Option Place) → MatchOption o (index_on d t p.bucket p.slot ≡ length (entries d)) (StandsAt d (index_on d t p.bucket p.slot))
      → MatchOption o (suc (index_of c p) ≡ length (entries c)) (StandsAt d (index_of c p))
  step-next start o m =
      let e = step-index start in
      let h = taken-exactly c d (spot_of c p) within taken in
      let n : length (entries d) ≡ length (remove (entries c) (index_of c p)) = ap length h.exact in
      let r = length-remove (entries c) (index_of c p) (index-below c (spot_of c p) within) in
      along o (λ z. omega arith) (λ q. subst (λ i. StandsAt d i q) e) m
