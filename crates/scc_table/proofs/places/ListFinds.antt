-- The entry that a search finds, in the list of its bucket.
use Rattle.std.proofs.Common.{◌≡◌, ℕ, zero, suc, ◌+◌, ◌<◌, ◌≤◌, Bool, Option, Some, None, List, [], ◌∷◌, length, take, get_or, refl, sym, ap, ◌∙◌, arith, length-append}
use Rattle.std.specs.List.{flat_map, position}
use native.Mathlib.Decide.{dec_lt}
use Rattle.scc_buckets.specs.Bounded.{IsListedAtSpot, IsUnlisted}
use Rattle.scc_common.specs.Contents.{Contents, entries, bucket_count, list_of, lists_of, settings_of, IsRouted}
use Rattle.scc_buckets.specs.Places.{IsFoundAtSpot, IsSpot, index_of_spot}
use Rattle.scc_common.specs.Routing.{bucket_number}
use Rattle.scc_buckets.specs.declared.place.Place.{Place}
use Rattle.scc_buckets.proofs.FindingLemmas.{HashOf}
use Rattle.scc_buckets.proofs.Spots.{before}
use Rattle.scc_table.proofs.insertions.AtEnds.{absent-list}
use Rattle.scc_table.proofs.relocations.Fields.{count-is, list-is}
use Rattle.scc_table.proofs.places.Searches.{found-listed, missed-listed}
use Rattle.scc_table.proofs.removals.OneList.{index-is}

-- list i ends before each later list j begins
before-past : {E : Type 0} (ls : List (List E)) (i j : ℕ) → i < j → i < length ls → before ls i + length (get_or ls i []) ≤ before ls j
before-past [] i j l h = absurd (omega arith)
before-past (x ∷ ls) i zero l h = absurd (omega arith)
before-past (x ∷ ls) zero (suc j) l h = omega (arith, length-append x (flat_map (λ y. y) (take j ls)))
before-past (x ∷ ls) (suc i) (suc j) l h =
    omega (arith, before-past ls i j (omega arith) (omega arith), length-append x (flat_map (λ y. y) (take i ls)), length-append x (flat_map (λ y. y) (take j ls)))

module _ {E S : Type 0} (c : Contents E S) where
  earlier : (p q : Place) → IsSpot c p → p.bucket < q.bucket → index_of_spot c p < length (flat_map (λ l. l) (take q.bucket (lists_of c)))
  earlier p q h l =
      let ls = lists_of c in
      let b = h.bucket in
      let past = before-past ls p.bucket q.bucket l (omega (arith, count-is c)) in
      let n : length (list_of c p.bucket) ≡ length (get_or ls p.bucket []) = ap length (list-is c p.bucket) in
      let s = h.slot in
      let i = index-is c p in
      omega arith

  -- if equally many entries stand before two spots, the spots are equal
  pub place-one : (p q : Place) → IsSpot c p → IsSpot c q → index_of_spot c p ≡ index_of_spot c q → p ≡ q
  place-one p q h k e =
      let i = index-is c p in
      let j = index-is c q in
      elim (dec_lt p.bucket q.bucket) [
        | yes r ↦ let z = earlier p q h r in absurd (omega arith)
        | no r ↦ elim (dec_lt q.bucket p.bucket) [
          | yes s ↦ let z = earlier q p k s in absurd (omega arith)
          | no s ↦
              let same : p.bucket ≡ q.bucket = omega arith in
              let fronts : length (flat_map (λ l. l) (take p.bucket (lists_of c))) ≡ length (flat_map (λ l. l) (take q.bucket (lists_of c))) = ap (λ b. length (flat_map (λ l. l) (take b (lists_of c)))) same in
              let slots : p.slot ≡ q.slot = omega arith in
              ap (λ b. let r : Place = record { bucket = b; slot = p.slot } in r) same ∙ ap (λ n. let r : Place = record { bucket = q.bucket; slot = n } in r) slots
        ]
      ]

  module _ (hash : E → ℕ) (routed : IsRouted hash c) (p : E → Bool) (h i : ℕ) (a : HashOf p hash h) (at : i ≡ bucket_number (settings_of c).skipped (bucket_count c) h) where
    -- the first of all entries that passes p is the first entry of list i that passes p
    pub listed-found : (q : Place) → IsFoundAtSpot p c q → i < bucket_count c → IsListedAtSpot p c i q
    listed-found q f l = by_found (position p (list_of c i)) refl where
      by_found : (o : Option ℕ) → position p (list_of c i) ≡ o → IsListedAtSpot p c i q
      by_found None e = absurd (let z : None ≡ Some (index_of_spot c q) = sym (missed-listed hash c routed p h i a at l e) ∙ f.found in cc)
      by_found (Some k) e =
          let r : Place = record { bucket = i; slot = k } in
          let g = found-listed hash c routed p h i a at l k e in
          let s : Some (index_of_spot c r) ≡ Some (index_of_spot c q) = sym g.found ∙ f.found in
          let n : index_of_spot c r ≡ index_of_spot c q = cc in
          let one : r ≡ q = place-one r q g.within f.within n in
          record { within = f.within; bucket = ap (λ z. z.bucket) (sym one); found = e ∙ ap (λ z. Some z.slot) one }

pub unlisted-missed : {E S : Type 0} (c : Contents E S) (p : E → Bool) (i : ℕ) → position p (entries c) ≡ None → IsUnlisted p c i
unlisted-missed c p i n = record { list = absent-list c p i n; all = n }
