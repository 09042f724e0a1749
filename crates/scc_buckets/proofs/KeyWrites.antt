-- Writes and removals at the place of a key, in words that a map's contracts cite.
use Rattle.std.proofs.Common.{◌≡◌, ℕ, zero, suc, ◌+◌, Bool, true, List, [], ◌∷◌, ◌++◌, length, take, drop, None, Some, refl, sym, ap, ◌∙◌, inl, inr}
use Rattle.std.specs.Cmp.{IsEquivalence}
use Rattle.std.specs.List.{IsDistinct, flat_map, slice_get, slice_set, remove}
use Rattle.std.specs.Map.{keys_of, set_value, set_key}
use Rattle.scc_common.specs.Contents.{Contents, entries, bucket_count, notes_of, list_of}
use Rattle.scc_common.specs.Pairs.{without, with_pair_value, with_pair_key}
use Rattle.scc_buckets.specs.Places.{IsSpot, IsFoundAtSpot, index_of_spot}
use Rattle.scc_common.specs.Steps.{Grows, Holds, HoldsExactly}
use Rattle.scc_array.specs.ShelfWrites.{write_at}
use Rattle.scc_buckets.specs.Writes.{with_write_at_spot}
use Rattle.scc_buckets.specs.declared.place.Place.{Place}
use Rattle.scc_buckets.proofs.WritingTables.{exactly-write, distinct-write}
use Rattle.scc_buckets.specs.Placed.{at, at-get}
use Rattle.scc_buckets.proofs.Lookups.{find-position}
use Rattle.scc_buckets.proofs.PairWrites.{IsPlaceOf}
use Rattle.scc_buckets.proofs.PairSplits.{set_value-at, set_key-at, without-at}

-- a write doesn't change the note of refused memory
pub noted-write : {E S X : Type 0} (put : E → X → E) (c : Contents E S) (p : Place) (w : X) → notes_of (with_write_at_spot put c p w) ≡ notes_of c
unfolding notes_of with_write_at_spot
noted-write put c p w = refl

pub write-parts : {E X : Type 0} (put : E → X → E) (es : List E) (i : ℕ) (e : E) (w : X) → slice_get es i ≡ Some e → write_at put es i w ≡ take i es ++ put e w ∷ drop (suc i) es
write-parts put [] i e w got = absurd (let n : None ≡ Some e = got in cc)
write-parts put (x ∷ es) zero e w got = let s : x ≡ e = cc in ap (λ z. put z w ∷ es) s
write-parts put (x ∷ es) (suc i) e w got = ap (λ l. x ∷ l) (write-parts put es i e w got)

module _ {K V S : Type 0} {eq : K → K → Bool} (laws : IsEquivalence eq) (c : Contents (K × V) S) (p : Place) (within : IsSpot c p) (k : K) (d : IsDistinct eq (keys_of (entries c))) (f : IsPlaceOf eq (entries c) k (index_of_spot c p)) where
  got-here : slice_get (list_of c p.bucket) p.slot ≡ Some (at (list_of c p.bucket) p.slot within.slot)
  got-here = at-get (list_of c p.bucket) p.slot within.slot

  -- a value written at the place of k is the value of k
  pub value-written : (w : V) → HoldsExactly c (set_value (eq k) (entries c) w) (with_write_at_spot with_pair_value c p w)
  value-written w =
      let h = exactly-write with_pair_value c p within (at (list_of c p.bucket) p.slot within.slot) got-here w in
      record {
        exact = h.exact ∙ write-parts with_pair_value (entries c) (index_of_spot c p) f.0 w f.1 ∙ sym (set_value-at laws k (entries c) (index_of_spot c p) d f w);
        buckets = h.buckets;
        settings = h.settings;
      }

  -- a key written at the place of k replaces the key k
  pub key-written : (q : K) → HoldsExactly c (set_key (eq k) (entries c) q) (with_write_at_spot with_pair_key c p q)
  key-written q =
      let h = exactly-write with_pair_key c p within (at (list_of c p.bucket) p.slot within.slot) got-here q in
      record {
        exact = h.exact ∙ write-parts with_pair_key (entries c) (index_of_spot c p) f.0 q f.1 ∙ sym (set_key-at laws k (entries c) (index_of_spot c p) d f q);
        buckets = h.buckets;
        settings = h.settings;
      }

  -- keys stay distinct if a value is written
  pub value-unique : (w : V) → IsDistinct eq (keys_of (entries (with_write_at_spot with_pair_value c p w)))
  value-unique w =
      let h = exactly-write with_pair_value c p within (at (list_of c p.bucket) p.slot within.slot) got-here w in
      rw h.exact (distinct-write laws (λ e. e.0) with_pair_value (entries c) (index_of_spot c p) f.0 w f.1 (laws.refl f.0.0) d)

  -- keys stay distinct if a key is written that equals the old one
  pub key-unique : (q : K) → eq q f.0.0 ≡ true → IsDistinct eq (keys_of (entries (with_write_at_spot with_pair_key c p q)))
  key-unique q same =
      let h = exactly-write with_pair_key c p within (at (list_of c p.bucket) p.slot within.slot) got-here q in
      rw h.exact (distinct-write laws (λ e. e.0) with_pair_key (entries c) (index_of_spot c p) f.0 q f.1 same d)

take-set : {X : Type 0} (xs : List X) (i : ℕ) (x : X) → take i (slice_set xs i x) ≡ take i xs
take-set [] zero x = refl
take-set [] (suc i) x = refl
take-set (y ∷ xs) zero x = refl
take-set (y ∷ xs) (suc i) x = ap (λ z. y ∷ z) (take-set xs i x)

-- a write doesn't change the index of a place
pub index-write : {E S X : Type 0} (put : E → X → E) (c : Contents E S) (p : Place) (w : X) → index_of_spot (with_write_at_spot put c p w) p ≡ index_of_spot c p
unfolding index_of_spot with_write_at_spot
index-write put c p w = ap (λ l. length (flat_map (λ x. x) l) + p.slot) (take-set c.lists p.bucket _)

pub get-write_at : {E X : Type 0} (put : E → X → E) (es : List E) (i : ℕ) (e : E) (w : X) → slice_get es i ≡ Some e → slice_get (write_at put es i w) i ≡ Some (put e w)
get-write_at put [] i e w got = absurd (let n : None ≡ Some e = got in cc)
get-write_at put (x ∷ es) zero e w got = let s : x ≡ e = cc in ap (λ z. Some (put z w)) s
get-write_at put (x ∷ es) (suc i) e w got = get-write_at put es i e w got

remove-write_at : {E X : Type 0} (put : E → X → E) (es : List E) (i : ℕ) (w : X) → remove (write_at put es i w) i ≡ remove es i
remove-write_at put [] zero w = refl
remove-write_at put [] (suc i) w = refl
remove-write_at put (x ∷ es) zero w = refl
remove-write_at put (x ∷ es) (suc i) w = ap (λ z. x ∷ z) (remove-write_at put es i w)

-- the first pair that passes stands at the place of k
pub place-found : {K V S : Type 0} (eq : K → K → Bool) (c : Contents (K × V) S) (k : K) (p : Place) → IsFoundAtSpot (λ e. eq k e.0) c p → IsPlaceOf eq (entries c) k (index_of_spot c p)
place-found eq c k p h = find-position (eq k) (entries c) (index_of_spot c p) h.found

module _ {K V S : Type 0} {eq : K → K → Bool} (laws : IsEquivalence eq) (c : Contents (K × V) S) (p : Place) (within : IsSpot c p) (k : K) (d : IsDistinct eq (keys_of (entries c))) (f : IsPlaceOf eq (entries c) k (index_of_spot c p)) where
  written : (w : V) → HoldsExactly c (write_at with_pair_value (entries c) (index_of_spot c p) w) (with_write_at_spot with_pair_value c p w)
  written w = exactly-write with_pair_value c p within (at (list_of c p.bucket) p.slot within.slot) (at-get (list_of c p.bucket) p.slot within.slot) w

  -- to write w into the pair of k and then take the pair out is to take out the pair of k
  pub written-taken_out : (w : V) (e : Contents (K × V) S) → Holds (with_write_at_spot with_pair_value c p w) (remove (entries (with_write_at_spot with_pair_value c p w)) (index_of_spot (with_write_at_spot with_pair_value c p w) p)) e
      → Holds c (without eq (entries c) k) e
  written-taken_out w e h =
      let x = written w in
      let same : remove (entries (with_write_at_spot with_pair_value c p w)) (index_of_spot (with_write_at_spot with_pair_value c p w) p) ≡ without eq (entries c) k =
      ap (λ i. remove (entries (with_write_at_spot with_pair_value c p w)) i) (index-write with_pair_value c p w)
      ∙ ap (λ z. remove z (index_of_spot c p)) x.exact ∙ remove-write_at with_pair_value (entries c) (index_of_spot c p) w ∙ sym (without-at laws k (entries c) (index_of_spot c p) d f) in
      record {
        same = rw same at h.same;
        size = record {
          lawful = elim h.size.lawful [ inl z ↦ inl (z ∙ x.buckets) | inr z ↦ inr z ];
          minimum = λ less. let m = h.size.minimum (rw x.buckets less) in rw x.settings at m;
        };
        settings = h.settings ∙ x.settings;
      }

  pub written-pair : (w : V) (q : K × V) → slice_get (entries (with_write_at_spot with_pair_value c p w)) (index_of_spot (with_write_at_spot with_pair_value c p w) p) ≡ Some q → q ≡ (f.0.0, w)
  written-pair w q got =
      let x = written w in
      let here : slice_get (entries (with_write_at_spot with_pair_value c p w)) (index_of_spot (with_write_at_spot with_pair_value c p w) p) ≡ Some (f.0.0, w) =
      ap (λ i. slice_get (entries (with_write_at_spot with_pair_value c p w)) i) (index-write with_pair_value c p w)
      ∙ ap (λ z. slice_get z (index_of_spot c p)) x.exact ∙ get-write_at with_pair_value (entries c) (index_of_spot c p) f.0 w f.1 in
      let s : Some q ≡ Some (f.0.0, w) = sym got ∙ here in cc

-- after a key was written at a place, the entry there has the new key and the old value
pub key-got : {K V S : Type 0} (c : Contents (K × V) S) (p : Place) (within : IsSpot c p) (q : K) (e : K × V) → slice_get (entries c) (index_of_spot c p) ≡ Some e
    → slice_get (entries (with_write_at_spot with_pair_key c p q)) (index_of_spot (with_write_at_spot with_pair_key c p q) p) ≡ Some (q, e.1)
key-got c p within q e got =
    let x = exactly-write with_pair_key c p within (at (list_of c p.bucket) p.slot within.slot) (at-get (list_of c p.bucket) p.slot within.slot) q in
    ap (slice_get (entries (with_write_at_spot with_pair_key c p q))) (index-write with_pair_key c p q) ∙ ap (λ z. slice_get z (index_of_spot c p)) x.exact ∙ get-write_at with_pair_key (entries c) (index_of_spot c p) e q got

-- if the number of buckets is unchanged, the table didn't grow
pub grows-same : {E S : Type 0} (c d : Contents E S) → bucket_count d ≡ bucket_count c → Grows c d
grows-same c d e = record { first = λ z n. absurd (n e); half = λ z n. absurd (n e); below = λ z n. absurd (n e); doubled = λ z n. absurd (n e); not_waiting = λ z n. absurd (n e) }
