-- What holds of an entry at a place of two arrays, by the spot of the place.
use Rattle.std.proofs.Common.{◌≡◌, ◌++◌, suc, [], Bool, true, Some, length, sym, ap, subst, ◌∙◌}
use Rattle.std.specs.Cmp.{IsEquivalence}
use Rattle.std.specs.List.{IsDistinct, remove, slice_get}
use Rattle.std.specs.Map.{keys_of, set_key, set_value}
use Rattle.scc_common.specs.Contents.{Contents, entries, notes_of}
use Rattle.scc_common.specs.Pairs.{with_pair_key, with_pair_value, without}
use Rattle.scc_buckets.specs.Placed as spots
use Rattle.scc_buckets.specs.Places as places
use Rattle.scc_common.specs.Steps.{Holds, HoldsExactly}
use Rattle.scc_buckets.specs.declared.place.Place.{Place}
use Rattle.scc_buckets.proofs.KeyWrites as writing
use Rattle.scc_buckets.proofs.PairWrites.{IsPlaceOf}
use Rattle.scc_buckets.proofs.Placed as placing
use Rattle.scc_table.specs.Placed.{entry_of, front_of, back_of, IsNextAt, IsNextPastRemovedAt, IsPutAt, IsWrittenAt, SplitsAt, spot-with_write_at}
use Rattle.scc_table.specs.Places.{IsFoundAt, IsInsertedAt, IsPlace, index_of, spot_of, with_write_at}

module _ {E S : Type 0} where
  pub place-prop : (c : Contents E S) (p : Place) → IsProp (IsPlace c p)
  place-prop c p = placing.place-prop c (spot_of c p)

  pub entry_of-get : (c : Contents E S) (p : Place) (h : IsPlace c p) → slice_get (entries c) (index_of c p) ≡ Some (entry_of c p h)
  entry_of-get c p h = placing.entry_of-get c (spot_of c p) h

  pub entry_of-is : (c : Contents E S) (p : Place) (h : IsPlace c p) (e : E) → slice_get (entries c) (index_of c p) ≡ Some e → entry_of c p h ≡ e
  entry_of-is c p h e got = placing.entry_of-is c (spot_of c p) h e got

  -- after a write at p, the number of entries before p is counted by the spot that p had before the write
  pub index-written : {X : Type 0} (put : E → X → E) (c : Contents E S) (p : Place) (w : X) → index_of (with_write_at put c p w) p ≡ places.index_of_spot (with_write_at put c p w) (spot_of c p)
  index-written put c p w = ap (places.index_of_spot (with_write_at put c p w)) (spot-with_write_at put c (spot_of c p) w p)

  pub written-there : {X : Type 0} (put : E → X → E) (c : Contents E S) (p : Place) (h : IsPlace c p) (w : X) (d : Contents E S) (j : IsPlace d p) → d ≡ with_write_at put c p w → IsWrittenAt c p (put (entry_of c p h) w) d p j
  written-there put c p h w d j made =
      let same : spot_of d p ≡ spot_of c p = ap (λ z. spot_of z p) made ∙ spot-with_write_at put c (spot_of c p) w p in
      let Written : Place → Type 0 = λ q. (k : places.IsSpot d q) → spots.IsWrittenAtSpot c (spot_of c p) (put (entry_of c p h) w) d q k in
      subst Written (sym same) (λ k. placing.written-there put c (spot_of c p) h w d k made) j

  pub put-there : (c : Contents E S) (e : E) (d : Contents E S) (p : Place) (j : IsPlace d p) → IsInsertedAt c e d p → IsPutAt c e d p j
  put-there c e d p j i = placing.put-there c e d (spot_of d p) j i

  pub splits-there : (c : Contents E S) (p : Place) (h : IsPlace c p) → SplitsAt c p h
  splits-there c p h = placing.splits-there c (spot_of c p) h

  pub front-none : (c : Contents E S) (p : Place) → index_of c p ≡ 0 → front_of c p ≡ []
  front-none c p z = placing.front-none c (spot_of c p) z

  pub back-none : (c : Contents E S) (p : Place) → suc (index_of c p) ≡ length (entries c) → back_of c p ≡ []
  back-none c p z = placing.back-none c (spot_of c p) z

  pub next-there : (c : Contents E S) (p : Place) (h : IsPlace c p) (d : Contents E S) (q : Place) (j : IsPlace d q) → d ≡ c → index_of c q ≡ suc (index_of c p) → IsNextAt c p h d q j
  next-there c p h d q j same next = placing.next-there c (spot_of c p) h d (spot_of d q) j same (ap (λ m. places.index_of_spot c (spot_of m q)) same ∙ next)

  pub left-there : (c : Contents E S) (p : Place) (d : Contents E S) → HoldsExactly c (remove (entries c) (index_of c p)) d → HoldsExactly c (front_of c p ++ back_of c p) d
  left-there c p d others = placing.left-there c (spot_of c p) d others

  pub past-there : (c : Contents E S) (p : Place) (d : Contents E S) (q : Place) (j : IsPlace d q) → HoldsExactly c (remove (entries c) (index_of c p)) d → notes_of d ≡ notes_of c → index_of d q ≡ index_of c p → IsNextPastRemovedAt c p d q j
  past-there c p d q j others noted index = placing.past-there c (spot_of c p) d (spot_of d q) j others noted index

  pub noted-write : {X : Type 0} (put : E → X → E) (c : Contents E S) (p : Place) (w : X) → notes_of (with_write_at put c p w) ≡ notes_of c
  noted-write put c p w = writing.noted-write put c (spot_of c p) w

module _ {K V S : Type 0} (eq : K → K → Bool) (c : Contents (K × V) S) (k : K) (p : Place) where
  pub place-found : IsFoundAt (λ e. eq k e.0) c p → IsPlaceOf eq (entries c) k (index_of c p)
  place-found found = writing.place-found eq c k (spot_of c p) found

module _ {K V S : Type 0} {eq : K → K → Bool} (laws : IsEquivalence eq) (c : Contents (K × V) S) (p : Place) (within : IsPlace c p) (k : K) (d : IsDistinct eq (keys_of (entries c))) (f : IsPlaceOf eq (entries c) k (index_of c p)) where
  pub value-written : (w : V) → HoldsExactly c (set_value (eq k) (entries c) w) (with_write_at with_pair_value c p w)
  value-written w = writing.value-written laws c (spot_of c p) within k d f w

  pub key-written : (q : K) → HoldsExactly c (set_key (eq k) (entries c) q) (with_write_at with_pair_key c p q)
  key-written q = writing.key-written laws c (spot_of c p) within k d f q

  pub value-unique : (w : V) → IsDistinct eq (keys_of (entries (with_write_at with_pair_value c p w)))
  value-unique w = writing.value-unique laws c (spot_of c p) within k d f w

  pub key-unique : (q : K) → eq q f.0.0 ≡ true → IsDistinct eq (keys_of (entries (with_write_at with_pair_key c p q)))
  key-unique q same = writing.key-unique laws c (spot_of c p) within k d f q same

  pub written-taken_out : (w : V) (e : Contents (K × V) S) → Holds (with_write_at with_pair_value c p w) (remove (entries (with_write_at with_pair_value c p w)) (index_of (with_write_at with_pair_value c p w) p)) e
      → Holds c (without eq (entries c) k) e
  written-taken_out w e h = writing.written-taken_out laws c (spot_of c p) within k d f w e (subst (λ i. Holds (with_write_at with_pair_value c p w) (remove (entries (with_write_at with_pair_value c p w)) i) e) (index-written with_pair_value c p w) h)

  pub written-pair : (w : V) (q : K × V) → slice_get (entries (with_write_at with_pair_value c p w)) (index_of (with_write_at with_pair_value c p w) p) ≡ Some q → q ≡ (f.0.0, w)
  written-pair w q got = writing.written-pair laws c (spot_of c p) within k d f w q (ap (slice_get (entries (with_write_at with_pair_value c p w))) (sym (index-written with_pair_value c p w)) ∙ got)

pub key-got : {K V S : Type 0} (c : Contents (K × V) S) (p : Place) (within : IsPlace c p) (q : K) (e : K × V) → slice_get (entries c) (index_of c p) ≡ Some e
    → slice_get (entries (with_write_at with_pair_key c p q)) (index_of (with_write_at with_pair_key c p q) p) ≡ Some (q, e.1)
key-got c p within q e got = ap (slice_get (entries (with_write_at with_pair_key c p q))) (index-written with_pair_key c p q) ∙ writing.key-got c (spot_of c p) within q e got
