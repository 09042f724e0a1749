-- The entries at a place, before the place and after it, once an entry there changed.
use Rattle.std.proofs.Common.{◌≡◌, ℕ, zero, suc, List, [], ◌∷◌, ◌++◌, length, take, drop, None, Some, refl, sym, ap, ◌∙◌, arith}
use native.Mathlib.Bridge.{le_prop}
use Rattle.std.specs.List.{slice_get, remove}
use Rattle.scc_common.specs.Contents.{Contents, entries, list_of, notes_of}
use Rattle.scc_buckets.specs.Places.{IsSpot, IsInsertedAtSpot, index_of_spot}
use Rattle.scc_buckets.specs.Placed.{at, at-get, entry_of_spot, front_of_spot, back_of_spot, SplitsAtSpot, IsWrittenAtSpot, IsPutAtSpot, IsNextSpot, IsNextSpotPastRemoved}
use Rattle.scc_array.specs.ShelfWrites.{write_at}
use Rattle.scc_common.specs.Steps.{HoldsExactly}
use Rattle.scc_buckets.specs.Writes.{with_write_at_spot}
use Rattle.scc_buckets.specs.declared.place.Place.{Place}
use Rattle.scc_buckets.proofs.KeyWrites.{write-parts, index-write, get-write_at, noted-write}
use Rattle.scc_buckets.proofs.PairSplits.{split-place}
use Rattle.scc_buckets.proofs.Spots.{place-get}
use Rattle.scc_buckets.proofs.WritingTables.{exactly-write}

-- there is at most one proof of `IsSpot` for a place
pub place-prop : {E S : Type 0} (c : Contents E S) (p : Place) → IsProp (IsSpot c p)
place-prop c p x y =
    ap (λ q. let r : IsSpot c p = record { bucket = q; slot = x.slot } in r) (le_prop x.bucket y.bucket) ∙ ap (λ q. let r : IsSpot c p = record { bucket = y.bucket; slot = q } in r) (le_prop x.slot y.slot)

pub front-write : {E X : Type 0} (put : E → X → E) (es : List E) (i : ℕ) (w : X) → take i (write_at put es i w) ≡ take i es
front-write put [] i w = refl
front-write put (x ∷ es) zero w = refl
front-write put (x ∷ es) (suc i) w = ap (λ l. x ∷ l) (front-write put es i w)

pub back-write : {E X : Type 0} (put : E → X → E) (es : List E) (i : ℕ) (w : X) → drop (suc i) (write_at put es i w) ≡ drop (suc i) es
back-write put [] i w = refl
back-write put (x ∷ es) zero w = refl
back-write put (x ∷ es) (suc i) w = back-write put es i w

pub take-more : {X : Type 0} (es : List X) (i : ℕ) (x : X) → slice_get es i ≡ Some x → take (suc i) es ≡ take i es ++ x ∷ []
take-more [] i x e = absurd (let h : None ≡ Some x = e in cc)
take-more (y ∷ es) zero x e = let h : y ≡ x = cc in ap (λ z. z ∷ []) h
take-more (y ∷ es) (suc i) x e = ap (λ l. y ∷ l) (take-more es i x e)

pub drop-here : {X : Type 0} (es : List X) (i : ℕ) (x : X) → slice_get es i ≡ Some x → drop i es ≡ x ∷ drop (suc i) es
drop-here [] i x e = absurd (let h : None ≡ Some x = e in cc)
drop-here (y ∷ es) zero x e = let h : y ≡ x = cc in ap (λ z. z ∷ es) h
drop-here (y ∷ es) (suc i) x e = drop-here es i x e

pub drop-all : {X : Type 0} (es : List X) (i : ℕ) → i ≡ length es → drop i es ≡ []
drop-all [] i h = let z : i ≡ 0 = h in rw z refl
drop-all (y ∷ es) zero h = absurd (omega arith)
drop-all (y ∷ es) (suc i) h = drop-all es i (omega arith)

pub take-removed : {X : Type 0} (es : List X) (i : ℕ) → take i (remove es i) ≡ take i es
take-removed [] zero = refl
take-removed [] (suc i) = refl
take-removed (y ∷ es) zero = refl
take-removed (y ∷ es) (suc i) = ap (λ l. y ∷ l) (take-removed es i)

pub drop-removed : {X : Type 0} (es : List X) (i : ℕ) → drop i (remove es i) ≡ drop (suc i) es
drop-removed [] zero = refl
drop-removed [] (suc i) = refl
drop-removed (y ∷ es) zero = refl
drop-removed (y ∷ es) (suc i) = drop-removed es i

pub removed-parts : {X : Type 0} (es : List X) (i : ℕ) → remove es i ≡ take i es ++ drop (suc i) es
removed-parts [] zero = refl
removed-parts [] (suc i) = refl
removed-parts (y ∷ es) zero = refl
removed-parts (y ∷ es) (suc i) = ap (λ l. y ∷ l) (removed-parts es i)

module _ {E S : Type 0} where
  -- the entry at a place is the entry at the place's index
  pub entry_of-get : (c : Contents E S) (p : Place) (h : IsSpot c p) → slice_get (entries c) (index_of_spot c p) ≡ Some (entry_of_spot c p h)
  unfolding entry_of_spot
  entry_of-get c p h = place-get c p h _ (at-get (list_of c p.bucket) p.slot h.slot)

  pub entry_of-is : (c : Contents E S) (p : Place) (h : IsSpot c p) (e : E) → slice_get (entries c) (index_of_spot c p) ≡ Some e → entry_of_spot c p h ≡ e
  entry_of-is c p h e g = let s : Some (entry_of_spot c p h) ≡ Some e = sym (entry_of-get c p h) ∙ g in cc

  -- an entry that was written at a place stands there, between the entries that stood beside it
  pub written-there : {X : Type 0} (put : E → X → E) (c : Contents E S) (p : Place) (h : IsSpot c p) (w : X) (d : Contents E S) (j : IsSpot d p) → d ≡ with_write_at_spot put c p w → IsWrittenAtSpot c p (put (entry_of_spot c p h) w) d p j
  unfolding front_of_spot back_of_spot
  written-there put c p h w d j now =
      let exact = exactly-write put c p h (at (list_of c p.bucket) p.slot h.slot) (at-get (list_of c p.bucket) p.slot h.slot) w in
      let index : index_of_spot d p ≡ index_of_spot c p = ap (λ m. index_of_spot m p) now ∙ index-write put c p w in
      let es : entries d ≡ write_at put (entries c) (index_of_spot c p) w = ap entries now ∙ exact.exact in
      record {
        contents = record {
          exact = es ∙ write-parts put (entries c) (index_of_spot c p) (entry_of_spot c p h) w (entry_of-get c p h);
          buckets = rw now exact.buckets;
          settings = rw now exact.settings;
        };
        noted = ap notes_of now ∙ noted-write put c p w;
        here = entry_of-is d p j _ (ap (slice_get (entries d)) index ∙ ap (λ z. slice_get z (index_of_spot c p)) es ∙ get-write_at put (entries c) (index_of_spot c p) (entry_of_spot c p h) w (entry_of-get c p h));
        front = ap (λ i. take i (entries d)) index ∙ ap (take (index_of_spot c p)) es ∙ front-write put (entries c) (index_of_spot c p) w;
        back = ap (λ i. drop (suc i) (entries d)) index ∙ ap (drop (suc (index_of_spot c p))) es ∙ back-write put (entries c) (index_of_spot c p) w;
      }

  -- an entry that was put in stands at its place
  pub put-there : (c : Contents E S) (e : E) (d : Contents E S) (p : Place) (j : IsSpot d p) → IsInsertedAtSpot c e d p → IsPutAtSpot c e d p j
  put-there c e d p j i = record { contents = i.holds; here = entry_of-is d p j e i.here }

  pub splits-there : (c : Contents E S) (p : Place) (h : IsSpot c p) → SplitsAtSpot c p h
  unfolding front_of_spot back_of_spot
  splits-there c p h = record { splits = split-place (entries c) (index_of_spot c p) (entry_of_spot c p h) (entry_of-get c p h) }

  -- no entry stands before the first
  pub front-none : (c : Contents E S) (p : Place) → index_of_spot c p ≡ 0 → front_of_spot c p ≡ []
  unfolding front_of_spot
  front-none c p e = ap (λ i. take i (entries c)) e

  -- no entry stands after the last
  pub back-none : (c : Contents E S) (p : Place) → suc (index_of_spot c p) ≡ length (entries c) → back_of_spot c p ≡ []
  unfolding back_of_spot
  back-none c p e = drop-all (entries c) (suc (index_of_spot c p)) e

  -- the place with the next index is the next place
  pub next-there : (c : Contents E S) (p : Place) (h : IsSpot c p) (d : Contents E S) (q : Place) (j : IsSpot d q) → d ≡ c → index_of_spot c q ≡ suc (index_of_spot c p) → IsNextSpot c p h d q j
  unfolding front_of_spot back_of_spot
  next-there c p h d q j now index =
      let place : index_of_spot d q ≡ suc (index_of_spot c p) = ap (λ m. index_of_spot m q) now ∙ index in
      record {
        contents = now;
        front = ap (λ i. take i (entries d)) place ∙ ap (λ m. take (suc (index_of_spot c p)) (entries m)) now ∙ take-more (entries c) (index_of_spot c p) (entry_of_spot c p h) (entry_of-get c p h);
        back = sym (drop-here (entries d) (index_of_spot d q) (entry_of_spot d q j) (entry_of-get d q j)) ∙ ap (λ i. drop i (entries d)) place ∙ ap (λ m. drop (suc (index_of_spot c p)) (entries m)) now;
      }

  -- after the entry at a place was taken out, the entries before and after the place are left
  pub left-there : (c : Contents E S) (p : Place) (d : Contents E S) → HoldsExactly c (remove (entries c) (index_of_spot c p)) d → HoldsExactly c (front_of_spot c p ++ back_of_spot c p) d
  unfolding front_of_spot back_of_spot
  left-there c p d others = record { exact = others.exact ∙ removed-parts (entries c) (index_of_spot c p); buckets = others.buckets; settings = others.settings }

  -- after the entry at a place was taken out, the place with an equal index has the entry that stood next
  pub past-there : (c : Contents E S) (p : Place) (d : Contents E S) (q : Place) (j : IsSpot d q) → HoldsExactly c (remove (entries c) (index_of_spot c p)) d → notes_of d ≡ notes_of c → index_of_spot d q ≡ index_of_spot c p → IsNextSpotPastRemoved c p d q j
  unfolding front_of_spot back_of_spot
  past-there c p d q j others noted index = record {
    contents = left-there c p d others;
    noted = noted;
    front = ap (λ n. take n (entries d)) index ∙ ap (take (index_of_spot c p)) others.exact ∙ take-removed (entries c) (index_of_spot c p);
    back = sym (drop-here (entries d) (index_of_spot d q) (entry_of_spot d q j) (entry_of-get d q j)) ∙ ap (λ n. drop n (entries d)) index ∙ ap (drop (index_of_spot c p)) others.exact ∙ drop-removed (entries c) (index_of_spot c p);
  }
