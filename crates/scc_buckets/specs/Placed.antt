-- The entry at a place, the entries before and after it, and what a change at the place leaves.
use Rattle.std.specs.Prelude.{◌≡◌, ℕ, zero, suc, ◌<◌, List, [], ◌∷◌, ◌++◌, length, take, drop, Some, slice_get, refl}
use Rattle.std.proofs.Common.{arith}
use Rattle.scc_common.specs.Contents.{Contents, entries, list_of, notes_of}
use Rattle.scc_buckets.specs.Places.{IsSpot, index_of_spot}
use Rattle.scc_common.specs.Steps.{Holds, HoldsExactly}
use Rattle.scc_buckets.specs.declared.place.Place.{Place}

-- the element at index i
abbrev pub at : {X : Type 0} (es : List X) (i : ℕ) → i < length es → X
at [] i h = absurd (omega arith)
at (x ∷ es) zero h = x
at (x ∷ es) (suc i) h = at es i (omega arith)

-- index i has the element `at es i h`
pub at-get : {X : Type 0} (es : List X) (i : ℕ) (h : i < length es) → slice_get es i ≡ Some (at es i h)
at-get [] i h = absurd (omega arith)
at-get (x ∷ es) zero h = refl
at-get (x ∷ es) (suc i) h = at-get es i _

module _ {E S : Type 0} where
  -- the entry at p
  unfoldable pub entry_of_spot : (c : Contents E S) (p : Place) → IsSpot c p → E
  entry_of_spot c p h = at (list_of c p.bucket) p.slot h.slot

  -- the entries before p
  unfoldable pub front_of_spot : Contents E S → Place → List E
  front_of_spot c p = take (index_of_spot c p) (entries c)

  -- the entries after p
  unfoldable pub back_of_spot : Contents E S → Place → List E
  back_of_spot c p = drop (suc (index_of_spot c p)) (entries c)

  -- the entries are those before p, the entry at p, and those after p
  pub record SplitsAtSpot (c : Contents E S) (p : Place) (h : IsSpot c p) : Type 0 where
    pub splits : entries c ≡ front_of_spot c p ++ entry_of_spot c p h ∷ back_of_spot c p

  -- d is c with e instead of the entry at p, and e stands at q; the note and the mark stay
  pub record IsWrittenAtSpot (c : Contents E S) (p : Place) (e : E) (d : Contents E S) (q : Place) (j : IsSpot d q) : Type 0 where
    pub contents : HoldsExactly c (front_of_spot c p ++ e ∷ back_of_spot c p) d
    pub noted : notes_of d ≡ notes_of c
    pub here : entry_of_spot d q j ≡ e
    pub front : front_of_spot d q ≡ front_of_spot c p
    pub back : back_of_spot d q ≡ back_of_spot c p

  -- e is inserted, and stands at q
  pub record IsPutAtSpot (c : Contents E S) (e : E) (d : Contents E S) (q : Place) (j : IsSpot d q) : Type 0 where
    pub contents : Holds c (e ∷ entries c) d
    pub here : entry_of_spot d q j ≡ e

  -- d is c, and q is the place after p
  pub record IsNextSpot (c : Contents E S) (p : Place) (h : IsSpot c p) (d : Contents E S) (q : Place) (j : IsSpot d q) : Type 0 where
    pub contents : d ≡ c
    pub front : front_of_spot d q ≡ front_of_spot c p ++ entry_of_spot c p h ∷ []
    pub back : entry_of_spot d q j ∷ back_of_spot d q ≡ back_of_spot c p

  -- d is c without the entry at p, the others in their order, and q is the place of the entry that stood after p; the
  -- note and the mark stay
  pub record IsNextSpotPastRemoved (c : Contents E S) (p : Place) (d : Contents E S) (q : Place) (j : IsSpot d q) : Type 0 where
    pub contents : HoldsExactly c (front_of_spot c p ++ back_of_spot c p) d
    pub noted : notes_of d ≡ notes_of c
    pub front : front_of_spot d q ≡ front_of_spot c p
    pub back : entry_of_spot d q j ∷ back_of_spot d q ≡ back_of_spot c p
