-- What a call does that lends its array to a closure, which fills a bucket.
use Rattle.std.specs.Prelude.{◌≡◌, ◌+◌, ◌<◌, ℕ, Bool, List, length, map}
use Rattle.std.specs.Borrow.{Bor, MutBor}
use Rattle.std.specs.Fn.{Once}
use Rattle.std.specs.List.{flat_map, IsDistinct}
use Rattle.scc_array.specs.Shelf.{Shelf, shelf_entries}
use Rattle.scc_array.specs.Shelves.{shelf_of}
use Rattle.scc_buckets.specs.Routes.{Route, route_of}
use Rattle.scc_buckets.specs.Tables.{IsBuckets}
use Rattle.scc_common.specs.Contents.{Contents, lists_of, notes_of, overflow_of, owed_of, settings_of, waiting_of, IsRouted, IsUniqueBy}

module _ {F E S R : Type 0} (g : Once F (Bor (Route S) × (MutBor (List (Shelf E)) × (MutBor (List (Shelf E)) × Unit {0}))) (R × (MutBor (List (Shelf E)) × (MutBor (List (Shelf E)) × Unit {0})))) where
  -- f may be called with a & to the router and a &mut to each of two arrays
  abbrev pub TakesArrays : F → Route S → List (Shelf E) → List (Shelf E) → Type 0
  TakesArrays f route into olds = (r : Bor (Route S)) (a b : MutBor (List (Shelf E))) → r.now ≡ route → a.now ≡ into → b.now ≡ olds → g.pre f (r, (a, (b, tt)))

  -- a call of f with a & to the router and a &mut to each of two arrays may return r, and leave the arrays `filled` and
  -- `news`
  pub record CalledOnArrays (f : F) (route : Route S) (into olds : List (Shelf E)) (r : R) (filled news : List (Shelf E)) : Type 0 where
    pub router : Bor (Route S)
    pub shows : router.now ≡ route
    pub first : MutBor (List (Shelf E))
    pub is_into : first.now ≡ into
    pub second : MutBor (List (Shelf E))
    pub is_olds : second.now ≡ olds
    pub first_left : MutBor (List (Shelf E))
    pub second_left : MutBor (List (Shelf E))
    pub called : g.post f (router, (first, (second, tt))) (r, (first_left, (second_left, tt)))
    pub is_filled : first_left.now ≡ filled
    pub is_news : second_left.now ≡ news

module _ {E K S : Type 0} (eq : K → K → Bool) (key : E → K) (hash : E → ℕ) where
  -- bs is the array of c, with n entries, of which m stand in overflow lists
  pub record IsArrayOf (c : Contents E S) (bs : List (Shelf E)) (n m : ℕ) : Type 0 where
    pub were : lists_of c ≡ map shelf_entries bs
    pub table : IsBuckets hash (settings_of c).skipped bs n m
    pub overflowing : m ≡ overflow_of c
    pub routed : IsRouted hash c
    pub unique : IsUniqueBy eq key c

  -- bs may be the array of c after its bucket i, which held no entry, was filled: before, the array held n entries, of
  -- which m stood in overflow lists
  pub record IsFilledArray (c : Contents E S) (i n m : ℕ) (bs : List (Shelf E)) : Type 0 where
    pub within : i < length bs
    pub table : IsBuckets hash (settings_of c).skipped bs (n + length (shelf_entries (shelf_of bs i))) (m + length (shelf_of bs i).overflow)
    pub unique : IsDistinct eq (map key (flat_map shelf_entries bs))

  -- f was called on the array of c and on olds, and its array holds the entries of bucket i besides; the result is that of
  -- f, with the number of these entries
  pub record FillsByCall {F R : Type 0} (g : Once F (Bor (Route S) × (MutBor (List (Shelf E)) × (MutBor (List (Shelf E)) × Unit {0}))) (R × (MutBor (List (Shelf E)) × (MutBor (List (Shelf E)) × Unit {0})))) (f : F) (i : ℕ) (c : Contents E S) (olds : List (Shelf E)) (result : R × ℕ) (d : Contents E S) (news : List (Shelf E)) : Type 0 where
    -- the array before the call, and its two numbers
    pub before : List (Shelf E)
    pub count : ℕ
    pub over : ℕ
    pub array : IsArrayOf c before count over
    -- the array after the call
    pub after : List (Shelf E)
    pub called : CalledOnArrays g f (route_of c) before olds result.0 after news
    -- the lists are those of the array after the call
    pub lists : lists_of d ≡ map shelf_entries after
    -- the entries of the bucket are counted
    pub moved : result.1 ≡ length (shelf_entries (shelf_of after i))
    -- its entries in the overflow list are counted
    pub spilled : overflow_of d ≡ over + length (shelf_of after i).overflow
    -- the settings stay
    pub settings : settings_of d ≡ settings_of c
    -- the note and the mark stay
    pub noted : notes_of d ≡ notes_of c
    -- the waiting buckets stay
    pub waiting : waiting_of d ≡ waiting_of c
    -- what the old array owes stays
    pub owed : owed_of d ≡ owed_of c
