-- What a write to the first entry of a bucket that passes returns and leaves.
use Rattle.std.specs.Prelude.{◌≡◌, ℕ, Bool, List, Option, None, Some, slice_get, slice_set}
use Rattle.std.specs.List.{position}
use Rattle.scc_array.specs.Shelves.{shelf_of}
use Rattle.scc_array.specs.Shelf.{Shelf, shelf_entries}
use Rattle.scc_array.specs.ShelfWrites.{shelf_write_at}

module _ {E V R : Type 0} (gives : E → R → V → Type 0) (put : E → V → E) (p : E → Bool) (bs : List (Shelf E)) (b : ℕ) (ds : List (Shelf E)) where
  -- the first entry of bucket b that passes p is written to, as gives says; if no entry passes, nothing changes
  abbrev pub WritesShelf : Option R → Type 0
  WritesShelf None = (position p (shelf_entries (shelf_of bs b)) ≡ None) × (ds ≡ bs)
  WritesShelf (Some r) = (i : ℕ) × (e : E) × (w : V) × (position p (shelf_entries (shelf_of bs b)) ≡ Some i) × (slice_get (shelf_entries (shelf_of bs b)) i ≡ Some e) × gives e r w × (ds ≡ slice_set bs b (shelf_write_at put (shelf_of bs b) i w))
