-- What an array ends as, once a `&mut` into it has ended.
use Rattle.std.specs.Prelude.{ℕ, List, slice_set}
use Rattle.std.specs.Borrow.{Fml, RattleType, MutBor, Lends}
use Rattle.scc_array.specs.Shelves.{shelf_of}
use Rattle.scc_array.specs.contracts.Array.{the_row}
use Rattle.scc_array.specs.Shelf.{Shelf}
use Rattle.scc_array.specs.ShelfWrites.{shelf_write_at}

module _ (E V : RattleType) (put : E.Denot → V.Denot → E.Denot) where
  -- when the loan r ends, the entry at slot i of bucket b has the last value written through r
  abbrev pub lends_array_value : MutBor (List (Shelf E.Denot)) → ℕ → ℕ → MutBor V.Denot → Fml
  lends_array_value a b i r = Lends (the_row E) V a r (λ w. slice_set a.now b (shelf_write_at put (shelf_of a.now b) i w))
