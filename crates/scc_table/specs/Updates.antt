-- What a write to the entry of a key returns and leaves.
use Rattle.std.specs.Prelude.{◌≡◌, Bool, Option, None, Some, slice_get}
use Rattle.std.specs.Borrow.{Bor, MutBor}
use Rattle.std.specs.Fn.{Once}
use Rattle.std.specs.List.{position}
use Rattle.scc_common.specs.Updates.{WritesInto}
use Rattle.scc_common.specs.Contents.{Contents, entries}
use Rattle.scc_buckets.specs.declared.place.Place.{Place}
use Rattle.scc_table.specs.Places.{IsFoundAt, index_of, with_write_at}

module _ {E V R S : Type 0} (gives : E → R → V → Type 0) (put : E → V → E) (p : E → Bool) (c d : Contents E S) where
  -- the first entry that passes p is written to, as gives says; if no entry passes, nothing changes
  abbrev pub WritesFirst : Option R → Type 0
  WritesFirst None = (position p (entries c) ≡ None) × (d ≡ c)
  WritesFirst (Some r) = (q : Place) × (e : E) × (w : V) × IsFoundAt p c q × (slice_get (entries c) (index_of c q) ≡ Some e) × gives e r w × (d ≡ with_write_at put c q w)

module _ {F E K V R S : Type 0} (g : Once F (Bor K × (MutBor V × Unit {0})) (R × (MutBor V × Unit {0}))) (f : F) (key_of : E → K) (value_of : E → V) (put : E → V → E) (p : E → Bool) (c d : Contents E S) where
  -- f is called at the first entry that passes p, whose value is what f left; if no entry passes, nothing changes
  abbrev pub UpdatesFirst : Option R → Type 0
  UpdatesFirst r = WritesFirst (WritesInto g f key_of value_of) put p c d r
