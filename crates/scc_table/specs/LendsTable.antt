-- What a table of two arrays ends as, once a `&mut` into it has ended.
use Rattle.std.specs.Borrow.{Fml, RattleType, MutBor, Lends}
use Rattle.std.specs.declared.cmp.PartialEq as comparison
use Rattle.scc_common.specs.Contents.{Contents}
use Rattle.scc_buckets.specs.declared.place.Place.{Place}
use Rattle.scc_common.specs.declared.entry.Keyed as keyed
use Rattle.scc_common.specs.declared.hashes.Hashes as hashing
use Rattle.scc_table.specs.Places.{with_write_at}
use Rattle.scc_table.specs.contracts.Table.{the_row}

module _ (E H K V : RattleType) (by : keyed.Ghosts E.Denot K.Denot) (compare : comparison.Ghosts K.Denot) (hashes : hashing.Ghosts H.Denot K.Denot) (put : E.Denot → V.Denot → E.Denot) where
  -- the type of the table, as the logic holds it
  abbrev pub table_row : RattleType
  table_row = the_row E H K by compare hashes

  -- when the loan r ends, the entry at p has the last value written through r
  abbrev pub lends_value : MutBor (Contents E.Denot H.Denot) → Place → MutBor V.Denot → Fml
  lends_value m p r = Lends table_row V m r (with_write_at put m.now p)
