-- What buckets end as, once a `&mut` into them has ended.
use Rattle.std.specs.Borrow.{Fml, RattleType, MutBor, Lends}
use Rattle.std.specs.declared.cmp.PartialEq as comparison
use Rattle.scc_common.specs.Contents.{Contents}
use Rattle.scc_buckets.specs.Writes.{with_write_at_spot}
use Rattle.scc_buckets.specs.contracts.Buckets.{the_row}
use Rattle.scc_common.specs.declared.entry.Keyed as keyed
use Rattle.scc_common.specs.declared.hashes.Hashes as hashing
use Rattle.scc_buckets.specs.declared.place.Place.{Place}

module _ (E H K V : RattleType) (by : keyed.Ghosts E.Denot K.Denot) (compare : comparison.Ghosts K.Denot) (hashes : hashing.Ghosts H.Denot K.Denot) (put : E.Denot → V.Denot → E.Denot) where
  -- the type of the buckets, as the logic holds it
  abbrev pub buckets_row : RattleType
  buckets_row = the_row E H K by compare hashes

  -- when the loan r ends, the entry at p has the last value written through r
  abbrev pub lends_value : MutBor (Contents E.Denot H.Denot) → Place → MutBor V.Denot → Fml
  lends_value m p r = Lends buckets_row V m r (with_write_at_spot put m.now p)
