-- The types of the containers, as the logic has them, and how one stands after a `&mut` into it has ended.
use Rattle.std.specs.Prelude.{[], ◌∷◌}
use Rattle.std.specs.Borrow.{Fml, RattleType, MutBor, Lends}
use Rattle.std.specs.HashMap.Lent.{HashMembers}
use Rattle.std.specs.declared.hash.Hasher as hasher
use Rattle.std.specs.declared.hash.BuildHasher as builder
use denote.Struct.Tuple.{Tuple}
use Rattle.scc_common.specs.Contents.{Contents}
use Rattle.scc_common.specs.Pairs.{with_pair_value}
use Rattle.scc_common.specs.contracts.version.SharedVersion.{the_row as version_row_of}
use Rattle.scc_common.specs.declared.entry.Keyed as keyed
use Rattle.scc_table.specs.Places.{with_write_at}
use Rattle.scc_buckets.specs.declared.place.Place.{Place}
use Rattle.scc_owned.specs.contracts.Owned.{the_row}

-- the key of a pair is its first part
abbrev pub pair_keys : {K V : Type 0} → keyed.Ghosts (K × V) K
pair_keys = record { key_of = λ e. e.0 }

module _ (E S K H : RattleType) (by : keyed.Ghosts E.Denot K.Denot) (key : HashMembers K.Denot) (build : builder.Ghosts S.Denot H.Denot) (feed : hasher.Ghosts H.Denot) where
  -- the type of a container of entries E
  abbrev pub owned_row : RattleType
  owned_row = the_row E S K H by (record {}) (record { eq = key.eq }) build feed (record { hash_input = key.hash_input })

module _ (K V : RattleType) where
  -- the type of an entry of a map
  abbrev pub pair_row : RattleType
  pair_row = Tuple (K ∷ V ∷ [])

  -- the type of an entry of an index
  abbrev pub version_row : RattleType
  version_row = version_row_of K V

module _ (K V S H : RattleType) (key : HashMembers K.Denot) (build : builder.Ghosts S.Denot H.Denot) (feed : hasher.Ghosts H.Denot) where
  -- after the borrow r into a map ends, the pair at the place has the last value written through r
  abbrev pub lends_value : MutBor (Contents (K.Denot × V.Denot) S.Denot) → Place → MutBor V.Denot → Fml
  lends_value m p r = Lends (owned_row (pair_row K V) S K H pair_keys key build feed) V m r (with_write_at with_pair_value m.now p)
