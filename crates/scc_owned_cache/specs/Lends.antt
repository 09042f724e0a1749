-- How a cache stands after a `&mut` into it has ended.
use Rattle.std.specs.Borrow.{Fml, RattleType, MutBor, Lends}
use Rattle.std.specs.HashMap.Lent.{HashMembers}
use Rattle.std.specs.declared.hash.Hasher as hasher
use Rattle.std.specs.declared.hash.BuildHasher as builder
use Rattle.scc_common.specs.declared.rule.Rule as rule
use Rattle.scc_common.specs.Pairs.{with_pair_key, with_pair_value}
use Rattle.scc_buckets.specs.declared.place.Place.{Place}
use Rattle.scc_table.specs.Places.{with_write_at}
use Rattle.scc_owned_cache.specs.Caches.{Cached}
use Rattle.scc_owned_cache.specs.contracts.Owned.{the_row}

module _ {K V S : Type 0} where
  -- the cache, with v as the value at the place
  abbrev pub with_value_at : Cached (K × V) S → Place → V → Cached (K × V) S
  with_value_at c p v = record c { contents = with_write_at with_pair_value c.contents p v }

  -- the cache, with k as the key at the place
  abbrev pub with_key_at : Cached (K × V) S → Place → K → Cached (K × V) S
  with_key_at c p k = record c { contents = with_write_at with_pair_key c.contents p k }

module _ (K V S R H : RattleType) (key : HashMembers K.Denot) (build : builder.Ghosts S.Denot H.Denot) (rules : rule.Ghosts R.Denot K.Denot V.Denot) (feed : hasher.Ghosts H.Denot) where
  -- the cache's type, as the logic has it
  abbrev pub cache_row : RattleType
  cache_row = the_row K V S R H (record {}) (record { eq = key.eq }) (record { hash_input = key.hash_input }) build feed rules

  -- after the borrow r ends, the pair at the place has the last value written through r
  abbrev pub lends_value : MutBor (Cached (K.Denot × V.Denot) S.Denot) → Place → MutBor V.Denot → Fml
  lends_value c p r = Lends cache_row V c r (with_value_at c.now p)
