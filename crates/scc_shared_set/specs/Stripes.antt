-- The stripes and the hasher of a set, which are those of its map.
use Rattle.scc_common.specs.Contents.{Contents}
use Rattle.scc_stripes.specs.declared.Striped.{Striped}
use Rattle.scc_shared.specs.Stripes as map
use Rattle.scc_shared_set.specs.declared.KeySet.{KeySet}

module _ {E H K T : Type 0} where
  -- the stripes of the set
  abbrev pub stripes_of : KeySet E H K T → Striped (Contents E H) H
  stripes_of s = map.stripes_of s.map

  -- the hasher of the set, which all its stripes share
  abbrev pub hasher_of : KeySet E H K T → H
  hasher_of s = map.hasher_of s.map
