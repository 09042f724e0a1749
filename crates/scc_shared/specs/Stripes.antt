-- The stripes of a container, and its hasher.
use Rattle.scc_common.specs.Contents.{Contents}
use Rattle.scc_stripes.specs.declared.Striped.{Striped}
use Rattle.scc_stripes.specs.Stripes.{stripes_hasher}
use Rattle.scc_shared.specs.declared.HashContainer.{HashContainer}

module _ {E H K T : Type 0} where
  -- the stripes of the container
  abbrev pub stripes_of : HashContainer E H K T → Striped (Contents E H) H
  stripes_of m = m.stripes

  -- the hasher of the container, which all its stripes share
  abbrev pub hasher_of : HashContainer E H K T → H
  hasher_of m = stripes_hasher m.stripes
