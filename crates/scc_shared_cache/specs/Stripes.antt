-- The stripes of a cache, and its hasher.
use Rattle.scc_owned_cache.specs.Caches.{Cached}
use Rattle.scc_stripes.specs.declared.Striped.{Striped}
use Rattle.scc_stripes.specs.Stripes.{stripes_hasher}
use Rattle.scc_shared_cache.specs.declared.SharedCache.{SharedCache}

module _ {K V R H T : Type 0} where
  -- the stripes of the cache
  abbrev pub stripes_of : SharedCache K V R H T → Striped (Cached (K × V) H) H
  stripes_of c = c.stripes

  -- the hasher of the cache, which all its stripes share
  abbrev pub hasher_of : SharedCache K V R H T → H
  hasher_of c = stripes_hasher c.stripes
