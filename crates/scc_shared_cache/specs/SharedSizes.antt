-- The greatest number of slots that a cache may have in all its stripes together.
use Rattle.std.specs.Prelude.{ℕ}
use Rattle.scc_shared_cache.specs.declared.SharedCache.{SharedCache}

-- the maximum of a cache: the greatest number of slots of all its stripes together
abbrev pub maximum_of : {K V R H T : Type 0} → SharedCache K V R H T → ℕ
maximum_of c = c.maximum
