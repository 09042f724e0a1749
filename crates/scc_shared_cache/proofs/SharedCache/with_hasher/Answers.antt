use Rattle.scc_owned_cache.proofs.Entries.{map-ok}
use Rattle.scc_shared_cache.proofs.SizesLemmas.{default-size}
use Rattle.scc_shared_cache.proofs.SharedCache.with_hasher.Goals as goal

pub returns-clause-maximum : goal.returns-clause-maximum
returns-clause-maximum g c = map-ok _ _ c.with_capacity_and_hasher.result (λ x h. default-size x.maximum h) c.with_capacity_and_hasher.ensures.maximum
