use Rattle.scc_shared_cache.proofs.StripeWalks.{all-free}
use Rattle.scc_shared_cache.proofs.all_stripes.HashCache+K+V+H.try_from_iter.Goals as goal

pub put_all-requires : goal.put_all-requires
put_all-requires g c = all-free _
