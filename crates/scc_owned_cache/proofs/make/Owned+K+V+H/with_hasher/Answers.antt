use Rattle.std.proofs.Common.{refl, arith}
use Rattle.scc_owned_cache.proofs.Caching.{state-empty}
use Rattle.scc_owned_cache.proofs.make.Owned+K+V+H.with_hasher.Goals as goal

pub invariant_of-result : goal.invariant_of-result
invariant_of-result g c = state-empty g.K.PartialEq.eq _ c.new.result 256 c.new.ensures.listed c.new.ensures.entries (8, refl) (omega arith) (omega arith) (omega (arith, c.new.ensures.buckets)) (rw c.new.ensures.settings (omega arith))
