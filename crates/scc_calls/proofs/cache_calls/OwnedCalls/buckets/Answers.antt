use Rattle.std.proofs.Common.{arith}
use Rattle.scc_common.specs.Contents.{bucket_count, lists_of}
use Rattle.scc_calls.proofs.cache_calls.OwnedCalls.buckets.Goals as goal

pub returns : goal.returns
unfolding bucket_count lists_of
returns g c = let s = c.capacity.ensures.size in omega (arith, s)
