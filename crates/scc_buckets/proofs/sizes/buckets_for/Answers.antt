use Rattle.scc_buckets.proofs.Powers.{array-of_size}
use Rattle.scc_buckets.proofs.sizes.buckets_for.Goals as goal

pub returns-clause-array : goal.returns-clause-array
returns-clause-array c = (array-of_size _ _ c.slots_for.ensures).0

pub returns-clause-size : goal.returns-clause-size
returns-clause-size c = rw (array-of_size _ _ c.slots_for.ensures).1 c.slots_for.ensures
