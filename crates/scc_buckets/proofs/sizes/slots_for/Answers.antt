use Rattle.std.proofs.Common.{refl, arith}
use Rattle.scc_buckets.proofs.Powers.{least-next}
use Rattle.scc_buckets.proofs.sizes.slots_for.Goals as goal

pub returns-then-slots-ge-GREATEST_CAPACITY : goal.returns-then-slots-ge-GREATEST_CAPACITY
returns-then-slots-ge-GREATEST_CAPACITY c = record { power = (63, refl); least = omega arith; most = omega arith; enough = omega arith; fewest = λ q v l f. omega arith }

pub returns-then-slots-le64 : goal.returns-then-slots-le64
returns-then-slots-le64 c = record { power = (6, refl); least = omega arith; most = omega arith; enough = omega arith; fewest = λ q v l f. l }

pub returns-else-slots-le64 : goal.returns-else-slots-le64
returns-else-slots-le64 c = least-next c.args.slots _ (omega arith) (omega arith) c.next_power_of_two.ensures.power c.next_power_of_two.ensures.lower_bound c.next_power_of_two.ensures.upper_bound
