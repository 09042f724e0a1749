use Rattle.std.proofs.Common.{◌≡◌, ◌++◌, map}
use Rattle.std.specs.Arc.{arc_value}
use Rattle.std.specs.VecDeque.Iter.{deque_iter_rest}
use Rattle.scc_common.proofs.snapshot.Iter.try_clone.Given as goal

abbrev pub invariant-loop-version : goal.invariant-loop-version
invariant-loop-version g l = record {
  place : map (λ b. b.now) l.yielded ++ deque_iter_rest l.version-iterator ≡ deque_iter_rest l.initial.version-iterator;
  copied : map arc_value l.versions.items ≡ map arc_value (map (λ b. b.now) l.yielded);
}
