use Rattle.std.proofs.Common.{◌≡◌, length, vec_len}
use Rattle.scc_stripes.proofs.parts.OpenStripes.lock.Given as goal

abbrev pub invariant-loop-part : goal.invariant-loop-part
invariant-loop-part g l = vec_len l.locks ≡ length l.yielded
