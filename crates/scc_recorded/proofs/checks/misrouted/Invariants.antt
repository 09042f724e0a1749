use Rattle.std.proofs.Common.{take, map, length}
use Rattle.scc_calls.specs.Histories.{CallsRouted}
use Rattle.scc_common.specs.Routing.{stripe_of}
use Rattle.scc_recorded.proofs.checks.misrouted.Given as goal

abbrev pub invariant-loop-i : goal.invariant-loop-i
invariant-loop-i g l = CallsRouted g.C.Calls.key_of (stripe_of g.C.Hasher.BuildHasher g.C.Hasher.Hasher.Hasher g.C.Key.Hash.hash_input l.hasher (length l.stripes)) 0 (take l.i (map (λ s. s.stripe.history.items) l.stripes))
