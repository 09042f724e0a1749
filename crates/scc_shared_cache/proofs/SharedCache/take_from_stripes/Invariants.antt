use Rattle.std.proofs.Common.{◌≡◌, ◌≤◌, ◌++◌, List, Ok, true}
use Rattle.std.specs.Vec.{vec_capacity}
use Rattle.scc_common.specs.PairWalks.{GoesOn, Takes}
use Rattle.scc_common.specs.RuleWalks.{CallableToWriteKept, CalledToWriteKept}
use Rattle.scc_stripes.specs.Walks.{AreOfStripes}
use Rattle.scc_shared_cache.proofs.SharedCache.take_from_stripes.Given as goal

abbrev pub invariant-loop-stripe : goal.invariant-loop-stripe
invariant-loop-stripe g l = record {
  callable : (es : List (g.row.K.Denot × g.row.V.Denot)) → CallableToWriteKept g.R.Rule.holds g.F.FnMut GoesOn l.f es;
  seen : (es : List (g.row.K.Denot × g.row.V.Denot)) × (stay : List (g.row.K.Denot × g.row.V.Denot)) × (more : List (g.row.K.Denot × g.row.V.Denot)) × Takes (CalledToWriteKept g.R.Rule.holds g.F.FnMut) l.fn.f es stay more (Ok true) l.f × (l.taken.items ≡ l.fn.taken.items ++ more) × AreOfStripes g.K.PartialEq.eq (λ p. p.0) l.stripe es;
  room : vec_capacity l.fn.taken ≤ vec_capacity l.taken;
}
