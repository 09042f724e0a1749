use Rattle.std.proofs.Common.{List}
use Rattle.std.specs.Prelude.{⊤}
use Rattle.scc_common.specs.PairWalks.{Retains}
use Rattle.scc_common.specs.RuleWalks.{CallableToWriteKept, CalledToWriteKept}
use Rattle.scc_stripes.specs.Walks.{AreOfStripes}
use Rattle.scc_shared_cache.proofs.SharedCache.retain_stripes.Given as goal

abbrev pub invariant-loop-stripe : goal.invariant-loop-stripe
invariant-loop-stripe g l = record {
  callable : (es : List (g.row.K.Denot × g.row.V.Denot)) → CallableToWriteKept g.R.Rule.holds g.F.FnMut (λ answer. ⊤) l.f es;
  seen : (es : List (g.row.K.Denot × g.row.V.Denot)) × (stay : List (g.row.K.Denot × g.row.V.Denot)) × Retains (CalledToWriteKept g.R.Rule.holds g.F.FnMut) l.fn.f es stay l.f × AreOfStripes g.K.PartialEq.eq (λ p. p.0) l.stripe es;
}
