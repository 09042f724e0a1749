use Rattle.std.proofs.Common.{List, true}
use Rattle.scc_common.specs.Rules.{AllKeep}
use Rattle.scc_common.specs.RuleWalks.{CallableOnKept}
use Rattle.scc_common.specs.Walks.{CalledOn, Walks}
use Rattle.scc_stripes.specs.Walks.{AreOfStripes}
use Rattle.scc_shared_cache.proofs.SharedCache.iter_stripes.Given as goal

abbrev pub invariant-loop-stripe : goal.invariant-loop-stripe
invariant-loop-stripe g l = record {
  callable : (es : List (g.row.K.Denot × g.row.V.Denot)) → CallableOnKept g.R.Rule.holds g.F.FnMut true l.f es;
  seen : (es : List (g.row.K.Denot × g.row.V.Denot)) × AllKeep g.R.Rule.holds es × Walks (CalledOn g.F.FnMut) l.fn.f es true l.f × AreOfStripes g.K.PartialEq.eq (λ p. p.0) l.stripe es;
}
