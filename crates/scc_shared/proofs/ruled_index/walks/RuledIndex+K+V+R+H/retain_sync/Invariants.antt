use Rattle.std.proofs.Common.{List}
use Rattle.scc_common.specs.Walks.{CalledOn}
use Rattle.scc_owned.specs.IndexWalks.{Retains}
use Rattle.scc_common.specs.Rules.{AllKeep}
use Rattle.scc_stripes.specs.Walks.{AreOfStripes}
use Rattle.scc_shared.proofs.ruled_index.walks.RuledIndex+K+V+R+H.retain_sync.Given as goal

abbrev pub invariant-loop-stripe : goal.invariant-loop-stripe
invariant-loop-stripe g l = (es : List (g.row.K.Denot × g.row.V.Denot)) × (stay : List (g.row.K.Denot × g.row.V.Denot)) × AllKeep g.R.Rule.holds es × AllKeep g.R.Rule.holds stay × Retains (CalledOn g.F.FnMut) l.fn.f es stay l.f × AreOfStripes g.K.PartialEq.eq (λ p. p.0) l.stripe es
