use Rattle.std.proofs.Common.{List, true}
use Rattle.scc_common.specs.Walks.{CalledOn, Walks}
use Rattle.scc_common.specs.Rules.{AllKeep}
use Rattle.scc_stripes.specs.Walks.{AreOfStripes}
use Rattle.scc_shared.proofs.ruled_map.walks.RuledMap+K+V+R+H.iter_sync.Given as goal

abbrev pub invariant-loop-stripe : goal.invariant-loop-stripe
invariant-loop-stripe g l = (es : List (g.row.K.Denot × g.row.V.Denot)) × AllKeep g.R.Rule.holds es × Walks (CalledOn g.F.FnMut) l.fn.f es true l.f × AreOfStripes g.K.PartialEq.eq (λ p. p.0) l.stripe es
