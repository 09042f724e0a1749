use Rattle.std.proofs.Common.{◌≡◌, ◌≤◌, ◌++◌, List, Ok, true}
use Rattle.scc_common.specs.PairWalks.{CalledToWrite, Takes}
use Rattle.scc_common.specs.Rules.{AllKeep}
use Rattle.scc_stripes.specs.Walks.{AreOfStripes}
use Rattle.scc_shared.proofs.ruled_map.walks.RuledMap+K+V+R+H.iter_mut_into.Given as goal

abbrev pub invariant-loop-stripe : goal.invariant-loop-stripe
invariant-loop-stripe g l = record {
  seen : (es : List (g.row.K.Denot × g.row.V.Denot)) × (stay : List (g.row.K.Denot × g.row.V.Denot)) × (more : List (g.row.K.Denot × g.row.V.Denot)) × AllKeep g.R.Rule.holds es × AllKeep g.R.Rule.holds stay × AllKeep g.R.Rule.holds more × Takes (CalledToWrite g.F.FnMut) l.fn.f es stay more (Ok true) l.f × (g.L.Sink.pairs l.taken ≡ g.L.Sink.pairs l.fn.taken ++ more) × AreOfStripes g.K.PartialEq.eq (λ p. p.0) l.stripe es;
  room : g.L.Sink.capacity l.fn.taken ≤ g.L.Sink.capacity l.taken;
}
