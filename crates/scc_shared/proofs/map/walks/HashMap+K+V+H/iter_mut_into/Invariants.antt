use Rattle.std.proofs.Common.{◌≡◌, ◌≤◌, ◌++◌, List, true, Ok}
use Rattle.scc_common.specs.PairWalks.{CalledToWrite, Takes}
use Rattle.scc_stripes.specs.Walks.{AreOfStripes}
use Rattle.scc_shared.proofs.map.walks.HashMap+K+V+H.iter_mut_into.Given as goal

abbrev pub invariant-loop-stripe : goal.invariant-loop-stripe
invariant-loop-stripe g l = record {
  always : goal.F-IsAlwaysCallable g l.f;
  seen : (es : List (g.row.K.Denot × g.row.V.Denot)) × (stay : List (g.row.K.Denot × g.row.V.Denot)) × (more : List (g.row.K.Denot × g.row.V.Denot)) × Takes (CalledToWrite g.F.FnMut) l.fn.f es stay more (Ok true) l.f × (g.L.Sink.pairs l.taken ≡ g.L.Sink.pairs l.fn.taken ++ more) × AreOfStripes g.K.PartialEq.eq (λ p. p.0) l.stripe es;
  room : g.L.Sink.capacity l.fn.taken ≤ g.L.Sink.capacity l.taken;
}
