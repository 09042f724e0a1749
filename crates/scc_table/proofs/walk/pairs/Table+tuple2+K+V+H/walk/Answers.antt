use Rattle.std.proofs.Common.{◌∙◌, sym, ap}
use Rattle.scc_common.specs.Contents.{entries}
use Rattle.scc_table.proofs.arrays.OneArray.{entries-alone}
use Rattle.scc_table.proofs.walk.pairs.Table+tuple2+K+V+H.walk.Goals as goal

pub walk-requires : goal.walk-requires
walk-requires g c =
    let t = c.self.inside in
    let same = ap entries (sym c.self.view_is) ∙ entries-alone _ t.current t.draining.waiting.items t.draining.array (c.self.invariant.none c.if-self-eq0.true) in
    rw same at c.requires

pub returns-then-self-eq0 : goal.returns-then-self-eq0
returns-then-self-eq0 g c =
    let t = c.self.inside in
    let same = ap entries (sym c.self.view_is) ∙ entries-alone _ t.current t.draining.waiting.items t.draining.array (c.self.invariant.none c.if-self-eq0.true) in
    rw same c.walk.ensures
