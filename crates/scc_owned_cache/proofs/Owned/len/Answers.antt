use Rattle.scc_owned_cache.proofs.Caching.{listed-most}
use Rattle.std.proofs.Common.{arith}
use Rattle.scc_owned_cache.proofs.Owned.len.Goals as goal

pub returns-clause-most : goal.returns-clause-most
returns-clause-most g c =
    let m = listed-most _ c.self.inside.table c.self.invariant.lists in
    rw (← c.self.view_is) (omega (arith, c.len.ensures.len))
