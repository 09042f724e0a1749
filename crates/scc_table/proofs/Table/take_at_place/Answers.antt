use Rattle.std.proofs.Common.{arith}
use Rattle.scc_table.specs.Places.{IsFoundAt}
use Rattle.scc_table.proofs.Table.take_at_place.Goals as goal

pub returns : goal.returns
returns g c =
    let passes = λ (x : g.row.E.Denot). g.E.Key.PartialEq.eq c.args.key.now (g.E.Keyed.key_of x) in
    let q = c.search_both-place.result in
    let found : IsFoundAt passes c.args.self.now q = c.search_both-place.ensures.found (omega (arith, c.if-place-ge-NOWHERE.false)) in (
      q,
      found,
      c.swap_take_at.ensures,
    )
