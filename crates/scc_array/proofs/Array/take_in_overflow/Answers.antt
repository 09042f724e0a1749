use Rattle.std.proofs.Common.{Bool, sym}
use Rattle.scc_array.proofs.TakenFirst.{past-cells}
use Rattle.scc_array.specs.Shelves.{shelf_of}
use Rattle.scc_array.proofs.Array.take_in_overflow.Goals as goal

pub returns-in-Some : goal.returns-in-Some
returns-in-Some g c =
    let p : g.row.E.Denot → Bool = λ e. g.E.Key.PartialEq.eq c.args.key.now (g.E.Keyed.key_of e) in (
      c.in-Some.slot,
      past-cells p (shelf_of c.args.self.now c.args.bucket) c.in-Some.slot c.requires.missed (sym c.in-Some.ensures),
      record { first = sym c.in-Some.ensures; entry = c.swap_remove_at.ensures.entry; others = c.swap_remove_at.ensures.others },
    )
