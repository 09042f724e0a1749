use Rattle.std.proofs.Common.{set, refl, ap}
use Rattle.scc_array.proofs.WholeWrites.{whole-written}
use Rattle.scc_array.specs.Shelves.{shelf_of}
use Rattle.scc_array.proofs.Array.parts_mut_at.Goals as goal

pub returns : goal.returns
returns g c =
    let bs = c.args.self.now in let b = c.args.bucket in let i = c.args.slot in
    let e = c.entry_mut_at-entry.result.now in let got = c.entry_mut_at-entry.ensures.entry in
    ((refl, λ w. ap (set bs b) (whole-written g.E.Valued.with_value (shelf_of bs b) i e w got)), record { writes_back = tt; parts = (e, got, c.parts_mut.ensures.key, c.parts_mut.ensures.value) })
