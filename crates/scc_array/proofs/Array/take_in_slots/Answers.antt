use Rattle.std.proofs.Common.{Bool, subst}
use Rattle.scc_array.proofs.Shelves.{window-within, shelf-is}
use Rattle.scc_array.proofs.TakenFirst.{taken-in_places}
use Rattle.scc_array.specs.Shelves.{shelf_of}
use Rattle.scc_array.specs.Shelf.{Shelf, HasTag}
use Rattle.scc_array.proofs.Array.take_in_slots.Goals as goal

pub take_first-requires-clause-bucket : goal.take_first-requires-clause-bucket
take_first-requires-clause-bucket g c = window-within c.self.inside.columns c.self.inside.overflow.items c.args.self.now c.self.view_is c.args.bucket c.requires.bucket

pub take_first-requires-clause-tagged : goal.take_first-requires-clause-tagged
take_first-requires-clause-tagged g c =
    let p : g.row.E.Denot → Bool = λ e. g.E.Key.PartialEq.eq c.args.key.now (g.E.Keyed.key_of e) in
    let tagged : HasTag p c.args.tag (shelf_of c.args.self.now c.args.bucket) = c.requires.tagged in
    subst (λ (s : Shelf g.row.E.Denot). HasTag p c.args.tag s) (shelf-is c.self.inside.columns c.self.inside.overflow.items c.args.self.now c.self.view_is c.args.bucket c.requires.bucket) tagged

pub returns : goal.returns
returns g c =
    let p : g.row.E.Denot → Bool = λ e. g.E.Key.PartialEq.eq c.args.key.now (g.E.Keyed.key_of e) in
    taken-in_places p c.self.inside.columns c.take_first.new.self c.self.inside.overflow.items c.args.self.now c.self.view_is c.args.bucket c.requires.bucket c.take_first.result c.take_first.ensures
