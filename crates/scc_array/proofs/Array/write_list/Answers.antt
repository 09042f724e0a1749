use Rattle.std.proofs.Common.{◌≡◌, Bool, Some, sym, ◌∙◌}
use Rattle.std.specs.List.{position}
use Rattle.scc_array.specs.Shelves.{shelf_of}
use Rattle.scc_array.proofs.Finds.{find-position}
use Rattle.scc_array.specs.Shelf.{shelf_entries}
use Rattle.scc_array.proofs.Array.write_list.Goals as goal

pub write_at-requires-clause-takes : goal.write_at-requires-clause-takes
write_at-requires-clause-takes g c =
    let p : g.row.E.Denot → Bool = λ e. g.E.Key.PartialEq.eq c.args.key.now (g.E.Keyed.key_of e) in
    let es = shelf_entries (shelf_of c.args.self.now c.args.bucket) in
    let found : position p es ≡ Some c.in-Some.slot = sym c.in-Some.ensures in
    λ e here allowed. c.requires.takes e (find-position p es c.in-Some.slot found ∙ here) allowed

pub write_at-requires-clause-keeps : goal.write_at-requires-clause-keeps
write_at-requires-clause-keeps g c =
    let p : g.row.E.Denot → Bool = λ e. g.E.Key.PartialEq.eq c.args.key.now (g.E.Keyed.key_of e) in
    let es = shelf_entries (shelf_of c.args.self.now c.args.bucket) in
    let found : position p es ≡ Some c.in-Some.slot = sym c.in-Some.ensures in
    λ e r w here allowed written. c.requires.keeps e r w (find-position p es c.in-Some.slot found ∙ here) allowed written

pub returns-in-Some-clause-step : goal.returns-in-Some-clause-step
returns-in-Some-clause-step g c =
    let u = c.write_at.ensures in
    (c.in-Some.slot, u.0, u.1, sym c.in-Some.ensures, u.2, u.3, u.4)

pub returns-in-Some-clause-allowed : goal.returns-in-Some-clause-allowed
returns-in-Some-clause-allowed g c =
    let p : g.row.E.Denot → Bool = λ e. g.E.Key.PartialEq.eq c.args.key.now (g.E.Keyed.key_of e) in
    let es = shelf_entries (shelf_of c.args.self.now c.args.bucket) in
    let found : position p es ≡ Some c.in-Some.slot = sym c.in-Some.ensures in
    let u = c.write_at.ensures in
    (u.0, find-position p es c.in-Some.slot found ∙ u.2, u.5)
