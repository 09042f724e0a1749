use Rattle.std.proofs.Common.{sym, ◌∙◌}
use Rattle.scc_array.proofs.Finds.{find-missed, find-position, slot-below}
use Rattle.scc_array.proofs.columns.Columns.find_entry.Goals as goal
use Rattle.scc_array.specs.Windows.{window_of}

pub entry_at-requires-clause-slot : goal.entry_at-requires-clause-slot
entry_at-requires-clause-slot g c =
    let xs = (window_of c.args.self.now c.args.bucket).slots in
    let p = λ (e : g.row.E.Denot). g.E.Key.PartialEq.eq c.args.key.now (g.E.Keyed.key_of e) in
    slot-below p xs c.in-Some.slot (sym c.in-Some.ensures)

pub returns-in-Some : goal.returns-in-Some
returns-in-Some g c =
    let xs = (window_of c.args.self.now c.args.bucket).slots in
    let p = λ (e : g.row.E.Denot). g.E.Key.PartialEq.eq c.args.key.now (g.E.Keyed.key_of e) in
    sym c.entry_at.ensures ∙ sym (find-position p xs c.in-Some.slot (sym c.in-Some.ensures))

pub returns-in-None : goal.returns-in-None
returns-in-None g c =
    let xs = (window_of c.args.self.now c.args.bucket).slots in
    let p = λ (e : g.row.E.Denot). g.E.Key.PartialEq.eq c.args.key.now (g.E.Keyed.key_of e) in
    sym (find-missed p xs (sym c.in-None.ensures))
