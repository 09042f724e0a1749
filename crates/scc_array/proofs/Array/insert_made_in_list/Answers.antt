use Rattle.std.proofs.Common.{ap, ◌∙◌}
use Rattle.scc_array.proofs.Reserving.{shelf-put, put-after}
use Rattle.scc_array.specs.Shelf.{next_slot}
use Rattle.scc_array.proofs.Array.insert_made_in_list.Goals as goal

pub returns-in-Ok-make-clause-ok : goal.returns-in-Ok-make-clause-ok
returns-in-Ok-make-clause-ok g c =
    let bs = c.args.self.now in let b = c.args.bucket in let ms = c.make_room.new.self in
    let there = shelf-put bs ms b _ c.requires.bucket c.make_room.ensures.value in (
      c.next_slot-slot.ensures ∙ ap next_slot there,
      put-after bs ms c.insert_in_room.new.self b c.requires.bucket _ c.make_room.ensures.value c.in-Ok-make.entry (g.E.Made.made_of c.args.parts) c.in-Ok-make.ensures.ok c.args.tag _ c.insert_in_room.ensures.value,
    )
