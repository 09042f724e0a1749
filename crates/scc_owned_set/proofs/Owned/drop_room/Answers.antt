use Rattle.std.proofs.Common.{◌∙◌, ap}
use Rattle.scc_owned_set.specs.Keys.{of_map}
use Rattle.scc_owned_set.proofs.Sets.{unique-keys, unmarked-keys}
use Rattle.scc_owned_set.proofs.Owned.drop_room.Goals as goal

pub returns-clause-cleared : goal.returns-clause-cleared
returns-clause-cleared g c = rw (← c.self.view_is) (ap of_map c.drop_room.ensures.cleared ∙ unmarked-keys _)

pub returns-clause-unique : goal.returns-clause-unique
returns-clause-unique g c = unique-keys _ _ c.drop_room.ensures.unique
