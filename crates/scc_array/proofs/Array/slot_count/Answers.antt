use Rattle.std.proofs.Common.{length, ap, ◌∙◌}
use Rattle.scc_array.proofs.Shelves.{window-within, slots-are}
use Rattle.scc_array.proofs.Array.slot_count.Goals as goal

pub count-requires : goal.count-requires
count-requires g c = window-within c.self.inside.columns c.self.inside.overflow.items c.args.self.now c.self.view_is c.args.bucket c.requires

pub returns-clause-count : goal.returns-clause-count
returns-clause-count g c = c.count.ensures.count ∙ ap length (slots-are c.self.inside.columns c.self.inside.overflow.items c.args.self.now c.self.view_is c.args.bucket c.requires)
