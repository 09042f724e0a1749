use Rattle.std.proofs.Common.{length, sym, ap, ◌∙◌}
use Rattle.scc_array.proofs.Shelves.{length-shelves}
use Rattle.scc_array.proofs.Array.len.Goals as goal

pub returns-clause-count : goal.returns-clause-count
returns-clause-count g c = c.len.ensures.count ∙ sym (length-shelves c.self.inside.columns c.self.inside.overflow.items) ∙ ap length c.self.view_is
