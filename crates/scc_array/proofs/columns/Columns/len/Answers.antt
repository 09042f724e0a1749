use Rattle.std.proofs.Common.{ap, ◌∙◌, sym, length}
use Rattle.scc_array.proofs.Windows.{length-windows}
use Rattle.scc_array.proofs.columns.Columns.len.Goals as goal

pub returns-clause-count : goal.returns-clause-count
returns-clause-count g c = c.len.ensures ∙ c.self.inside.tags.ok.0 ∙ sym (length-windows c.self.inside.tags.items c.self.inside.slots) ∙ ap length c.self.view_is
