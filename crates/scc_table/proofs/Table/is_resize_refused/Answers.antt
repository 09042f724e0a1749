use Rattle.std.proofs.Common.{Bool, sym, ap, ◌∙◌}
use Rattle.scc_common.specs.Contents.{notes_of}
use Rattle.scc_table.proofs.arrays.JoinedLists.{refused-together}
use Rattle.scc_table.proofs.Table.is_resize_refused.Goals as goal

pub returns : goal.returns
returns g c = c.is_resize_refused.ensures ∙ ap (λ (x : Bool × Bool). x.0) (sym (refused-together _ c.self.inside.current c.self.inside.draining.waiting.items c.self.inside.draining.array) ∙ ap notes_of c.self.view_is)
