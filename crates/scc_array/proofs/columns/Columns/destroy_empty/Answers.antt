use Rattle.scc_array.proofs.Drained.{all-free}
use Rattle.scc_array.proofs.columns.Columns.destroy_empty.Goals as goal

pub destroy_empty-requires : goal.destroy_empty-requires
destroy_empty-requires g c = all-free c.self.inside.tags.items c.self.inside.slots c.self.invariant c.args.self c.self.view_is c.requires
