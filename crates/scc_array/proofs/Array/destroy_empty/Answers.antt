use Rattle.scc_array.proofs.Spent.{no-slots, no-spilled}
use Rattle.scc_array.proofs.Array.destroy_empty.Goals as goal

pub destroy_empty-requires : goal.destroy_empty-requires
destroy_empty-requires g c = no-slots c.self.inside.columns c.self.inside.overflow.items c.args.self c.self.view_is c.requires

pub destroy_lists-requires : goal.destroy_lists-requires
destroy_lists-requires g c = no-spilled c.self.inside.columns c.self.inside.overflow.items c.args.self c.self.view_is c.requires c.self.invariant.0
