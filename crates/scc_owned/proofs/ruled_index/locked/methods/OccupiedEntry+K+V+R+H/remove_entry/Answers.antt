use Rattle.scc_owned.proofs.ruled_index.locked.methods.OccupiedEntry+K+V+R+H.remove_entry.Goals as goal

pub remove_at-requires : goal.remove_at-requires
remove_at-requires g c = rw c.deref_mut.ensures.value c.args.self.within
