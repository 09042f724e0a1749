use Rattle.std.proofs.Common.{sym}
use Rattle.scc_table.proofs.places.Entries.{entry_of-is}
use Rattle.scc_owned_set.proofs.entry.OccupiedEntry.get.Goals as goal

pub returns : goal.returns
returns g c = sym (entry_of-is _ _ c.args.self.now.within _ c.key_at.ensures)
