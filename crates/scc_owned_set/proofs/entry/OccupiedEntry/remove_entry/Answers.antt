use Rattle.std.proofs.Common.{sym}
use Rattle.scc_buckets.specs.Placed as spots
use Rattle.scc_table.proofs.places.Entries.{entry_of-is}
use Rattle.scc_owned_set.proofs.entry.OccupiedEntry.remove_entry.Goals as goal

pub returns-clause-key : goal.returns-clause-key
returns-clause-key g c = sym (entry_of-is _ _ c.args.self.within _ c.remove_at.ensures.key)

pub returns-clause-removed : goal.returns-clause-removed
unfolding spots.front_of_spot spots.back_of_spot
returns-clause-removed g c = c.remove_at.ensures.others

pub returns-clause-unique : goal.returns-clause-unique
returns-clause-unique g c = c.remove_at.ensures.unique

pub returns-clause-array : goal.returns-clause-array
returns-clause-array g c = c.remove_at.ensures.array
