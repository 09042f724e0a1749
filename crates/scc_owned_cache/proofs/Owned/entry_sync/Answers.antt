use Rattle.std.proofs.Common.{refl}
use Rattle.scc_owned_cache.proofs.Entries.{refreshed-under}
use Rattle.scc_owned_cache.proofs.Owned.entry_sync.Goals as goal

pub returns-in-Some-clause-entry : goal.returns-in-Some-clause-entry
returns-in-Some-clause-entry g c = refreshed-under g.K.PartialEq.eq c.args.self c.args.self.now c.refresh.new.self c.args.k c.at.result _ refl c.at.ensures.guard c.at.ensures.place c.in-Some.ensures.step c.in-Some.ensures.relocates
