use Rattle.scc_owned.proofs.HeldEntries.{found-or-none}
use Rattle.scc_owned.proofs.Owned.place_of.Goals as goal

pub returns-clause-place : goal.returns-clause-place
returns-clause-place g c = found-or-none g.met.E.Stored.lawful (g.E.Key.PartialEq.eq c.args.k.now) c.args.self.now c.search.result c.search.ensures.place
