use Rattle.std.proofs.Common.{ap}
use Rattle.scc_common.specs.Contents.{entries}
use Rattle.scc_owned.proofs.HeldEntries.{occupied-at}
use Rattle.scc_owned.proofs.Owned.entry_sync.Goals as goal

pub returns-in-Some-clause-entry : goal.returns-in-Some-clause-entry
returns-in-Some-clause-entry g c =
    occupied-at g.met.E.Stored.lawful g.met.E.Key.Eq.laws c.args.k c.at.result _ _ c.at.ensures.guard c.at.ensures.place (rw c.self.view_is at c.search.ensures.unique) (rw c.self.view_is at c.in-Some.ensures.place)

pub of_key-requires : goal.of_key-requires
of_key-requires g c = rw (← c.self.view_is) record { absent = c.in-None.ensures.place; hashed = c.hash-hash.ensures; unique = c.search.ensures.unique }

pub at-requires-clause-within : goal.at-requires-clause-within
at-requires-clause-within g c = let found = rw c.self.view_is at c.in-Some.ensures.place in found.within

pub returns-clause-entry : goal.returns-clause-entry
returns-clause-entry g c =
    let none = g.met.E.Stored.lawful.missing (g.E.Key.PartialEq.eq c.args.k) (entries c.args.self.now) (rw c.self.view_is at c.in-None.ensures.place) in
    record { contents = ap (λ m. m.now) c.of_key.ensures.guard; found = none; key = c.of_key.ensures.key }
