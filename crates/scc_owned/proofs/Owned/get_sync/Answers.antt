use Rattle.std.proofs.Common.{refl, ap}
use Rattle.scc_common.specs.Contents.{entries}
use Rattle.scc_owned.proofs.HeldEntries.{same-name, occupied-at}
use Rattle.scc_owned.proofs.Owned.get_sync.Goals as goal

pub returns-in-Some : goal.returns-in-Some
returns-in-Some g c = (
  (same-name c.at.ensures.guard, λ w. refl, tt),
  record {
    same_container = ap (λ x. x.ghost_name) c.at.ensures.guard;
    entry = occupied-at g.met.E.Stored.lawful g.met.E.Key.Eq.laws c.args.k.now c.at.result _ _ c.at.ensures.guard c.at.ensures.place (rw c.self.view_is at c.search.ensures.unique) (rw c.self.view_is at c.in-Some.ensures.place);
    unique = rw c.self.view_is at c.search.ensures.unique;
    missing = tt;
    kept = tt;
  },
)

pub returns-in-None : goal.returns-in-None
returns-in-None g c = ((refl, λ _. tt, refl), record { same_container = tt; entry = tt; unique = rw c.self.view_is at c.search.ensures.unique; missing = rw (← c.self.view_is) (g.met.E.Stored.lawful.missing (g.E.Key.PartialEq.eq c.args.k.now) (entries c.self.inside.table) c.in-None.ensures.place); kept = tt })

pub at-requires-clause-within : goal.at-requires-clause-within
at-requires-clause-within g c = let found = rw c.self.view_is at c.in-Some.ensures.place in found.within
