use Rattle.std.proofs.Common.{refl}
use Rattle.scc_owned.proofs.HeldEntries.{same-name}
use Rattle.scc_owned.proofs.Inserting.{inserts-at-vacant}
use Rattle.scc_owned.proofs.borrowed.insertions.VacantEntry+E+H.insert_entry.Goals as goal

pub returns-in-Ok : goal.returns-in-Ok
returns-in-Ok g c = (
  (same-name c.at.ensures.guard, λ w. refl, tt),
  record {
    inserts = inserts-at-vacant g.E.Key.PartialEq.eq _ c.args.self c.args.self.guard.now c.insert_into.new.owned c.args.value c.at.result _ c.at.ensures.guard c.at.ensures.place c.at.ensures.rest refl c.in-Ok.ensures.ok c.in-Ok.ensures.growth c.insert_into.ensures.relocates c.in-Ok.ensures.two c.insert_into.ensures.unique;
    kept = tt;
  },
)

pub returns-in-Err : goal.returns-in-Err
returns-in-Err g c = (
  (refl, λ _. tt, c.in-Err.ensures.rests),
  record {
    inserts = record {
      inserted = tt;
      growth = tt;
      relocates = tt;
      two = tt;
      unique = tt;
      refused = rw c.in-Err.ensures.refused refl;
      full = c.in-Err.ensures.full;
    };
    kept = tt;
  },
)
