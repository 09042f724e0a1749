use Rattle.std.proofs.Common.{rules}
use Rattle.scc_owned.proofs.Inserting.{inserts-at-vacant}
use Rattle.scc_owned.proofs.locked.insertions.VacantEntry+E+H.insert_entry.Goals as goal

pub returns-in-Ok : goal.returns-in-Ok
returns-in-Ok g c =
    inserts-at-vacant g.E.Key.PartialEq.eq _ c.args.self c.deref_mut.result.now c.insert_into.new.owned c.args.value c.at.result _ c.at.ensures.guard c.at.ensures.place c.at.ensures.rest c.deref_mut.ensures.value c.in-Ok.ensures.ok c.in-Ok.ensures.growth c.insert_into.ensures.relocates c.in-Ok.ensures.two c.insert_into.ensures.unique

pub returns : goal.returns
returns g c =
    record {
      inserted = (search rules);
      growth = (search rules);
      relocates = (search rules);
      two = (search rules);
      unique = (search rules);
      refused = (search rules);
      full = (rw (← c.deref_mut.ensures.value) c.in-Err.ensures.full);
    }
