use Rattle.std.proofs.Common.{refl, rules}
use Rattle.scc_owned.proofs.Inserting.{both-ok}
use Rattle.scc_owned.proofs.MapEntries.{within-after, waiting-put, written-after}
use Rattle.scc_owned.proofs.map.borrowed.insertions.Entry+K+V+H.insert_entry.Goals as goal

pub invariant_of-self : goal.invariant_of-self
invariant_of-self g c = record { within = within-after c.in-Occupied.entry c.in-Occupied.entry.guard.now c.write_at-old.new.self c.args.value refl c.write_at-old.ensures.new; unique = c.write_at-old.ensures.unique }

pub returns-in-Occupied : goal.returns-in-Occupied
returns-in-Occupied g c = (
  (refl, λ w. refl, tt),
  record {
    inserts = record {
      entry = rw c.in-Occupied.is (written-after c.in-Occupied.entry c.in-Occupied.entry.guard.now c.write_at-old.new.self c.args.value refl c.write_at-old.ensures.new _ _);
      refused = tt;
      vacant = tt;
      full = tt;
      growth = rw c.in-Occupied.is tt;
      relocates = rw c.in-Occupied.is (waiting-put c.in-Occupied.entry.guard.now c.in-Occupied.entry.place c.args.value c.write_at-old.new.self c.write_at-old.ensures.new);
      unique = c.write_at-old.ensures.unique;
    };
    kept = tt;
  },
)

pub returns-in-Vacant : goal.returns-in-Vacant
returns-in-Vacant g c =
    let put = c.insert_entry.ensures.inserts in (
      (refl, c.insert_entry.follows.holds, rw c.in-Vacant.is c.insert_entry.follows.holds-at-none),
      record {
        inserts = record {
          entry = rw c.in-Vacant.is put.inserted;
          refused = rw c.in-Vacant.is put.refused;
          vacant = rw c.in-Vacant.is (search rules);
          full = rw c.in-Vacant.is put.full;
          growth = rw c.in-Vacant.is put.growth;
          relocates = rw c.in-Vacant.is (both-ok _ _ c.insert_entry.result put.relocates put.two);
          unique = put.unique;
        };
        kept = tt;
      },
    )
