use Rattle.std.proofs.Common.{refl, ap, rules}
use Rattle.scc_common.specs.Contents.{waiting_of}
use Rattle.scc_owned.proofs.Inserting.{both-ok, map-err, map-ok}
use Rattle.scc_owned.proofs.HeldEntries.{same-made, same-name}
use Rattle.scc_owned.proofs.borrowed.insertions.Entry+E+H.or_insert_with_key.Goals as goal

pub returns-in-Occupied : goal.returns-in-Occupied
returns-in-Occupied g c = (
  (same-name c.at.ensures.guard, λ w. refl, tt),
  record {
    inserts = record {
      entry = rw c.in-Occupied.is (same-made c.in-Occupied.entry c.at.result c.at.ensures.guard c.at.ensures.place c.at.ensures.rest);
      refused = tt;
      vacant = tt;
      full = tt;
      growth = rw c.in-Occupied.is tt;
      relocates = rw c.in-Occupied.is (ap (λ m. waiting_of m.now) c.at.ensures.guard);
      unique = c.at.result.unique;
    };
    kept = tt;
  },
)

pub returns-in-Vacant : goal.returns-in-Vacant
returns-in-Vacant g c =
    let put = c.insert_entry.ensures.inserts in (
      (refl, c.insert_entry.follows.holds, rw c.in-Vacant.is c.insert_entry.follows.holds-at-none),
      record {
        inserts = record {
          entry = rw c.in-Vacant.is (map-ok _ _ c.insert_entry.result (λ o i. (c.f-value.result, (_, c.f-value.ensures, c.key.ensures), i)) put.inserted);
          refused = rw c.in-Vacant.is (map-err _ _ c.insert_entry.result (λ e i. (c.f-value.result, (_, c.f-value.ensures, c.key.ensures), i)) put.refused);
          vacant = rw c.in-Vacant.is (search rules);
          full = rw c.in-Vacant.is put.full;
          growth = rw c.in-Vacant.is put.growth;
          relocates = rw c.in-Vacant.is (both-ok _ _ c.insert_entry.result put.relocates put.two);
          unique = put.unique;
        };
        kept = tt;
      },
    )
