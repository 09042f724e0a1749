use Rattle.std.proofs.Common.{refl, rules}
use Rattle.scc_owned.proofs.Inserting.{both-ok, map-ok, map-err}
use Rattle.scc_owned.proofs.HeldEntries.{same-made}
use Rattle.scc_owned.proofs.locked.insertions.Entry+E+H.or_insert_with_key.Goals as goal

pub returns-in-Occupied : goal.returns-in-Occupied
returns-in-Occupied g c = record {
  entry = rw c.in-Occupied.is (same-made c.in-Occupied.entry c.at.result c.at.ensures.guard c.at.ensures.place c.at.ensures.rest);
  refused = tt;
  vacant = tt;
  full = tt;
  growth = rw c.in-Occupied.is tt;
  relocates = rw (c.in-Occupied.is, c.at.ensures.guard) refl;
  unique = c.at.result.unique;
}

pub returns-in-Vacant : goal.returns-in-Vacant
returns-in-Vacant g c =
    let put = c.insert_entry.ensures in
    record {
      entry = (rw c.in-Vacant.is (map-ok _ _ c.insert_entry.result (λ o i. (c.f-value.result, (_, c.f-value.ensures, c.key.ensures), i)) put.inserted));
      refused = (rw c.in-Vacant.is (map-err _ _ c.insert_entry.result (λ e i. (c.f-value.result, (_, c.f-value.ensures, c.key.ensures), i)) put.refused));
      vacant = (search rules);
      full = (rw c.in-Vacant.is put.full);
      growth = (rw c.in-Vacant.is put.growth);
      relocates = (rw c.in-Vacant.is (both-ok _ _ c.insert_entry.result put.relocates put.two));
      unique = put.unique;
    }

pub insert_entry-requires : goal.insert_entry-requires
insert_entry-requires g c = let keeps = rw c.in-Vacant.is at c.requires.keeps in keeps tt c.f-value.result (_, c.f-value.ensures, c.key.ensures)
