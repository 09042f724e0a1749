use Rattle.std.proofs.Common.{rules}
use Rattle.scc_owned.proofs.Inserting.{both-ok}
use Rattle.scc_owned.proofs.ruled_map.locked.methods.Entry+K+V+R+H.insert_entry.Goals as goal

pub returns-in-Vacant : goal.returns-in-Vacant
returns-in-Vacant g c =
    let put = c.insert_entry.ensures in
    record {
      entry = (rw c.in-Vacant.is put.inserted);
      refused = (rw c.in-Vacant.is put.refused);
      vacant = (search rules);
      full = (rw c.in-Vacant.is put.full);
      growth = (rw c.in-Vacant.is put.growth);
      relocates = (rw c.in-Vacant.is (both-ok _ _ c.insert_entry.result put.relocates put.two));
      unique = put.unique;
    }
