use Rattle.scc_owned.proofs.Inserting.{inserts-this, refuses-this}
use Rattle.scc_owned.proofs.locked.insertions.Entry+E+H.or_insert.Goals as goal

pub returns : goal.returns
returns g c =
    let done = c.or_insert_with_key.ensures in
    record {
      entry = inserts-this g.E.Stored.lookups.made c.args.self c.or_insert_with_key.result done.entry (λ k v put. put.1);
      refused = refuses-this c.args.self c.or_insert_with_key.result done.refused (λ v put. put.1);
      vacant = done.vacant;
      full = done.full;
      growth = done.growth;
      relocates = done.relocates;
      unique = done.unique;
    }
