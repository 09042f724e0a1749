use Rattle.scc_owned.proofs.Inserting.{inserts-some, refuses-some}
use Rattle.scc_owned.proofs.locked.insertions.Entry+E+H.or_default.Goals as goal

pub returns : goal.returns
returns g c =
    let done = c.or_insert_with_key.ensures in
    record {
      entry = inserts-some g.E.Stored.lookups.made c.args.self c.or_insert_with_key.result done.entry (λ k v put. put.1);
      refused = refuses-some c.args.self c.or_insert_with_key.result done.refused (λ v put. put.1);
      vacant = done.vacant;
      full = done.full;
      growth = done.growth;
      relocates = done.relocates;
      unique = done.unique;
    }
