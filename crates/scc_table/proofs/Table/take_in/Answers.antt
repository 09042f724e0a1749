use Rattle.std.proofs.Common.{rules}
use Rattle.scc_table.specs.Places.{spot_of}
use Rattle.scc_table.proofs.removals.OneList.{got-there, taken-exactly, taken-gone, taken-listed, taken-short, taken-unique}
use Rattle.scc_table.proofs.Table.take_in.Goals as goal

pub returns : goal.returns
returns g c =
    let now = c.args.self.now in
    let after = c.take_exactly.new.self in
    let q = spot_of now c.args.place in
    let taken = c.take_exactly.ensures.exact in
    record {
      entry = (search rules);
      others = (taken-exactly now after q c.requires taken);
      noted = taken.refused;
      waiting = (search rules);
      listed = (got-there now after q c.requires c.take_exactly.result c.take_exactly.ensures.entry);
      gone = (taken-gone now after q c.requires taken g.met.E.Key.Eq.laws g.E.Keyed.key_of c.take_exactly.result c.take_exactly.ensures.entry c.take_exactly.ensures.unique);
      short = (taken-short now after q c.requires taken);
      lists = (taken-listed now after q c.requires taken);
      owed = (search rules);
      exact = (search rules);
      unique = (taken-unique now after q c.requires taken g.met.E.Key.Eq.laws g.E.Keyed.key_of c.take_exactly.result c.take_exactly.ensures.entry c.take_exactly.ensures.unique);
    }
