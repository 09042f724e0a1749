use Rattle.std.proofs.Common.{subst, rules}
use Rattle.std.proofs.lemmas.Result.{on_err_weaker, on_ok_weaker}
use Rattle.scc_common.specs.Contents.{entries, key_hash}
use Rattle.scc_common.specs.Steps.{GrowsForInsertion}
use Rattle.scc_table.specs.Relocations.{Relocates, RelocatesTwo}
use Rattle.scc_buckets.proofs.Lookups.{position-find_none}
use Rattle.scc_owned.proofs.Inserting.{both-err, on-ok4}
use Rattle.scc_owned.proofs.ruled_map.places.RuledMap+K+V+R+H.insert_new.Goals as goal

pub insert_new-requires-clause-absent : goal.insert_new-requires-clause-absent
insert_new-requires-clause-absent g c = rw c.new.ensures (position-find_none (g.K.PartialEq.eq c.args.k) (entries c.self.inside.table) (rw (← c.self.view_is) at c.requires.absent))

pub returns : goal.returns
returns g c =
    let r = c.insert_new.result in
    let e = rw c.new.ensures at c.insert_new.ensures in
    let a = c.self.inside.table in
    let d = c.insert_new.new.self in
    let grows : GrowsForInsertion (key_hash g.H.BuildHasher g.H.Hasher.Hasher g.K.Hash.hash_input a) (λ (q : g.row.K.Denot × g.row.V.Denot). q.0) a c.args.k d = record { growth = e.growth; due = e.due; kept = e.kept } in
    let relocates : Relocates a d = record { fewer = e.fewer; less = e.less; most = e.most; grown = e.grown; array = e.array } in
    let err = both-err _ _ r e.err in
    rw c.pair_back.ensures record {
      ok = rw (← c.self.view_is) e.ok;
      refused = err.0;
      rests = rw (← c.self.view_is) (on_err_weaker r (λ rests. record { rests = rests; grows = grows; once = e.once; relocates = relocates; unique = e.unique }) err.1);
      full = rw (← c.self.view_is) e.full;
      growth = rw (← c.self.view_is) (on_ok_weaker r (λ first. record { grows = grows; first = first; once = e.once }) e.first);
      relocates = rw (← c.self.view_is) relocates;
      two = (
          let own = rw (← c.self.view_is) at c.requires.hashed in
          rw (← c.self.view_is)
          (on-ok4 r (λ not_waiting exact moved drained. subst (λ h. RelocatesTwo h a d) own record { not_waiting = not_waiting; exact = exact; moved = moved; drained = drained }) e.not_waiting e.exact e.moved e.drained));
      unique = (search rules);
    }
