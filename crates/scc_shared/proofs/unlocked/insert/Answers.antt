use Rattle.std.proofs.Common.{inl, inr, refl}
use Rattle.scc_common.specs.Contents.{entries}
use Rattle.scc_shared.proofs.Copying.{answered-yes, answered-no}
use Rattle.scc_shared.proofs.Missing.{stands-nowhere}
use Rattle.scc_shared.proofs.unlocked.insert.Goals as goal

pub insert_into-requires-clause-absent : goal.insert_into-requires-clause-absent
insert_into-requires-clause-absent g c = stands-nowhere g.met.E.Stored.lawful (g.E.Key.PartialEq.eq c.args.key) (entries c.args.owned.now) c.in-None.ensures.place

pub returns-in-Some-clause-left : goal.returns-in-Some-clause-left
returns-in-Some-clause-left g c =
    let f = g.met.E.Stored.lawful.first (g.E.Key.PartialEq.eq c.args.key) (entries c.args.owned.now) _ c.in-Some.ensures.place.found in
    λ _. inl (f.0, f.1.found, refl)

pub returns-in-None-clause-made : goal.returns-in-None-clause-made
returns-in-None-clause-made g c = λ yes. (c.in-None.ensures.place, answered-yes c.insert_into.result c.is_ok.result c.is_ok.ensures.value c.insert_into.ensures.ok yes)

pub returns-in-None-clause-left : goal.returns-in-None-clause-left
returns-in-None-clause-left g c = λ no. inr (c.in-None.ensures.place, answered-no c.insert_into.result c.is_ok.result c.is_ok.ensures.value c.insert_into.ensures.rests no)
