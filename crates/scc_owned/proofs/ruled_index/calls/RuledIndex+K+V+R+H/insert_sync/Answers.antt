use Rattle.std.proofs.Common.{refl, rules}
use Rattle.scc_common.specs.Contents.{entries}
use Rattle.scc_buckets.proofs.Lookups.{find-position, find-position_none}
use Rattle.scc_owned.proofs.RuledInsertions.{added-array, added-finds, added-version, refused-array_version, refused-version}
use Rattle.scc_owned.proofs.ruled_index.calls.RuledIndex+K+V+R+H.insert_sync.Goals as goal

pub insert_new-requires-clause-absent : goal.insert_new-requires-clause-absent
insert_new-requires-clause-absent g c = let none = find-position_none (g.K.PartialEq.eq c.args.k) (entries c.self.inside.table) c.in-None.ensures.place in rw c.self.view_is at none

pub returns-in-Some-clause-step : goal.returns-in-Some-clause-step
returns-in-Some-clause-step g c =
    (
    let f = find-position (g.K.PartialEq.eq c.args.k) (entries c.self.inside.table) _ c.in-Some.ensures.place.found in
    (refl, rw (← c.self.view_is, f.2) (search rules), record { exact = refl; buckets = refl; settings = refl }))

pub returns-in-Some-clause-array : goal.returns-in-Some-clause-array
returns-in-Some-clause-array g c =
    let f = find-position (g.K.PartialEq.eq c.args.k) (entries c.self.inside.table) _ c.in-Some.ensures.place.found in
    record {
      growth = (search rules);
      kept = λ none. let here = rw (← c.self.view_is, f.2) at none in cc;
      once = (search rules);
      due = λ none. let here = rw (← c.self.view_is, f.2) at none in cc;
      first = (search rules);
      noted = (search rules);
      relocates = λ none. let here = rw (← c.self.view_is, f.2) at none in cc;
      two = (search rules);
      waiting = (search rules);
    }

pub returns-in-Ok-clause-step : goal.returns-in-Ok-clause-step
returns-in-Ok-clause-step g c =
    let missed = find-position_none (g.K.PartialEq.eq c.args.k) (entries c.self.inside.table) c.in-None.ensures.place in
    let none = rw c.self.view_is at missed in
    added-version g.met.K.Eq.laws _ c.args.self.now c.insert_new.new.self c.args.k c.args.v none _ c.in-Ok.ensures

pub returns-in-Ok-clause-finds : goal.returns-in-Ok-clause-finds
returns-in-Ok-clause-finds g c =
    added-finds g.met.K.Eq.laws _ c.args.self.now c.insert_new.new.self c.args.k c.args.v _ _ c.in-Ok.ensures

pub returns-in-Ok-clause-array : goal.returns-in-Ok-clause-array
returns-in-Ok-clause-array g c =
    let missed = find-position_none (g.K.PartialEq.eq c.args.k) (entries c.self.inside.table) c.in-None.ensures.place in
    let none = rw c.self.view_is at missed in
    added-array g.met.K.Eq.laws _ c.args.self.now c.insert_new.new.self c.args.k c.args.v none _ _ _ _ refl c.in-Ok.ensures

pub returns-in-Err-clause-step : goal.returns-in-Err-clause-step
returns-in-Err-clause-step g c =
    let missed = find-position_none (g.K.PartialEq.eq c.args.k) (entries c.self.inside.table) c.in-None.ensures.place in
    let none = rw c.self.view_is at missed in
    refused-version g.met.K.Eq.laws _ c.args.self.now c.insert_new.new.self c.args.k c.args.v none _ c.in-Err.ensures

pub returns-in-Err-clause-array : goal.returns-in-Err-clause-array
returns-in-Err-clause-array g c =
    let missed = find-position_none (g.K.PartialEq.eq c.args.k) (entries c.self.inside.table) c.in-None.ensures.place in
    let none = rw c.self.view_is at missed in
    refused-array_version g.met.K.Eq.laws _ c.args.self.now c.insert_new.new.self c.args.k c.args.v none _ _ _ refl c.in-Err.ensures
