use Rattle.std.proofs.Common.{Some, ap, refl, rules, subst, sym, ◌∙◌}
use Rattle.scc_buckets.proofs.KeyWrites.{grows-same}
use Rattle.scc_buckets.proofs.Lookups.{find-position_none}
use Rattle.scc_common.specs.Contents.{entries}
use Rattle.scc_common.specs.Pairs.{with_pair_value}
use Rattle.scc_table.proofs.places.Entries.{noted-write}
use Rattle.scc_table.proofs.relocations.AfterWrites.{waiting-write}
use Rattle.scc_owned.proofs.CallerLemmas.{finds-set_value}
use Rattle.scc_owned.proofs.Found.{found-equal, found-here, found-written}
use Rattle.scc_owned.proofs.RuledInsertions.{added-finds, added-array, refused-same, refused-array}
use Rattle.scc_owned.proofs.RuledUpdates.{met-there}
use Rattle.scc_owned.proofs.ruled_map.calls.RuledMap+K+V+R+H.upsert_sync.Goals as goal

pub write_at-requires-clause-within : goal.write_at-requires-clause-within
write_at-requires-clause-within g c = let at = rw c.self.view_is at c.in-Some.ensures.place in at.within

pub write_at-requires-clause-kept : goal.write_at-requires-clause-kept
write_at-requires-clause-kept g c = λ p got.
    let at = rw c.self.view_is at c.in-Some.ensures.place in
    g.met.R.Rule.alike c.args.k p.0 c.args.v (found-equal g.K.PartialEq.eq _ _ _ at p got) c.requires

pub returns-in-Some-clause-step : goal.returns-in-Some-clause-step
returns-in-Some-clause-step g c =
    let at = rw c.self.view_is at c.in-Some.ensures in
    let old = c.write_at.ensures.old in
    let here = found-here g.K.PartialEq.eq c.args.self.now c.args.k c.in-Some.place at.place old.0 old.1 ∙ ap (λ x. Some (old.0.0, x)) (sym old.2) in
    (old.0.0, here, rw c.write_at.ensures.new (found-written g.K.PartialEq.eq _ _ _ at.place g.met.K.Eq.laws at.unique c.args.v))

pub returns-in-Some-clause-finds : goal.returns-in-Some-clause-finds
returns-in-Some-clause-finds g c =
    let at = rw c.self.view_is at c.in-Some.ensures in
    let old = c.write_at.ensures.old in (
      old.0.0,
      found-equal g.K.PartialEq.eq _ _ _ at.place old.0 old.1,
      finds-set_value g.met.K.Eq.laws _ _ _ old.0 c.args.v (found-here g.K.PartialEq.eq _ _ _ at.place old.0 old.1) (rw c.write_at.ensures.new (found-written g.K.PartialEq.eq _ _ _ at.place g.met.K.Eq.laws at.unique c.args.v)),
    )

pub returns-in-Some-clause-array : goal.returns-in-Some-clause-array
returns-in-Some-clause-array g c =
    let m = c.args.self.now in
    let at = rw c.self.view_is at c.in-Some.ensures in
    let old = c.write_at.ensures.old in
    let here = found-here g.K.PartialEq.eq m c.args.k c.in-Some.place at.place old.0 old.1 in
    let same = (found-written g.K.PartialEq.eq m c.args.k c.in-Some.place at.place g.met.K.Eq.laws at.unique c.args.v).buckets in
    rw c.write_at.ensures.new record {
      growth = grows-same m _ same;
      kept = λ none. let found = rw here at none in cc;
      once = λ _. same;
      due = λ none. let found = rw here at none in cc;
      first = λ none. let found = rw here at none in cc;
      noted = λ _. noted-write with_pair_value m c.in-Some.place c.args.v;
      relocates = λ none. let found = rw here at none in cc;
      two = λ none. let found = rw here at none in cc;
      waiting = λ _. waiting-write with_pair_value m c.in-Some.place c.args.v;
    }

pub returns-in-Some-clause-old : goal.returns-in-Some-clause-old
returns-in-Some-clause-old g c =
    let at = rw c.self.view_is at c.in-Some.ensures.place in
    let old = c.write_at.ensures.old in
    subst (λ v. g.R.Rule.holds c.args.k v) (sym old.2) (met-there g.K.PartialEq.eq g.R.Rule.holds g.met.R.Rule.alike g.met.K.Eq.laws.symm _ c.args.k c.in-Some.place at old.0 old.1 old.3).1

pub insert_new-requires-clause-absent : goal.insert_new-requires-clause-absent
insert_new-requires-clause-absent g c = let none = find-position_none (g.K.PartialEq.eq c.args.k) (entries c.self.inside.table) c.in-None.ensures.place in rw c.self.view_is at none

pub returns-in-Ok-clause-step : goal.returns-in-Ok-clause-step
returns-in-Ok-clause-step g c =
    let missed = find-position_none (g.K.PartialEq.eq c.args.k) (entries c.self.inside.table) c.in-None.ensures.place in
    let none = rw c.self.view_is at missed in
    (none, c.in-Ok.ensures.ok.holds)

pub returns-in-Ok-clause-finds : goal.returns-in-Ok-clause-finds
returns-in-Ok-clause-finds g c =
    (c.args.k, g.met.K.Eq.laws.refl c.args.k, added-finds g.met.K.Eq.laws _ c.args.self.now c.insert_new.new.self c.args.k c.args.v _ _ c.in-Ok.ensures)

pub returns-in-Ok-clause-array : goal.returns-in-Ok-clause-array
returns-in-Ok-clause-array g c =
    let missed = find-position_none (g.K.PartialEq.eq c.args.k) (entries c.self.inside.table) c.in-None.ensures.place in
    let none = rw c.self.view_is at missed in
    added-array g.met.K.Eq.laws _ c.args.self.now c.insert_new.new.self c.args.k c.args.v none _ _ _ _ refl c.in-Ok.ensures

pub returns-in-Err-clause-step : goal.returns-in-Err-clause-step
returns-in-Err-clause-step g c =
    let missed = find-position_none (g.K.PartialEq.eq c.args.k) (entries c.self.inside.table) c.in-None.ensures.place in
    let none = rw c.self.view_is at missed in
    (c.in-Err.ensures.refused, none, c.in-Err.ensures.rests.rests, c.in-Err.ensures.full)

pub returns-in-Err-clause-succeeds : goal.returns-in-Err-clause-succeeds
returns-in-Err-clause-succeeds g c =
    let missed = find-position_none (g.K.PartialEq.eq c.args.k) (entries c.self.inside.table) c.in-None.ensures.place in
    let none = rw c.self.view_is at missed in
    rw none (λ there. absurd (search rules))

pub returns-in-Err-clause-same : goal.returns-in-Err-clause-same
returns-in-Err-clause-same g c =
    refused-same g.met.K.Eq.laws _ c.args.self.now c.insert_new.new.self c.args.k c.args.v _ c.in-Err.ensures

pub returns-in-Err-clause-array : goal.returns-in-Err-clause-array
returns-in-Err-clause-array g c =
    let missed = find-position_none (g.K.PartialEq.eq c.args.k) (entries c.self.inside.table) c.in-None.ensures.place in
    let none = rw c.self.view_is at missed in
    refused-array g.met.K.Eq.laws _ c.args.self.now c.insert_new.new.self c.args.k c.args.v none _ _ _ refl c.in-Err.ensures
