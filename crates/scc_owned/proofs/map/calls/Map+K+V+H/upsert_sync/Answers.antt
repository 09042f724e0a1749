use Rattle.std.proofs.Common.{Some, sym, ap, ◌∙◌, rules, subst}
use Rattle.scc_common.specs.Contents.{entries}
use Rattle.scc_common.specs.Pairs.{with_pair_value}
use Rattle.scc_owned.proofs.CallerLemmas.{finds-rearranged, finds-set_value}
use Rattle.scc_owned.proofs.Found.{found-equal, found-here, found-written}
use Rattle.scc_buckets.proofs.Lookups.{find-position_none, finds-added}
use Rattle.scc_buckets.proofs.KeyWrites.{grows-same}
use Rattle.scc_table.proofs.places.Entries.{noted-write}
use Rattle.scc_table.specs.Relocations.{RelocatesTwo}
use Rattle.scc_table.proofs.relocations.AfterWrites.{waiting-write}
use Rattle.scc_owned.proofs.map.calls.Map+K+V+H.upsert_sync.Goals as goal
use Rattle.scc_owned.proofs.map.calls.Map+K+V+H.upsert_sync.Goals.{in-Ok, in-Err}

pub returns-in-Some-clause-step : goal.returns-in-Some-clause-step
returns-in-Some-clause-step g c =
    let at = rw c.self.view_is at c.in-Some.ensures in
    let v = c.value_mut_at.ensures.value in
    let here = found-here g.K.PartialEq.eq c.args.self.now c.args.k c.in-Some.place at.place v.0 v.1 ∙ ap (λ x. Some (v.0.0, x)) (sym (c.replace.ensures.value ∙ v.2)) in
    (v.0.0, here, rw c.replace.ensures.after (found-written g.K.PartialEq.eq _ _ _ at.place g.met.K.Eq.laws at.unique c.args.v))

pub returns-in-Some-clause-finds : goal.returns-in-Some-clause-finds
returns-in-Some-clause-finds g c =
    let at = rw c.self.view_is at c.in-Some.ensures in
    let v = c.value_mut_at.ensures.value in (
      v.0.0,
      found-equal g.K.PartialEq.eq _ _ _ at.place v.0 v.1,
      finds-set_value g.met.K.Eq.laws _ _ _ v.0 c.args.v (found-here g.K.PartialEq.eq _ _ _ at.place v.0 v.1) (rw c.replace.ensures.after (found-written g.K.PartialEq.eq _ _ _ at.place g.met.K.Eq.laws at.unique c.args.v)),
    )

pub returns-in-Some-clause-unique : goal.returns-in-Some-clause-unique
returns-in-Some-clause-unique g c = c.value_mut_at.ensures.unique c.replace.new.dest

pub returns-in-Some-clause-array : goal.returns-in-Some-clause-array
returns-in-Some-clause-array g c =
    let m = c.args.self.now in
    let at = rw c.self.view_is at c.in-Some.ensures in
    let v = c.value_mut_at.ensures.value in
    let here = found-here g.K.PartialEq.eq m c.args.k c.in-Some.place at.place v.0 v.1 in
    let same = (found-written g.K.PartialEq.eq m c.args.k c.in-Some.place at.place g.met.K.Eq.laws at.unique c.replace.new.dest).buckets in
    record {
      growth = grows-same m _ same;
      kept = λ none. let found = rw here at none in cc;
      once = λ _. same;
      due = λ none. let found = rw here at none in cc;
      first = λ none. let found = rw here at none in cc;
      noted = λ _. noted-write with_pair_value m c.in-Some.place c.replace.new.dest;
      relocates = λ none. let found = rw here at none in cc;
      two = λ none. let found = rw here at none in cc;
      waiting = λ _. waiting-write with_pair_value m c.in-Some.place c.replace.new.dest;
    }

pub returns-after-insert_new-clause-step : goal.returns-after-insert_new-clause-step
returns-after-insert_new-clause-step g c =
    (
    let none = find-position_none (g.K.PartialEq.eq c.args.k) (entries c.self.inside.table) c.in-None.ensures.place in
    elim c.match-insert_new.branch [
      | in-Ok w ↦ rw (w.result-is, ← c.self.view_is) (none, w.in-Ok.ensures.ok.holds)
      | in-Err w ↦ rw (w.result-is, ← c.self.view_is) (w.in-Err.ensures.err.0, none, w.in-Err.ensures.err.1, w.in-Err.ensures.full)
    ])

pub returns-after-insert_new-clause-succeeds : goal.returns-after-insert_new-clause-succeeds
returns-after-insert_new-clause-succeeds g c =
    (
    let none = find-position_none (g.K.PartialEq.eq c.args.k) (entries c.self.inside.table) c.in-None.ensures.place in
    rw (← c.self.view_is, none) (λ there. absurd (search rules)))

pub returns-after-insert_new-clause-finds : goal.returns-after-insert_new-clause-finds
returns-after-insert_new-clause-finds g c =
    (
    elim c.match-insert_new.branch [
      | in-Ok w ↦ rw (w.result-is, ← c.self.view_is) (c.args.k, g.met.K.Eq.laws.refl c.args.k, finds-added g.met.K.Eq.laws (entries c.self.inside.table) (entries c.insert_new.new.self) (c.args.k, c.args.v) w.in-Ok.ensures.ok.holds.same w.in-Ok.ensures.unique)
      | in-Err w ↦ rw w.result-is tt
    ])

pub returns-after-insert_new-clause-same : goal.returns-after-insert_new-clause-same
returns-after-insert_new-clause-same g c =
    (
    elim c.match-insert_new.branch [
      | in-Ok w ↦ rw w.result-is tt
      | in-Err w ↦ rw (w.result-is, ← c.self.view_is) (finds-rearranged g.met.K.Eq.laws c.self.inside.table c.insert_new.new.self w.in-Err.ensures.err.1 c.insert_new.ensures.unique)
    ])

pub returns-after-insert_new-clause-array : goal.returns-after-insert_new-clause-array
returns-after-insert_new-clause-array g c =
    record {
      growth = (rw (← c.self.view_is) c.insert_new.ensures.growth);
      kept = (λ _. rw (← c.self.view_is) c.insert_new.ensures.kept);
      once = (rw (← c.self.view_is) c.insert_new.ensures.once);
      due = (λ _. rw (← c.self.view_is) c.insert_new.ensures.due);
      first = (
          elim c.match-insert_new.branch [
            | in-Ok w ↦ λ _. rw (w.result-is, ← c.self.view_is) w.in-Ok.ensures.first
            | in-Err w ↦ λ _. rw w.result-is tt
          ]);
      noted = (
          let none = find-position_none (g.K.PartialEq.eq c.args.k) (entries c.self.inside.table) c.in-None.ensures.place in
          rw (← c.self.view_is, none) (λ there. absurd (search rules)));
      relocates = (λ _. rw (← c.self.view_is) record { fewer = c.insert_new.ensures.fewer; less = c.insert_new.ensures.less; most = c.insert_new.ensures.most; grown = c.insert_new.ensures.grown; array = c.insert_new.ensures.array });
      two = (
          elim c.match-insert_new.branch [
            | in-Ok w ↦ λ _. rw (w.result-is, ← c.self.view_is) (subst (λ h. RelocatesTwo h c.self.inside.table c.insert_new.new.self) c.hash-hash.ensures record { not_waiting = w.in-Ok.ensures.not_waiting; exact = w.in-Ok.ensures.exact; moved = w.in-Ok.ensures.moved; drained = w.in-Ok.ensures.drained })
            | in-Err w ↦ λ _. rw w.result-is tt
          ]);
      waiting = (
          let none = find-position_none (g.K.PartialEq.eq c.args.k) (entries c.self.inside.table) c.in-None.ensures.place in
          rw (← c.self.view_is, none) (λ there. absurd (search rules)));
    }

pub value_mut_at-requires : goal.value_mut_at-requires
value_mut_at-requires g c = let found = rw c.self.view_is at c.in-Some.ensures.place in found.within
