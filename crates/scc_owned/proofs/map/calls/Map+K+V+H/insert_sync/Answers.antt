use Rattle.std.proofs.Common.{refl, rules, subst}
use Rattle.scc_common.specs.Contents.{entries}
use Rattle.scc_buckets.proofs.Lookups.{find-position, find-position_none, finds-added}
use Rattle.scc_owned.proofs.CallerLemmas.{finds-rearranged}
use Rattle.scc_table.specs.Relocations.{RelocatesTwo}
use Rattle.scc_owned.proofs.map.calls.Map+K+V+H.insert_sync.Goals as goal
use Rattle.scc_owned.proofs.map.calls.Map+K+V+H.insert_sync.Goals.{in-Ok, in-Err}

pub returns-in-Some-clause-step : goal.returns-in-Some-clause-step
returns-in-Some-clause-step g c =
    (
    let f = find-position (g.K.PartialEq.eq c.args.k) (entries c.self.inside.table) _ c.in-Some.ensures.place.found in
    (refl, rw (← c.self.view_is, f.2) (search rules), record { exact = refl; buckets = refl; settings = refl }))

pub returns-in-Some-clause-succeeds : goal.returns-in-Some-clause-succeeds
returns-in-Some-clause-succeeds g c =
    (
    let f = find-position (g.K.PartialEq.eq c.args.k) (entries c.self.inside.table) _ c.in-Some.ensures.place.found in
    λ none room. let here = rw (← c.self.view_is, f.2) at none in cc)

pub returns-in-Some-clause-array : goal.returns-in-Some-clause-array
returns-in-Some-clause-array g c =
    record {
      growth = (search rules);
      kept = (search rules);
      once = (search rules);
      due = (
          let f = find-position (g.K.PartialEq.eq c.args.k) (entries c.self.inside.table) _ c.in-Some.ensures.place.found in
          λ none. let here = rw (← c.self.view_is, f.2) at none in cc);
      first = (search rules);
      noted = (search rules);
      relocates = (search rules);
      two = (search rules);
      waiting = (search rules);
    }

pub returns-after-insert_new-clause-step : goal.returns-after-insert_new-clause-step
returns-after-insert_new-clause-step g c =
    (
    let none = find-position_none (g.K.PartialEq.eq c.args.k) (entries c.self.inside.table) c.in-None.ensures.place in
    elim c.match-insert_new.branch [
      | in-Ok w ↦ rw (w.result-is, ← c.self.view_is) (none, w.in-Ok.ensures.ok.holds)
      | in-Err w ↦ rw (w.result-is, ← c.self.view_is) (w.in-Err.ensures.err.0, none, w.in-Err.ensures.err.1, w.in-Err.ensures.full)
    ])

pub returns-after-insert_new-clause-succeeds : goal.returns-after-insert_new-clause-succeeds
returns-after-insert_new-clause-succeeds g c =
    (
    elim c.match-insert_new.branch [
      | in-Ok w ↦ rw w.result-is (λ none room. refl)
      | in-Err w ↦ λ none room. absurd (w.in-Err.ensures.full (rw c.self.view_is room))
    ])

pub returns-after-insert_new-clause-finds : goal.returns-after-insert_new-clause-finds
returns-after-insert_new-clause-finds g c =
    (
    elim c.match-insert_new.branch [
      | in-Ok w ↦ rw (w.result-is, ← c.self.view_is) (finds-added g.met.K.Eq.laws (entries c.self.inside.table) (entries c.insert_new.new.self) (c.args.k, c.args.v) w.in-Ok.ensures.ok.holds.same w.in-Ok.ensures.unique)
      | in-Err w ↦ rw w.result-is tt
    ])

pub returns-after-insert_new-clause-same : goal.returns-after-insert_new-clause-same
returns-after-insert_new-clause-same g c =
    (
    elim c.match-insert_new.branch [
      | in-Ok w ↦ rw w.result-is tt
      | in-Err w ↦ rw (w.result-is, ← c.self.view_is) (finds-rearranged g.met.K.Eq.laws c.self.inside.table c.insert_new.new.self w.in-Err.ensures.err.1 c.insert_new.ensures.unique)
    ])

pub returns-after-insert_new-clause-array : goal.returns-after-insert_new-clause-array
returns-after-insert_new-clause-array g c =
    record {
      growth = (rw (← c.self.view_is) c.insert_new.ensures.growth);
      kept = (λ _. rw (← c.self.view_is) c.insert_new.ensures.kept);
      once = (rw (← c.self.view_is) c.insert_new.ensures.once);
      due = (λ _. rw (← c.self.view_is) c.insert_new.ensures.due);
      first = (λ _.
          elim c.match-insert_new.branch [
            | in-Ok w ↦ rw (w.result-is, ← c.self.view_is) w.in-Ok.ensures.first
            | in-Err w ↦ rw w.result-is tt
          ]);
      noted = (
          let none = find-position_none (g.K.PartialEq.eq c.args.k) (entries c.self.inside.table) c.in-None.ensures.place in
          rw (← c.self.view_is, none) (λ there. absurd (search rules)));
      relocates = (λ _. rw (← c.self.view_is) record { fewer = c.insert_new.ensures.fewer; less = c.insert_new.ensures.less; most = c.insert_new.ensures.most; grown = c.insert_new.ensures.grown; array = c.insert_new.ensures.array });
      two = (
          elim c.match-insert_new.branch [
            | in-Ok w ↦ λ _. rw (w.result-is, ← c.self.view_is) (subst (λ h. RelocatesTwo h c.self.inside.table c.insert_new.new.self) c.hash-hash.ensures record { not_waiting = w.in-Ok.ensures.not_waiting; exact = w.in-Ok.ensures.exact; moved = w.in-Ok.ensures.moved; drained = w.in-Ok.ensures.drained })
            | in-Err w ↦ λ _. rw w.result-is tt
          ]);
      waiting = (
          let none = find-position_none (g.K.PartialEq.eq c.args.k) (entries c.self.inside.table) c.in-None.ensures.place in
          rw (← c.self.view_is, none) (λ there. absurd (search rules)));
    }
