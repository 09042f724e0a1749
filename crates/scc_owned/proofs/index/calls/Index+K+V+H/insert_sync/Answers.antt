use Rattle.std.proofs.Common.{refl, rules, subst}
use Rattle.scc_common.specs.Contents.{entries}
use Rattle.scc_owned.proofs.AfterSteps.{finds-unchanged}
use Rattle.scc_buckets.proofs.Lookups.{find-position, find-position_none, finds-added}
use Rattle.scc_table.specs.Relocations.{RelocatesTwo}
use Rattle.scc_owned.proofs.index.calls.Index+K+V+H.insert_sync.Goals as goal
use Rattle.scc_owned.proofs.index.calls.Index+K+V+H.insert_sync.Goals.{in-Ok, in-Err}

pub returns-in-Some-clause-step : goal.returns-in-Some-clause-step
returns-in-Some-clause-step g c =
    (
    let f = find-position (g.K.PartialEq.eq c.args.k) (entries c.self.inside.table) _ c.in-Some.ensures.place.found in
    (refl, rw (← c.self.view_is, f.2) (search rules), record { exact = refl; buckets = refl; settings = refl }))

pub returns-in-Some-clause-array : goal.returns-in-Some-clause-array
returns-in-Some-clause-array g c =
    record {
      growth = (search rules);
      kept = (
          let f = find-position (g.K.PartialEq.eq c.args.k) (entries c.self.inside.table) _ c.in-Some.ensures.place.found in
          λ none. let here = rw (← c.self.view_is, f.2) at none in cc);
      once = (search rules);
      due = (
          let f = find-position (g.K.PartialEq.eq c.args.k) (entries c.self.inside.table) _ c.in-Some.ensures.place.found in
          λ none. let here = rw (← c.self.view_is, f.2) at none in cc);
      first = (search rules);
      noted = (search rules);
      relocates = (
          let f = find-position (g.K.PartialEq.eq c.args.k) (entries c.self.inside.table) _ c.in-Some.ensures.place.found in
          λ none. let here = rw (← c.self.view_is, f.2) at none in cc);
      two = (search rules);
      waiting = (search rules);
    }

pub returns-after-insert_made-clause-step : goal.returns-after-insert_made-clause-step
returns-after-insert_made-clause-step g c =
    (
    let none = find-position_none (g.K.PartialEq.eq c.args.k) (entries c.self.inside.table) c.in-None.ensures.place in
    elim c.match-insert_made.branch [
      | in-Ok w ↦ rw (w.result-is, ← c.self.view_is) (none, w.in-Ok.ensures.ok.holds)
      | in-Err w ↦ rw (w.result-is, ← c.self.view_is) (w.in-Err.ensures.err.0, none, w.in-Err.ensures.err.1)
    ])

pub returns-after-insert_made-clause-finds : goal.returns-after-insert_made-clause-finds
returns-after-insert_made-clause-finds g c =
    (
    elim c.match-insert_made.branch [
      | in-Ok w ↦ rw (w.result-is, ← c.self.view_is) (finds-added g.met.K.Eq.laws (entries c.self.inside.table) (entries c.insert_made.new.self) (c.args.k, c.args.v) w.in-Ok.ensures.ok.holds.same w.in-Ok.ensures.unique)
      | in-Err w ↦ rw w.result-is tt
    ])

pub returns-after-insert_made-clause-same : goal.returns-after-insert_made-clause-same
returns-after-insert_made-clause-same g c =
    (
    elim c.match-insert_made.branch [
      | in-Ok w ↦ rw w.result-is tt
      | in-Err w ↦ rw (w.result-is, ← c.self.view_is) (finds-unchanged g.met.K.Eq.laws c.self.inside.table c.insert_made.new.self w.in-Err.ensures.err.1)
    ])

pub returns-after-insert_made-clause-array : goal.returns-after-insert_made-clause-array
returns-after-insert_made-clause-array g c =
    record {
      growth = (rw (← c.self.view_is) c.insert_made.ensures.growth);
      kept = (λ _. rw (← c.self.view_is) c.insert_made.ensures.kept);
      once = (rw (← c.self.view_is) c.insert_made.ensures.once);
      due = (λ _. rw (← c.self.view_is) c.insert_made.ensures.due);
      first = (λ _.
          elim c.match-insert_made.branch [
            | in-Ok w ↦ rw (w.result-is, ← c.self.view_is) w.in-Ok.ensures.first
            | in-Err w ↦ rw w.result-is tt
          ]);
      noted = (
          let none = find-position_none (g.K.PartialEq.eq c.args.k) (entries c.self.inside.table) c.in-None.ensures.place in
          rw (← c.self.view_is, none) (λ there. absurd (search rules)));
      relocates = (λ _. rw (← c.self.view_is) record { fewer = c.insert_made.ensures.fewer; less = c.insert_made.ensures.less; most = c.insert_made.ensures.most; grown = c.insert_made.ensures.grown; array = c.insert_made.ensures.array });
      two = (
          elim c.match-insert_made.branch [
            | in-Ok w ↦ λ _. rw (w.result-is, ← c.self.view_is) (subst (λ h. RelocatesTwo h c.self.inside.table c.insert_made.new.self) c.hash-hash.ensures record { not_waiting = w.in-Ok.ensures.not_waiting; exact = w.in-Ok.ensures.exact; moved = w.in-Ok.ensures.moved; drained = w.in-Ok.ensures.drained })
            | in-Err w ↦ λ _. rw w.result-is tt
          ]);
      waiting = (
          let none = find-position_none (g.K.PartialEq.eq c.args.k) (entries c.self.inside.table) c.in-None.ensures.place in
          rw (← c.self.view_is, none) (λ there. absurd (search rules)));
    }
