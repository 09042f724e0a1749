use Rattle.std.proofs.Common.{refl, rules, subst}
use Rattle.scc_common.specs.Contents.{entries}
use Rattle.scc_owned.proofs.AfterSteps.{finds-unchanged}
use Rattle.scc_buckets.proofs.Lookups.{find-position, find-position_none, finds-added}
use Rattle.scc_table.specs.Relocations.{RelocatesTwo}
use Rattle.scc_owned.proofs.index.hinted.Index+K+V+H.insert_by_hint.Goals as goal
use Rattle.scc_owned.proofs.index.hinted.Index+K+V+H.insert_by_hint.Goals.{in-Ok-insert_made, in-Err-insert_made}

pub returns-in-Ok : goal.returns-in-Ok
returns-in-Ok g c =
    let f = find-position (g.K.PartialEq.eq c.args.k) (entries c.self.inside.table) _ c.in-Ok.ensures.found.found in
    record {
      step = (refl, rw (← c.self.view_is, f.2) (search rules), record { exact = refl; buckets = refl; settings = refl });
      finds = (search rules);
      same = (search rules);
      unique = (search rules);
      array = record {
        growth = (search rules);
        kept = λ none. let here = rw (← c.self.view_is, f.2) at none in cc;
        once = (search rules);
        due = λ none. let here = rw (← c.self.view_is, f.2) at none in cc;
        first = (search rules);
        noted = (search rules);
        relocates = λ none. let here = rw (← c.self.view_is, f.2) at none in cc;
        two = (search rules);
        waiting = (search rules);
      };
    }

pub returns-after-insert_made : goal.returns-after-insert_made
returns-after-insert_made g c =
    let none = find-position_none (g.K.PartialEq.eq c.args.k) (entries c.self.inside.table) c.in-Err.ensures.missed.1 in
    record {
      step = elim c.match-insert_made.branch [
        | in-Ok-insert_made w ↦ rw (w.result-is, ← c.self.view_is) (none, w.in-Ok-insert_made.ensures.ok.holds)
        | in-Err-insert_made w ↦ rw (w.result-is, ← c.self.view_is) (w.in-Err-insert_made.ensures.err.0, none, w.in-Err-insert_made.ensures.err.1)
      ];
      finds = elim c.match-insert_made.branch [
        | in-Ok-insert_made w ↦ rw (w.result-is, ← c.self.view_is) (finds-added g.met.K.Eq.laws (entries c.self.inside.table) (entries c.insert_made.new.self) (c.args.k, c.args.v) w.in-Ok-insert_made.ensures.ok.holds.same w.in-Ok-insert_made.ensures.unique)
        | in-Err-insert_made w ↦ rw w.result-is tt
      ];
      same = elim c.match-insert_made.branch [
        | in-Ok-insert_made w ↦ rw w.result-is tt
        | in-Err-insert_made w ↦ rw (w.result-is, ← c.self.view_is) (finds-unchanged g.met.K.Eq.laws c.self.inside.table c.insert_made.new.self w.in-Err-insert_made.ensures.err.1)
      ];
      unique = (search rules);
      array = record {
        growth = (rw (← c.self.view_is) c.insert_made.ensures.growth);
        kept = (λ _. rw (← c.self.view_is) c.insert_made.ensures.kept);
        once = (rw (← c.self.view_is) c.insert_made.ensures.once);
        due = (λ _. rw (← c.self.view_is) c.insert_made.ensures.due);
        first = (λ _.
            elim c.match-insert_made.branch [
              | in-Ok-insert_made w ↦ rw (w.result-is, ← c.self.view_is) w.in-Ok-insert_made.ensures.first
              | in-Err-insert_made w ↦ rw w.result-is tt
            ]);
        noted = rw (← c.self.view_is, none) (λ there. absurd (search rules));
        relocates = (λ _. rw (← c.self.view_is) record { fewer = c.insert_made.ensures.fewer; less = c.insert_made.ensures.less; most = c.insert_made.ensures.most; grown = c.insert_made.ensures.grown; array = c.insert_made.ensures.array });
        two = (
            elim c.match-insert_made.branch [
              | in-Ok-insert_made w ↦ λ _. rw (w.result-is, ← c.self.view_is) (subst (λ h. RelocatesTwo h c.self.inside.table c.insert_made.new.self) c.in-Err.ensures.missed.0 record { not_waiting = w.in-Ok-insert_made.ensures.not_waiting; exact = w.in-Ok-insert_made.ensures.exact; moved = w.in-Ok-insert_made.ensures.moved; drained = w.in-Ok-insert_made.ensures.drained })
              | in-Err-insert_made w ↦ λ _. rw w.result-is tt
            ]);
        waiting = rw (← c.self.view_is, none) (λ there. absurd (search rules));
      };
    }
