use Rattle.std.proofs.Common.{rules, refl, subst, ℕ, ◌≡◌, Bool}
use Rattle.scc_common.specs.Contents.{Contents, entries}
use Rattle.scc_common.specs.Steps.{Prepares}
use Rattle.scc_buckets.proofs.Resizes.{absent-permuted, rests-resizes}
use Rattle.scc_table.specs.Marks.{MarksPreparation}
use Rattle.scc_owned.proofs.Owned.find_or_make_room.Goals as goal
use Rattle.scc_owned.proofs.Owned.find_or_make_room.Goals.{in-Ok, in-Err}

for_hash : {E K S : Type 0} {hash : K → ℕ} {key : E → K} {m n : Contents E S} {h i : ℕ} → h ≡ i → Prepares hash key m h n → Prepares hash key m i n
for_hash {E} {K} {S} {hash} {key} {m} {n} e room = subst (λ x. Prepares hash key m x n) e room

marks_for : {E K S : Type 0} {hash : K → ℕ} {key : E → K} {m n : Contents E S} {h i : ℕ} → h ≡ i → MarksPreparation hash key m h n → MarksPreparation hash key m i n
marks_for {E} {K} {S} {hash} {key} {m} {n} e marks = subst (λ x. MarksPreparation hash key m x n) e marks

pub returns-in-Some-clause-room : goal.returns-in-Some-clause-room
returns-in-Some-clause-room g c =
    let f = g.met.E.Stored.lawful.first (g.E.Key.PartialEq.eq c.args.k.now) (entries c.self.inside.table) _ c.in-Some.ensures.place.found in
    record {
      present = (search rules);
      ok = (λ none. let here = rw (← c.self.view_is, f.1.found) at none in cc);
      marks = (λ none. let here = rw (← c.self.view_is, f.1.found) at none in cc);
      err = (search rules);
      same = (search rules);
      settings = (search rules);
    }

pub returns-in-Some-clause-found : goal.returns-in-Some-clause-found
returns-in-Some-clause-found g c = rw (← c.self.view_is) c.in-Some.ensures.place

pub returns-after-prepare-clause-room : goal.returns-after-prepare-clause-room
returns-after-prepare-clause-room g c =
    let none = g.met.E.Stored.lawful.missing (g.E.Key.PartialEq.eq c.args.k.now) (entries c.self.inside.table) c.in-None.ensures.place in
    record {
      present = rw (← c.self.view_is, none) (λ there. absurd (search rules));
      ok = elim c.match-prepare.branch [
        | in-Ok w ↦ λ _. rw (w.result-is, ← c.self.view_is) (for_hash c.hash-hash.ensures (w.in-Ok.ensures.ok refl))
        | in-Err w ↦ λ _. rw w.result-is tt
      ];
      marks = λ _. rw (← c.self.view_is) (marks_for c.hash-hash.ensures (c.prepare.ensures.marks refl));
      err = elim c.match-prepare.branch [
        | in-Ok w ↦ rw w.result-is tt
        | in-Err w ↦ rw (w.result-is, ← c.self.view_is) (none, w.in-Err.ensures.err)
      ];
      same = elim c.match-prepare.branch [
        | in-Ok w ↦ rw w.result-is tt
        | in-Err w ↦ rw (w.result-is, ← c.self.view_is) w.in-Err.ensures.same
      ];
      settings = rw (← c.self.view_is) c.prepare.ensures.settings;
    }

pub returns-after-prepare-clause-found : goal.returns-after-prepare-clause-found
returns-after-prepare-clause-found g c =
    let test : g.row.E.Denot → Bool = λ e. g.E.Key.PartialEq.eq c.args.k.now (g.E.Keyed.key_of e) in
    let t = c.self.inside.table in
    let d = c.prepare.new.self in
    elim c.match-prepare.branch [
      | in-Ok w ↦
          let gone = absent-permuted test (entries t) (entries d) (rests-resizes t d (w.in-Ok.ensures.ok refl).rests).same c.in-None.ensures.place in
          let none = g.met.E.Stored.lawful.missing (g.E.Key.PartialEq.eq c.args.k.now) (entries d) gone in
          rw w.result-is none
      | in-Err w ↦ rw w.result-is tt
    ]
