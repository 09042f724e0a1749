use Rattle.std.proofs.Common.{◌≡◌, refl, true, false, length, suc, take}
use Rattle.scc_common.specs.Contents.{entries}
use Rattle.scc_common.specs.Walks.{ended}
use Rattle.scc_common.proofs.WalkLemmas.{callable-after, turn-first}
use Rattle.scc_buckets.proofs.Placed.{take-more}
use Rattle.scc_table.specs.Places.{IsPlace, index_of}
use Rattle.scc_table.proofs.walks.Reach.{all-taken, nearer, reached-at, reached-first, walk-ends, walk-more}
use Rattle.scc_owned.proofs.RuledPairs.{keep-taken}
use Rattle.scc_owned.proofs.ruled_index.walk.RuledIndex+K+V+R+H.walk_while.Goals as goal

pub loop-at-init : goal.loop-at-init
loop-at-init g c =
    let start = reached-first c.args.self.now c.first_place-at.result c.first_place-at.ensures.place in
    record { within = start.1; kept = rw start.0 tt; walks = rw start.0 ended }

pub f-requires : goal.f-requires
f-requires g c =
    let es = entries c.args.self.now in
    let i = index_of c.args.self.now c.in-Some.place in
    let here = c.pair_at.ensures.pair in
    let kept = keep-taken g.R.Rule.holds es i _ here (rw c.in-Some.is at c.loop-at.invariant.kept) c.pair_at.ensures.kept in
    let callable = rw (take-more es i _ here) at (c.requires (suc i) kept) in
    turn-first _ _ (callable-after g.F.FnMut (take i es) _ callable (rw c.in-Some.is at c.loop-at.invariant.walks)) _ _ refl

pub returns-then-not-f-clause-walks : goal.returns-then-not-f-clause-walks
returns-then-not-f-clause-walks g c =
    let es = entries c.args.self.now in
    let i = index_of c.args.self.now c.in-Some.place in
    let here = c.pair_at.ensures.pair in
    let walks = rw c.in-Some.is at c.loop-at.invariant.walks in (
      suc i,
      keep-taken g.R.Rule.holds es i _ here (rw c.in-Some.is at c.loop-at.invariant.kept) c.pair_at.ensures.kept,
      rw (take-more es i _ here) (walk-ends (take i es) _ walks record { key = _; value = _; shows = refl; called = c.if-not-f.ensures }),
      λ yes. absurd (let z : false ≡ true = yes in cc),
    )

pub loop-at-smaller : goal.loop-at-smaller
loop-at-smaller g c =
    let within : IsPlace c.args.self.now c.in-Some.place = rw c.in-Some.is at c.loop-at.invariant.within in
    let next = reached-at c.args.self.now (suc (index_of c.args.self.now c.in-Some.place)) c.next_place-at.result c.next_place-at.ensures.place in
    rw c.in-Some.is (nearer c.args.self.now c.in-Some.place c.next_place-at.result within next.0)

pub loop-at-preserved : goal.loop-at-preserved
loop-at-preserved g c =
    let m = c.args.self.now in
    let es = entries m in
    let i = index_of m c.in-Some.place in
    let here = c.pair_at.ensures.pair in
    let next = reached-at m (suc i) c.next_place-at.result c.next_place-at.ensures.place in
    record {
      within = next.1;
      kept = rw next.0 (keep-taken g.R.Rule.holds es i _ here (rw c.in-Some.is at c.loop-at.invariant.kept) c.pair_at.ensures.kept);
      walks = rw (next.0, take-more es i _ here) (walk-more (take i es) (rw c.in-Some.is at c.loop-at.invariant.walks) record { key = _; value = _; shows = refl; called = c.if-not-f.ensures });
    }

pub returns-clause-walks : goal.returns-clause-walks
returns-clause-walks g c =
    let es = entries c.args.self.now in
    (length es, rw c.in_default.is at c.loop-at.invariant.kept, rw c.in_default.is at c.loop-at.invariant.walks, λ _. all-taken es (length es) refl)
