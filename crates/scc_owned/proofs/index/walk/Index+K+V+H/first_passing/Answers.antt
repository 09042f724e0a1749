use Rattle.std.proofs.Common.{refl, length, take, suc}
use Rattle.scc_common.specs.Contents.{entries}
use Rattle.scc_table.specs.Places.{IsPlace, index_of}
use Rattle.scc_common.proofs.WalkLemmas.{turn-first, turn-others}
use Rattle.scc_common.specs.PairWalks.{ended}
use Rattle.scc_buckets.proofs.Placed.{drop-here, take-more}
use Rattle.scc_table.proofs.walks.Steps.{declines-more, take-all}
use Rattle.scc_table.proofs.walks.Reach.{nearer, reached-at, reached-first}
use Rattle.scc_owned.proofs.index.walk.Index+K+V+H.first_passing.Goals as goal

pub loop-at-init : goal.loop-at-init
loop-at-init g c =
    let start = reached-first c.args.self.now c.first_place-at.result c.first_place-at.ensures.place in
    record { callable = rw start.0 c.requires; within = start.1; declines = rw start.0 ended }

pub p-requires : goal.p-requires
p-requires g c =
    let m = c.args.self.now in
    let callable = rw c.in-Some.is at c.loop-at.invariant.callable in
    let here = c.pair_at.ensures in
    turn-first _ _ (rw (drop-here (entries m) (index_of m c.in-Some.place) _ here) at callable) _ _ refl

pub returns-then-p-clause-place : goal.returns-then-p-clause-place
returns-then-p-clause-place g c =
    let within : IsPlace c.args.self.now c.in-Some.place = rw c.in-Some.is at c.loop-at.invariant.within in
    let declines = rw c.in-Some.is at c.loop-at.invariant.declines in
    let here = c.pair_at.ensures in
    (within, record { pair = _; here = here; first = record { before = c.loop-at.p; last = c.p.new.self; declines = declines; passes = record { key = _; value = _; shows = refl; called = c.if-p.ensures } } })

pub loop-at-smaller : goal.loop-at-smaller
loop-at-smaller g c =
    let within : IsPlace c.args.self.now c.in-Some.place = rw c.in-Some.is at c.loop-at.invariant.within in
    let next = reached-at c.args.self.now (suc (index_of c.args.self.now c.in-Some.place)) c.next_place-at.result c.next_place-at.ensures.place in
    rw c.in-Some.is (nearer c.args.self.now c.in-Some.place c.next_place-at.result within next.0)

pub loop-at-preserved : goal.loop-at-preserved
loop-at-preserved g c =
    let m = c.args.self.now in
    let declines = rw c.in-Some.is at c.loop-at.invariant.declines in
    let callable = rw c.in-Some.is at c.loop-at.invariant.callable in
    let here = c.pair_at.ensures in
    let next = reached-at m (suc (index_of m c.in-Some.place)) c.next_place-at.result c.next_place-at.ensures.place in
    record {
      callable = rw next.0 (turn-others _ _ (rw (drop-here (entries m) (index_of m c.in-Some.place) _ here) at callable) record { key = _; value = _; shows = refl; called = c.if-p.ensures });
      within = next.1;
      declines = rw (next.0, take-more (entries m) (index_of m c.in-Some.place) _ here) (declines-more (take (index_of m c.in-Some.place) (entries m)) declines record { key = _; value = _; shows = refl; called = c.if-p.ensures });
    }

pub returns-clause-place : goal.returns-clause-place
returns-clause-place g c =
    let declines = rw c.in_default.is at c.loop-at.invariant.declines in
    rw (take-all (entries c.args.self.now) (length (entries c.args.self.now)) refl) at declines
