use Rattle.std.proofs.Common.{refl, length, take, suc}
use Rattle.scc_common.specs.Contents.{entries}
use Rattle.scc_common.specs.PairWalks.{ended}
use Rattle.scc_buckets.proofs.Placed.{take-more}
use Rattle.scc_table.specs.Places.{IsPlace, index_of}
use Rattle.scc_table.proofs.walks.Steps.{declines-more, take-all}
use Rattle.scc_table.proofs.walks.Reach.{nearer, reached-at, reached-first}
use Rattle.scc_owned.proofs.RuledPairs.{keep-taken}
use Rattle.scc_owned.proofs.ruled_map.walk.RuledMap+K+V+R+H.first_passing.Goals as goal

pub loop-at-init : goal.loop-at-init
loop-at-init g c =
    let start = reached-first c.args.self.now c.first_place-at.result c.first_place-at.ensures.place in
    record { within = start.1; kept = rw start.0 tt; declines = rw start.0 ended }

pub p-requires : goal.p-requires
p-requires g c = c.requires c.loop-at.p _ _ c.pair_at.ensures.kept

pub returns-then-p-clause-place : goal.returns-then-p-clause-place
returns-then-p-clause-place g c =
    let es = entries c.args.self.now in
    let i = index_of c.args.self.now c.in-Some.place in
    let here = c.pair_at.ensures.pair in (
      rw c.in-Some.is at c.loop-at.invariant.within,
      record { pair = _; here = here; first = record { before = c.loop-at.p; last = c.p.new.self; declines = rw c.in-Some.is at c.loop-at.invariant.declines; passes = record { key = _; value = _; shows = refl; called = c.if-p.ensures } } },
      keep-taken g.R.Rule.holds es i _ here (rw c.in-Some.is at c.loop-at.invariant.kept) c.pair_at.ensures.kept,
    )

pub loop-at-smaller : goal.loop-at-smaller
loop-at-smaller g c =
    let within : IsPlace c.args.self.now c.in-Some.place = rw c.in-Some.is at c.loop-at.invariant.within in
    let next = reached-at c.args.self.now (suc (index_of c.args.self.now c.in-Some.place)) c.next_place-at.result c.next_place-at.ensures.place in
    rw c.in-Some.is (nearer c.args.self.now c.in-Some.place c.next_place-at.result within next.0)

pub loop-at-preserved : goal.loop-at-preserved
loop-at-preserved g c =
    let m = c.args.self.now in
    let es = entries m in
    let i = index_of m c.in-Some.place in
    let here = c.pair_at.ensures.pair in
    let next = reached-at m (suc i) c.next_place-at.result c.next_place-at.ensures.place in
    record {
      within = next.1;
      kept = rw next.0 (keep-taken g.R.Rule.holds es i _ here (rw c.in-Some.is at c.loop-at.invariant.kept) c.pair_at.ensures.kept);
      declines = rw (next.0, take-more es i _ here) (declines-more (take i es) (rw c.in-Some.is at c.loop-at.invariant.declines) record { key = _; value = _; shows = refl; called = c.if-p.ensures });
    }

pub returns-clause-place : goal.returns-clause-place
returns-clause-place g c =
    let es = entries c.args.self.now in
    let declines = rw c.in_default.is at c.loop-at.invariant.declines in
    let kept = rw c.in_default.is at c.loop-at.invariant.kept in
    (rw (take-all es (length es) refl) at kept, rw (take-all es (length es) refl) at declines)
