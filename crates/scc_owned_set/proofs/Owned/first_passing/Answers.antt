use Rattle.std.proofs.Common.{refl, sym, length, take, suc, false, ◌∙◌}
use Rattle.scc_common.specs.Contents.{entries}
use Rattle.scc_buckets.proofs.Placed.{drop-here, take-more}
use Rattle.scc_common.proofs.WalkLemmas.{turn-first, turn-others}
use Rattle.scc_table.specs.Places.{IsPlace, index_of}
use Rattle.scc_table.proofs.walks.Reach.{all-taken, nearer, reached-at, reached-first}
use Rattle.scc_owned_set.specs.SetWalks.{declined_none}
use Rattle.scc_owned_set.proofs.Places.{declines-front, some-same}
use Rattle.scc_owned_set.proofs.Walks.{declines-more}
use Rattle.scc_owned_set.proofs.Owned.first_passing.Goals as goal

pub loop-at-init : goal.loop-at-init
loop-at-init g c =
    let start = reached-first c.args.self.now c.first_place-at.result c.first_place-at.ensures in
    record { callable = rw start.0 c.requires; within = start.1; declines = rw start.0 declined_none }

pub p-requires : goal.p-requires
p-requires g c =
    let m = c.args.self.now in
    let callable = rw c.in-Some.is at c.loop-at.invariant.callable in
    turn-first _ _ (rw (drop-here (entries m) (index_of m c.in-Some.place) _ c.key_at.ensures) at callable) _ refl

pub returns-then-p : goal.returns-then-p
returns-then-p g c =
    let m = c.args.self.now in
    let within : IsPlace m c.in-Some.place = rw c.in-Some.is at c.loop-at.invariant.within in
    let declines = rw c.in-Some.is at c.loop-at.invariant.declines in
    (within, λ k e. record { before = c.loop-at.p; last = c.p.new.self; declines = declines-front m c.in-Some.place declines; passes = record { shown = _; shows = some-same _ k (sym c.key_at.ensures ∙ e); called = c.if-p.ensures } })

pub loop-at-smaller : goal.loop-at-smaller
loop-at-smaller g c =
    let m = c.args.self.now in
    let within : IsPlace m c.in-Some.place = rw c.in-Some.is at c.loop-at.invariant.within in
    let next = reached-at m (suc (index_of m c.in-Some.place)) c.next_place-at.result c.next_place-at.ensures in
    rw c.in-Some.is (nearer m c.in-Some.place c.next_place-at.result within next.0)

pub loop-at-preserved : goal.loop-at-preserved
loop-at-preserved g c =
    let m = c.args.self.now in
    let declines = rw c.in-Some.is at c.loop-at.invariant.declines in
    let callable = rw c.in-Some.is at c.loop-at.invariant.callable in
    let next = reached-at m (suc (index_of m c.in-Some.place)) c.next_place-at.result c.next_place-at.ensures in
    record {
      callable = rw next.0 (turn-others _ _ (rw (drop-here (entries m) (index_of m c.in-Some.place) _ c.key_at.ensures) at callable) (false, refl, record { shown = _; shows = refl; called = c.if-p.ensures }));
      within = next.1;
      declines = rw (next.0, take-more (entries m) (index_of m c.in-Some.place) _ c.key_at.ensures) (declines-more (take (index_of m c.in-Some.place) (entries m)) declines record { shown = _; shows = refl; called = c.if-p.ensures });
    }

pub returns : goal.returns
returns g c =
    let declines = rw c.in_default.is at c.loop-at.invariant.declines in
    record { last = c.loop-at.p; declines = rw (all-taken (entries c.args.self.now) (length (entries c.args.self.now)) refl) at declines }
