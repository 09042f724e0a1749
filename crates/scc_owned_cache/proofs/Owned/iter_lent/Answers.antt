use Rattle.std.proofs.Common.{◌≡◌, Some, refl, ap, true, false, length, suc}
use Rattle.std.specs.List.{slice_get}
use Rattle.scc_common.specs.Contents.{entries}
use Rattle.scc_table.specs.Places.{IsPlace, index_of}
use Rattle.scc_common.specs.Walks.{ended, stopped, went_on}
use Rattle.scc_common.proofs.WalkLemmas.{turn-first, turn-others}
use Rattle.scc_buckets.proofs.Placed.{drop-here, drop-all}
use Rattle.scc_table.proofs.walks.Reach.{nearer, reached-at, reached-first}
use Rattle.scc_owned_cache.proofs.Owned.iter_lent.Goals as goal

pub loop-at-init : goal.loop-at-init
loop-at-init g c =
    let start = reached-first c.args.self.now.contents c.first_place-at.result (rw (ap (λ x. x.contents) c.self.view_is) at c.first_place-at.ensures.place) in
    record { callable = rw start.0 c.requires; within = start.1; calls = λ b last r. rw start.0 at r }

pub entry_at-requires : goal.entry_at-requires
entry_at-requires g c =
    let within : IsPlace c.args.self.now.contents c.in-Some.place = rw c.in-Some.is at c.loop-at.invariant.within in
    rw (ap (λ x. x.contents) c.self.view_is) within

pub f-requires : goal.f-requires
f-requires g c =
    let m = c.args.self.now.contents in
    let callable = rw c.in-Some.is at c.loop-at.invariant.callable in
    let here : slice_get (entries m) (index_of m c.in-Some.place) ≡ Some (c.parts.result.0.now, c.parts.result.1.now) = rw (c.parts.ensures.key, c.parts.ensures.value) (rw (ap (λ x. x.contents) c.self.view_is) at c.entry_at.ensures.entry) in
    turn-first _ _ (rw (drop-here (entries m) (index_of m c.in-Some.place) _ here) at callable) c.parts.ensures.allowed _ _ refl

pub returns-then-not-f-clause-walks : goal.returns-then-not-f-clause-walks
returns-then-not-f-clause-walks g c =
    let m = c.args.self.now.contents in
    let calls = rw c.in-Some.is at c.loop-at.invariant.calls in
    let here : slice_get (entries m) (index_of m c.in-Some.place) ≡ Some (c.parts.result.0.now, c.parts.result.1.now) = rw (c.parts.ensures.key, c.parts.ensures.value) (rw (ap (λ x. x.contents) c.self.view_is) at c.entry_at.ensures.entry) in
    calls false _ (rw (drop-here (entries m) (index_of m c.in-Some.place) _ here) (stopped (record { key = _; value = _; shows = refl; called = c.if-not-f.ensures }, c.parts.ensures.allowed)))

pub loop-at-smaller : goal.loop-at-smaller
loop-at-smaller g c =
    let m = c.args.self.now.contents in
    let within : IsPlace m c.in-Some.place = rw c.in-Some.is at c.loop-at.invariant.within in
    let next = reached-at m (suc (index_of m c.in-Some.place)) c.next_place-at.result c.next_place-at.ensures in
    rw c.in-Some.is (nearer m c.in-Some.place c.next_place-at.result within next.0)

pub loop-at-preserved : goal.loop-at-preserved
loop-at-preserved g c =
    let m = c.args.self.now.contents in
    let calls = rw c.in-Some.is at c.loop-at.invariant.calls in
    let callable = rw c.in-Some.is at c.loop-at.invariant.callable in
    let here : slice_get (entries m) (index_of m c.in-Some.place) ≡ Some (c.parts.result.0.now, c.parts.result.1.now) = rw (c.parts.ensures.key, c.parts.ensures.value) (rw (ap (λ x. x.contents) c.self.view_is) at c.entry_at.ensures.entry) in
    let next = reached-at m (suc (index_of m c.in-Some.place)) c.next_place-at.result c.next_place-at.ensures in
    record {
      callable = rw next.0 (turn-others _ _ (rw (drop-here (entries m) (index_of m c.in-Some.place) _ here) at callable) record { key = _; value = _; shows = refl; called = c.if-not-f.ensures });
      within = next.1;
      calls = λ b last run. calls b last (rw (drop-here (entries m) (index_of m c.in-Some.place) _ here) (went_on (record { key = _; value = _; shows = refl; called = c.if-not-f.ensures }, c.parts.ensures.allowed) (rw next.0 at run)));
    }

pub returns-clause-walks : goal.returns-clause-walks
returns-clause-walks g c =
    let calls = rw c.in_default.is at c.loop-at.invariant.calls in
    let es = entries c.args.self.now.contents in
    calls true c.loop-at.f (rw (drop-all es (length es) refl) ended)

pub returns-then-not-f-clause-unique : goal.returns-then-not-f-clause-unique
returns-then-not-f-clause-unique g c = rw (← ap (λ x. x.contents) c.self.view_is) c.self.invariant.unique

pub returns-clause-unique : goal.returns-clause-unique
returns-clause-unique g c = rw (← ap (λ x. x.contents) c.self.view_is) c.self.invariant.unique
