use Rattle.std.proofs.Common.{◌≡◌, ◌∙◌, ◌++◌, [], refl, length, drop, take, subst, append-nil, suc}
use Rattle.scc_common.specs.Contents.{entries}
use Rattle.scc_table.specs.Places.{index_of}
use Rattle.scc_common.specs.Walks.{CalledOn}
use Rattle.scc_owned.specs.IndexWalks.{Retains, ended}
use Rattle.scc_buckets.proofs.Placed.{drop-all}
use Rattle.scc_table.proofs.walks.Steps.{take-all}
use Rattle.scc_table.proofs.walks.Reach.{nearer, reached-at, reached-first}
use Rattle.scc_owned.proofs.Visits.{took-next, took-nearer, retains-kept, retains-removed, turn-here, turn-kept, turn-removed}
use Rattle.scc_owned.proofs.index.walk.Index+K+V+H.retain_all.Goals as goal

pub loop-at-init : goal.loop-at-init
loop-at-init g c =
    let start = reached-first c.args.self.now c.first_place-at.result c.first_place-at.ensures.place in
    record { callable = rw start.0 c.requires; within = start.1; buckets = refl; settings = refl; noted = refl; waiting = refl; calls = λ stay last r. rw start.0 (rw start.0 at r) }

pub f-requires : goal.f-requires
f-requires g c =
    let within = rw c.in-Some.is at c.loop-at.invariant.within in
    turn-here c.loop-at.self c.in-Some.place _ within c.pair_at.ensures (rw c.in-Some.is at c.loop-at.invariant.callable) _ _ refl

pub loop-at-smaller-then-f : goal.loop-at-smaller-then-f
loop-at-smaller-then-f g c =
    let within = rw c.in-Some.is at c.loop-at.invariant.within in
    let next = reached-at c.loop-at.self (suc (index_of c.loop-at.self c.in-Some.place)) c.next_place-at.result c.next_place-at.ensures.place in
    rw c.in-Some.is (nearer c.loop-at.self c.in-Some.place c.next_place-at.result within next.0)

pub loop-at-preserved-then-f : goal.loop-at-preserved-then-f
loop-at-preserved-then-f g c =
    let m = c.loop-at.self in
    let within = rw c.in-Some.is at c.loop-at.invariant.within in
    let got = c.pair_at.ensures in
    let next = reached-at m (suc (index_of m c.in-Some.place)) c.next_place-at.result c.next_place-at.ensures.place in
    record {
      callable = turn-kept m c.in-Some.place _ within got (rw c.in-Some.is at c.loop-at.invariant.callable) (_, record { key = _; value = _; shows = refl; called = c.if-f.ensures }) c.next_place-at.result next.0;
      within = next.1;
      buckets = c.loop-at.invariant.buckets;
      settings = c.loop-at.invariant.settings;
      noted = c.loop-at.invariant.noted;
      waiting = c.loop-at.invariant.waiting;
      calls = retains-kept m c.in-Some.place _ within got c.args.f.now (entries c.args.self.now) c.loop-at.f c.f.new.self (rw c.in-Some.is at c.loop-at.invariant.calls) record { key = _; value = _; shows = refl; called = c.if-f.ensures } c.next_place-at.result next.0;
    }

pub loop-at-smaller : goal.loop-at-smaller
loop-at-smaller g c =
    let m = c.loop-at.self in
    let within = rw c.in-Some.is at c.loop-at.invariant.within in
    let d = c.take_with_next-at.new.self in
    let others = c.take_with_next-at.ensures.others in
    let next = took-next m c.in-Some.place _ within c.pair_at.ensures d others c.take_with_next-at.result c.take_with_next-at.ensures.next in
    rw c.in-Some.is (took-nearer m c.in-Some.place _ within c.pair_at.ensures d others c.take_with_next-at.result next.0)

pub loop-at-preserved : goal.loop-at-preserved
loop-at-preserved g c =
    let m = c.loop-at.self in
    let within = rw c.in-Some.is at c.loop-at.invariant.within in
    let got = c.pair_at.ensures in
    let d = c.take_with_next-at.new.self in
    let others = c.take_with_next-at.ensures.others in
    let next = took-next m c.in-Some.place _ within got d others c.take_with_next-at.result c.take_with_next-at.ensures.next in
    record {
      callable = turn-removed m c.in-Some.place _ within got (rw c.in-Some.is at c.loop-at.invariant.callable) (_, record { key = _; value = _; shows = refl; called = c.if-f.ensures }) d others c.take_with_next-at.result next.0;
      within = next.1;
      buckets = others.buckets ∙ c.loop-at.invariant.buckets;
      settings = others.settings ∙ c.loop-at.invariant.settings;
      noted = c.take_with_next-at.ensures.noted ∙ c.loop-at.invariant.noted;
      waiting = c.take_with_next-at.ensures.waiting ∙ c.loop-at.invariant.waiting;
      calls = retains-removed m c.in-Some.place _ within got c.args.f.now (entries c.args.self.now) c.loop-at.f c.f.new.self (rw c.in-Some.is at c.loop-at.invariant.calls) record { key = _; value = _; shows = refl; called = c.if-f.ensures } d others c.take_with_next-at.result next.0;
    }

pub returns-clause-step : goal.returns-clause-step
returns-clause-step g c =
    let es = entries c.loop-at.self in
    let calls = rw c.in_default.is at c.loop-at.invariant.calls in
    let run : Retains (CalledOn g.F.FnMut) c.loop-at.f (drop (length es) es) [] c.loop-at.f = rw (drop-all es (length es) refl) ended in
    let front : take (length es) es ++ [] ≡ es = append-nil _ ∙ take-all es (length es) refl in
    (es, subst (λ z. Retains (CalledOn g.F.FnMut) c.args.f.now (entries c.args.self.now) z c.loop-at.f) front (calls [] c.loop-at.f run), record { exact = refl; buckets = c.loop-at.invariant.buckets; settings = c.loop-at.invariant.settings })
