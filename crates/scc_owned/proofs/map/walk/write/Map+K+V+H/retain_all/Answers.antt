use Rattle.std.proofs.Common.{◌≡◌, ◌∙◌, ap, ◌++◌, [], refl, length, drop, take, subst, append-nil}
use Rattle.scc_common.specs.Contents.{entries, waiting_of}
use Rattle.scc_common.specs.Pairs.{with_pair_value}
use Rattle.scc_common.specs.PairWalks.{CalledToWrite, Retains, ended}
use Rattle.scc_buckets.proofs.Placed.{drop-all}
use Rattle.scc_table.proofs.walks.Steps.{take-all}
use Rattle.scc_table.specs.Places.{spot_of}
use Rattle.scc_table.proofs.walks.Reach.{walk_spot}
use Rattle.scc_table.proofs.walks.Visits.{visited, kept-nearer, took-nearer, retains-kept, retains-removed, turn-here, turn-kept, turn-removed}
use Rattle.scc_table.proofs.relocations.AfterWrites.{waiting-write}
use Rattle.scc_table.proofs.walks.Spots.{first-spot, place-after, kept-spot, others-out, took-spot}
use Rattle.scc_owned.proofs.map.walk.write.Map+K+V+H.retain_all.Goals as goal

pub loop-at-init : goal.loop-at-init
loop-at-init g c =
    let start = first-spot c.args.self.now c.first_place-at.result c.first_place-at.ensures.place in
    record { callable = rw start.0 c.requires; within = start.1; buckets = refl; settings = refl; noted = refl; waiting = refl; calls = λ stay last r. rw start.0 (rw start.0 at r) }

pub visit-requires-clause-callable : goal.visit-requires-clause-callable
visit-requires-clause-callable g c = turn-here c.loop-at.self (spot_of c.loop-at.self c.in-Some.place) (rw c.in-Some.is at c.loop-at.invariant.callable)

pub next_place-at-requires : goal.next_place-at-requires
next_place-at-requires g c =
    let x = c.if-visit.ensures in
    let within = rw c.in-Some.is at c.loop-at.invariant.within in
    place-after c.loop-at.self c.in-Some.place x.0 x.1 c.visit.new.self x.4 (visited c.loop-at.self (spot_of c.loop-at.self c.in-Some.place) x.0 x.1 c.visit.new.self within x.2 x.4)

pub loop-at-smaller-then-visit : goal.loop-at-smaller-then-visit
loop-at-smaller-then-visit g c =
    let x = c.if-visit.ensures in
    let within = rw c.in-Some.is at c.loop-at.invariant.within in
    let v = visited c.loop-at.self (spot_of c.loop-at.self c.in-Some.place) x.0 x.1 c.visit.new.self within x.2 x.4 in
    let next = kept-spot c.loop-at.self c.in-Some.place x.0 x.1 c.visit.new.self x.4 v c.next_place-at.result c.next_place-at.ensures.place in
    rw c.in-Some.is (kept-nearer c.loop-at.self (spot_of c.loop-at.self c.in-Some.place) x.0 x.1 c.visit.new.self v (walk_spot c.visit.new.self c.next_place-at.result) within next.0)

pub loop-at-preserved-then-visit : goal.loop-at-preserved-then-visit
loop-at-preserved-then-visit g c =
    let x = c.if-visit.ensures in
    let within = rw c.in-Some.is at c.loop-at.invariant.within in
    let v = visited c.loop-at.self (spot_of c.loop-at.self c.in-Some.place) x.0 x.1 c.visit.new.self within x.2 x.4 in
    let next = kept-spot c.loop-at.self c.in-Some.place x.0 x.1 c.visit.new.self x.4 v c.next_place-at.result c.next_place-at.ensures.place in
    record {
      callable = turn-kept c.loop-at.self (spot_of c.loop-at.self c.in-Some.place) x.0 x.1 c.visit.new.self v (rw c.in-Some.is at c.loop-at.invariant.callable) (_, x.1, tt, x.3) (walk_spot c.visit.new.self c.next_place-at.result) next.0;
      within = next.1;
      buckets = v.buckets ∙ c.loop-at.invariant.buckets;
      settings = v.settings ∙ c.loop-at.invariant.settings;
      noted = v.noted ∙ c.loop-at.invariant.noted;
      waiting = (ap waiting_of x.4 ∙ waiting-write with_pair_value c.loop-at.self c.in-Some.place x.1) ∙ c.loop-at.invariant.waiting;
      calls = retains-kept c.args.f.now (entries c.args.self.now) c.loop-at.self (spot_of c.loop-at.self c.in-Some.place) c.loop-at.f c.visit.new.f x.0 x.1 c.visit.new.self v (rw c.in-Some.is at c.loop-at.invariant.calls) x.3 (walk_spot c.visit.new.self c.next_place-at.result) next.0;
    }

pub take_with_next-pair-requires : goal.take_with_next-pair-requires
take_with_next-pair-requires g c =
    let x = c.if-visit.ensures in
    let within = rw c.in-Some.is at c.loop-at.invariant.within in
    place-after c.loop-at.self c.in-Some.place x.0 x.1 c.visit.new.self x.4 (visited c.loop-at.self (spot_of c.loop-at.self c.in-Some.place) x.0 x.1 c.visit.new.self within x.2 x.4)

pub loop-at-smaller : goal.loop-at-smaller
loop-at-smaller g c =
    let x = c.if-visit.ensures in
    let within = rw c.in-Some.is at c.loop-at.invariant.within in
    let v = visited c.loop-at.self (spot_of c.loop-at.self c.in-Some.place) x.0 x.1 c.visit.new.self within x.2 x.4 in
    let d = c.take_with_next-pair.new.self in
    let next = took-spot c.loop-at.self c.in-Some.place x.0 x.1 c.visit.new.self x.4 v d c.take_with_next-pair.ensures.others c.take_with_next-pair.result.1 c.take_with_next-pair.ensures.next in
    rw c.in-Some.is (took-nearer c.loop-at.self (spot_of c.loop-at.self c.in-Some.place) x.0 x.1 c.visit.new.self v d (others-out c.loop-at.self c.in-Some.place x.0 x.1 c.visit.new.self x.4 v d c.take_with_next-pair.ensures.others) (walk_spot d c.take_with_next-pair.result.1) within next.0)

pub loop-at-preserved : goal.loop-at-preserved
loop-at-preserved g c =
    let x = c.if-visit.ensures in
    let within = rw c.in-Some.is at c.loop-at.invariant.within in
    let v = visited c.loop-at.self (spot_of c.loop-at.self c.in-Some.place) x.0 x.1 c.visit.new.self within x.2 x.4 in
    let d = c.take_with_next-pair.new.self in
    let others = others-out c.loop-at.self c.in-Some.place x.0 x.1 c.visit.new.self x.4 v d c.take_with_next-pair.ensures.others in
    let next = took-spot c.loop-at.self c.in-Some.place x.0 x.1 c.visit.new.self x.4 v d c.take_with_next-pair.ensures.others c.take_with_next-pair.result.1 c.take_with_next-pair.ensures.next in
    record {
      callable = turn-removed c.loop-at.self (spot_of c.loop-at.self c.in-Some.place) x.0 x.1 c.visit.new.self v (rw c.in-Some.is at c.loop-at.invariant.callable) (_, x.1, tt, x.3) d others (walk_spot d c.take_with_next-pair.result.1) next.0;
      within = next.1;
      buckets = others.buckets ∙ v.buckets ∙ c.loop-at.invariant.buckets;
      settings = others.settings ∙ v.settings ∙ c.loop-at.invariant.settings;
      noted = c.take_with_next-pair.ensures.noted ∙ v.noted ∙ c.loop-at.invariant.noted;
      waiting = c.take_with_next-pair.ensures.waiting ∙ (ap waiting_of x.4 ∙ waiting-write with_pair_value c.loop-at.self c.in-Some.place x.1) ∙ c.loop-at.invariant.waiting;
      calls = retains-removed c.args.f.now (entries c.args.self.now) c.loop-at.self (spot_of c.loop-at.self c.in-Some.place) c.loop-at.f c.visit.new.f x.0 x.1 c.visit.new.self v (rw c.in-Some.is at c.loop-at.invariant.calls) x.3 d others (walk_spot d c.take_with_next-pair.result.1) next.0;
    }

pub returns-clause-step : goal.returns-clause-step
returns-clause-step g c =
    let es = entries c.loop-at.self in
    let calls = rw c.in_default.is at c.loop-at.invariant.calls in
    let run : Retains (CalledToWrite g.F.FnMut) c.loop-at.f (drop (length es) es) [] c.loop-at.f = rw (drop-all es (length es) refl) ended in
    let front : take (length es) es ++ [] ≡ es = append-nil _ ∙ take-all es (length es) refl in
    (es, subst (λ z. Retains (CalledToWrite g.F.FnMut) c.args.f.now (entries c.args.self.now) z c.loop-at.f) front (calls [] c.loop-at.f run), record { exact = refl; buckets = c.loop-at.invariant.buckets; settings = c.loop-at.invariant.settings })
