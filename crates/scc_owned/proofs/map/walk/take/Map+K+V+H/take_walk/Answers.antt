use Rattle.std.proofs.Common.{◌≡◌, ◌∙◌, ◌++◌, ◌∷◌, [], sym, ap, refl, length, drop, take, subst, append-nil, append_assoc, arith, true, Ok}
use Rattle.scc_common.specs.Contents.{entries, waiting_of}
use Rattle.scc_common.specs.Pairs.{with_pair_value}
use Rattle.scc_common.specs.PairWalks.{CalledToWrite, Takes, ended}
use Rattle.scc_buckets.proofs.Placed.{drop-all}
use Rattle.scc_table.proofs.walks.Steps.{take-all}
use Rattle.scc_table.specs.Places.{spot_of}
use Rattle.scc_table.proofs.walks.Reach.{walk_spot}
use Rattle.scc_table.proofs.walks.Takes.{takes-refused, takes-kept, takes-kept_last, takes-took, takes-took_last}
use Rattle.scc_table.proofs.walks.Visits.{visited, kept-nearer, took-nearer, turn-here, turn-kept, turn-removed}
use Rattle.scc_table.proofs.relocations.AfterWrites.{waiting-write}
use Rattle.scc_table.proofs.walks.Spots.{first-spot, place-after, kept-spot, pair-out, others-out, took-spot}
use Rattle.scc_owned.proofs.map.walk.take.Map+K+V+H.take_walk.Goals as goal

pub loop-at-init : goal.loop-at-init
loop-at-init g c =
    let start = first-spot c.args.self.now c.first_place-at.result (rw c.self.view_is at c.first_place-at.ensures.place) in
    record { callable = rw start.0 c.requires; within = start.1; buckets = refl; settings = refl; noted = refl; waiting = refl; room = omega arith; calls = ([], sym (append-nil _), λ stay next r last run. rw start.0 (rw start.0 at run)) }

pub returns-in-Err-clause-step : goal.returns-in-Err-clause-step
returns-in-Err-clause-step g c =
    let within = rw c.in-Some.is at c.loop-at.invariant.within in
    let calls = rw c.in-Some.is at c.loop-at.invariant.calls in (
      entries c.loop-at.self,
      calls.0,
      takes-refused c.args.f.now (entries c.args.self.now) c.loop-at.self (spot_of c.loop-at.self c.in-Some.place) c.loop-at.f calls.0 calls.2 within _,
      c.in-Err.ensures.pairs ∙ calls.1,
      record { exact = refl; buckets = c.loop-at.invariant.buckets; settings = c.loop-at.invariant.settings },
    )

pub visit-requires-clause-callable : goal.visit-requires-clause-callable
visit-requires-clause-callable g c = turn-here c.loop-at.self (spot_of c.loop-at.self c.in-Some.place) (rw c.in-Some.is at c.loop-at.invariant.callable)

pub next_place-at-requires : goal.next_place-at-requires
next_place-at-requires g c =
    let x = c.in-Keep.ensures in
    let within = rw c.in-Some.is at c.loop-at.invariant.within in
    place-after c.loop-at.self c.in-Some.place x.0 x.1 c.visit.new.self x.4 (visited c.loop-at.self (spot_of c.loop-at.self c.in-Some.place) x.0 x.1 c.visit.new.self within x.2 x.4)

pub loop-at-smaller-in-Keep : goal.loop-at-smaller-in-Keep
loop-at-smaller-in-Keep g c =
    let x = c.in-Keep.ensures in
    let within = rw c.in-Some.is at c.loop-at.invariant.within in
    let v = visited c.loop-at.self (spot_of c.loop-at.self c.in-Some.place) x.0 x.1 c.visit.new.self within x.2 x.4 in
    let next = kept-spot c.loop-at.self c.in-Some.place x.0 x.1 c.visit.new.self x.4 v c.next_place-at.result c.next_place-at.ensures.place in
    rw c.in-Some.is (kept-nearer c.loop-at.self (spot_of c.loop-at.self c.in-Some.place) x.0 x.1 c.visit.new.self v (walk_spot c.visit.new.self c.next_place-at.result) within next.0)

pub loop-at-preserved-in-Keep : goal.loop-at-preserved-in-Keep
loop-at-preserved-in-Keep g c =
    let x = c.in-Keep.ensures in
    let within = rw c.in-Some.is at c.loop-at.invariant.within in
    let calls = rw c.in-Some.is at c.loop-at.invariant.calls in
    let v = visited c.loop-at.self (spot_of c.loop-at.self c.in-Some.place) x.0 x.1 c.visit.new.self within x.2 x.4 in
    let next = kept-spot c.loop-at.self c.in-Some.place x.0 x.1 c.visit.new.self x.4 v c.next_place-at.result c.next_place-at.ensures.place in
    record {
      callable = turn-kept c.loop-at.self (spot_of c.loop-at.self c.in-Some.place) x.0 x.1 c.visit.new.self v (rw c.in-Some.is at c.loop-at.invariant.callable) (_, x.1, tt, x.3) (walk_spot c.visit.new.self c.next_place-at.result) next.0;
      within = next.1;
      buckets = v.buckets ∙ c.loop-at.invariant.buckets;
      settings = v.settings ∙ c.loop-at.invariant.settings;
      noted = v.noted ∙ c.loop-at.invariant.noted;
      waiting = (ap waiting_of x.4 ∙ waiting-write with_pair_value c.loop-at.self c.in-Some.place x.1) ∙ c.loop-at.invariant.waiting;
      room = omega (arith, c.loop-at.invariant.room, c.reserve_one.ensures.capacity);
      calls = (calls.0, c.reserve_one.ensures.pairs ∙ calls.1, takes-kept c.args.f.now (entries c.args.self.now) c.loop-at.self (spot_of c.loop-at.self c.in-Some.place) c.loop-at.f calls.0 calls.2 c.visit.new.f x.0 x.1 c.visit.new.self v x.3 (walk_spot c.visit.new.self c.next_place-at.result) next.0);
    }

pub take_into-at-requires-clause-within : goal.take_into-at-requires-clause-within
take_into-at-requires-clause-within g c =
    let x = c.in-Take.ensures in
    let within = rw c.in-Some.is at c.loop-at.invariant.within in
    place-after c.loop-at.self c.in-Some.place x.0 x.1 c.visit.new.self x.4 (visited c.loop-at.self (spot_of c.loop-at.self c.in-Some.place) x.0 x.1 c.visit.new.self within x.2 x.4)

pub loop-at-smaller : goal.loop-at-smaller
loop-at-smaller g c =
    let x = c.in-Take.ensures in
    let within = rw c.in-Some.is at c.loop-at.invariant.within in
    let v = visited c.loop-at.self (spot_of c.loop-at.self c.in-Some.place) x.0 x.1 c.visit.new.self within x.2 x.4 in
    let d = c.take_into-at.new.self in
    let others = others-out c.loop-at.self c.in-Some.place x.0 x.1 c.visit.new.self x.4 v d c.take_into-at.ensures.others in
    let next = took-spot c.loop-at.self c.in-Some.place x.0 x.1 c.visit.new.self x.4 v d c.take_into-at.ensures.others c.take_into-at.result c.take_into-at.ensures.next in
    rw c.in-Some.is (took-nearer c.loop-at.self (spot_of c.loop-at.self c.in-Some.place) x.0 x.1 c.visit.new.self v d others (walk_spot d c.take_into-at.result) within next.0)

pub loop-at-preserved : goal.loop-at-preserved
loop-at-preserved g c =
    let x = c.in-Take.ensures in
    let within = rw c.in-Some.is at c.loop-at.invariant.within in
    let calls = rw c.in-Some.is at c.loop-at.invariant.calls in
    let v = visited c.loop-at.self (spot_of c.loop-at.self c.in-Some.place) x.0 x.1 c.visit.new.self within x.2 x.4 in
    let d = c.take_into-at.new.self in
    let others = others-out c.loop-at.self c.in-Some.place x.0 x.1 c.visit.new.self x.4 v d c.take_into-at.ensures.others in
    let out = c.take_into-at.ensures.taken in
    let pair = pair-out c.loop-at.self c.in-Some.place x.0 x.1 c.visit.new.self x.4 v out.0 out.1 in
    let next = took-spot c.loop-at.self c.in-Some.place x.0 x.1 c.visit.new.self x.4 v d c.take_into-at.ensures.others c.take_into-at.result c.take_into-at.ensures.next in
    record {
      callable = turn-removed c.loop-at.self (spot_of c.loop-at.self c.in-Some.place) x.0 x.1 c.visit.new.self v (rw c.in-Some.is at c.loop-at.invariant.callable) (_, x.1, tt, x.3) d others (walk_spot d c.take_into-at.result) next.0;
      within = next.1;
      buckets = others.buckets ∙ v.buckets ∙ c.loop-at.invariant.buckets;
      settings = others.settings ∙ v.settings ∙ c.loop-at.invariant.settings;
      noted = c.take_into-at.ensures.noted ∙ v.noted ∙ c.loop-at.invariant.noted;
      waiting = c.take_into-at.ensures.waiting ∙ (ap waiting_of x.4 ∙ waiting-write with_pair_value c.loop-at.self c.in-Some.place x.1) ∙ c.loop-at.invariant.waiting;
      room = omega (arith, c.loop-at.invariant.room, c.reserve_one.ensures.capacity, c.take_into-at.ensures.capacity);
      calls = (
        calls.0 ++ (x.0.0, x.1) ∷ [],
        out.2 ∙ ap (λ z. g.L.Sink.pairs c.reserve_one.new.self ++ z ∷ []) pair ∙ ap (λ z. z ++ (x.0.0, x.1) ∷ []) (c.reserve_one.ensures.pairs ∙ calls.1) ∙ append_assoc (g.L.Sink.pairs c.args.taken.now) calls.0 _,
        takes-took c.args.f.now (entries c.args.self.now) c.loop-at.self (spot_of c.loop-at.self c.in-Some.place) c.loop-at.f calls.0 calls.2 c.visit.new.f x.0 x.1 c.visit.new.self v d others x.3 (walk_spot d c.take_into-at.result) next.0,
      );
    }

pub returns-in-KeepStop-clause-step : goal.returns-in-KeepStop-clause-step
returns-in-KeepStop-clause-step g c =
    let x = c.in-KeepStop.ensures in
    let within = rw c.in-Some.is at c.loop-at.invariant.within in
    let calls = rw c.in-Some.is at c.loop-at.invariant.calls in
    let v = visited c.loop-at.self (spot_of c.loop-at.self c.in-Some.place) x.0 x.1 c.visit.new.self within x.2 x.4 in (
      entries c.visit.new.self,
      calls.0,
      takes-kept_last c.args.f.now (entries c.args.self.now) c.loop-at.self (spot_of c.loop-at.self c.in-Some.place) c.loop-at.f calls.0 calls.2 c.visit.new.f x.0 x.1 c.visit.new.self v x.3,
      c.reserve_one.ensures.pairs ∙ calls.1,
      record { exact = refl; buckets = v.buckets ∙ c.loop-at.invariant.buckets; settings = v.settings ∙ c.loop-at.invariant.settings },
    )

pub take_into-requires-clause-within : goal.take_into-requires-clause-within
take_into-requires-clause-within g c =
    let x = c.in-TakeStop.ensures in
    let within = rw c.in-Some.is at c.loop-at.invariant.within in
    place-after c.loop-at.self c.in-Some.place x.0 x.1 c.visit.new.self x.4 (visited c.loop-at.self (spot_of c.loop-at.self c.in-Some.place) x.0 x.1 c.visit.new.self within x.2 x.4)

pub returns-in-TakeStop-clause-step : goal.returns-in-TakeStop-clause-step
returns-in-TakeStop-clause-step g c =
    let x = c.in-TakeStop.ensures in
    let within = rw c.in-Some.is at c.loop-at.invariant.within in
    let calls = rw c.in-Some.is at c.loop-at.invariant.calls in
    let v = visited c.loop-at.self (spot_of c.loop-at.self c.in-Some.place) x.0 x.1 c.visit.new.self within x.2 x.4 in
    let d = c.take_into.new.self in
    let others = others-out c.loop-at.self c.in-Some.place x.0 x.1 c.visit.new.self x.4 v d c.take_into.ensures.others in
    let out = c.take_into.ensures.taken in
    let pair = pair-out c.loop-at.self c.in-Some.place x.0 x.1 c.visit.new.self x.4 v out.0 out.1 in (
      entries d,
      calls.0 ++ (x.0.0, x.1) ∷ [],
      takes-took_last c.args.f.now (entries c.args.self.now) c.loop-at.self (spot_of c.loop-at.self c.in-Some.place) c.loop-at.f calls.0 calls.2 c.visit.new.f x.0 x.1 c.visit.new.self v d others x.3,
      out.2 ∙ ap (λ z. g.L.Sink.pairs c.reserve_one.new.self ++ z ∷ []) pair ∙ ap (λ z. z ++ (x.0.0, x.1) ∷ []) (c.reserve_one.ensures.pairs ∙ calls.1) ∙ append_assoc (g.L.Sink.pairs c.args.taken.now) calls.0 _,
      record { exact = refl; buckets = others.buckets ∙ v.buckets ∙ c.loop-at.invariant.buckets; settings = others.settings ∙ v.settings ∙ c.loop-at.invariant.settings },
    )

pub returns-clause-step : goal.returns-clause-step
returns-clause-step g c =
    let es = entries c.loop-at.self in
    let calls = rw c.in_default.is at c.loop-at.invariant.calls in
    let run : Takes (CalledToWrite g.F.FnMut) c.loop-at.f (drop (length es) es) [] [] (Ok true) c.loop-at.f = rw (drop-all es (length es) refl) ended in
    let front : take (length es) es ++ [] ≡ es = append-nil _ ∙ take-all es (length es) refl in
    let all = subst (λ z. Takes (CalledToWrite g.F.FnMut) c.args.f.now (entries c.args.self.now) z (calls.0 ++ []) (Ok true) c.loop-at.f) front (calls.2 [] [] (Ok true) c.loop-at.f run) in
    (es, calls.0, subst (λ z. Takes (CalledToWrite g.F.FnMut) c.args.f.now (entries c.args.self.now) es z (Ok true) c.loop-at.f) (append-nil calls.0) all, calls.1, record { exact = refl; buckets = c.loop-at.invariant.buckets; settings = c.loop-at.invariant.settings })

pub returns-in-KeepStop-clause-noted : goal.returns-in-KeepStop-clause-noted
returns-in-KeepStop-clause-noted g c =
    let x = c.in-KeepStop.ensures in
    let within = rw c.in-Some.is at c.loop-at.invariant.within in
    let v = visited c.loop-at.self (spot_of c.loop-at.self c.in-Some.place) x.0 x.1 c.visit.new.self within x.2 x.4 in
    v.noted ∙ c.loop-at.invariant.noted

pub returns-in-TakeStop-clause-noted : goal.returns-in-TakeStop-clause-noted
returns-in-TakeStop-clause-noted g c =
    let x = c.in-TakeStop.ensures in
    let within = rw c.in-Some.is at c.loop-at.invariant.within in
    let v = visited c.loop-at.self (spot_of c.loop-at.self c.in-Some.place) x.0 x.1 c.visit.new.self within x.2 x.4 in
    c.take_into.ensures.noted ∙ v.noted ∙ c.loop-at.invariant.noted

pub returns-in-KeepStop-clause-waiting : goal.returns-in-KeepStop-clause-waiting
returns-in-KeepStop-clause-waiting g c =
    let x = c.in-KeepStop.ensures in
    (ap waiting_of x.4 ∙ waiting-write with_pair_value c.loop-at.self c.in-Some.place x.1) ∙ c.loop-at.invariant.waiting

pub returns-in-TakeStop-clause-waiting : goal.returns-in-TakeStop-clause-waiting
returns-in-TakeStop-clause-waiting g c =
    let x = c.in-TakeStop.ensures in
    c.take_into.ensures.waiting ∙ (ap waiting_of x.4 ∙ waiting-write with_pair_value c.loop-at.self c.in-Some.place x.1) ∙ c.loop-at.invariant.waiting
