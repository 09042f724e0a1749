use Rattle.std.proofs.Common.{◌≡◌, ◌∙◌, ◌++◌, ◌∷◌, [], sym, ap, refl, length, drop, take, subst, append-nil, append_assoc, arith, true, Ok, rules}
use Rattle.scc_common.specs.Contents.{entries}
use Rattle.scc_common.specs.PairWalks.{Takes, ended}
use Rattle.scc_common.specs.RuleWalks.{CalledToWriteKept}
use Rattle.scc_buckets.proofs.Placed.{drop-all}
use Rattle.scc_table.proofs.walks.Steps.{take-all}
use Rattle.scc_table.specs.Places.{spot_of}
use Rattle.scc_table.proofs.walks.Reach.{walk_spot}
use Rattle.scc_table.proofs.walks.Spots.{first-spot, place-after, kept-spot, others-out, pair-out, took-spot}
use Rattle.scc_table.proofs.walks.Takes.{takes-refused, takes-kept, takes-kept_last, takes-took, takes-took_last}
use Rattle.scc_owned_cache.proofs.Walked.{visits}
use Rattle.scc_table.proofs.walks.Visits.{kept-nearer, took-nearer, turn-here, turn-kept, turn-removed}
use Rattle.scc_owned_cache.proofs.Owned.take_walk.Goals as goal

pub loop-at-init : goal.loop-at-init
loop-at-init g c =
    let start = first-spot c.self.inside.table c.first_place-at.result c.first_place-at.ensures.place in
    let callable = rw (← c.self.view_is) at c.requires.callable in
    rw (← c.self.view_is) record { callable = rw start.0 callable; within = start.1; buckets = refl; settings = refl; refused = refl; maximum = refl; waiting = refl; room = omega arith; calls = ([], sym (append-nil _), λ stay next r last run. rw start.0 (rw start.0 at run)) }

pub visit-requires-clause-callable : goal.visit-requires-clause-callable
visit-requires-clause-callable g c = turn-here c.loop-at.self.contents (spot_of c.loop-at.self.contents c.in-Some.place) (rw c.in-Some.is at c.loop-at.invariant.callable)

pub next_place-at-requires : goal.next_place-at-requires
next_place-at-requires g c =
    let x = c.in-Keep.ensures in
    let within = rw c.in-Some.is at c.loop-at.invariant.within in
    let s = visits c.loop-at.self c.in-Some.place x.0 x.1 c.visit.new.self within x.2 x.4 in
    place-after c.loop-at.self.contents c.in-Some.place x.0 x.1 c.visit.new.self.contents s.made s.now

pub loop-at-smaller-in-Keep : goal.loop-at-smaller-in-Keep
loop-at-smaller-in-Keep g c =
    let x = c.in-Keep.ensures in
    let within = rw c.in-Some.is at c.loop-at.invariant.within in
    let s = visits c.loop-at.self c.in-Some.place x.0 x.1 c.visit.new.self within x.2 x.4 in
    let v = s.now in
    let next = kept-spot c.loop-at.self.contents c.in-Some.place x.0 x.1 c.visit.new.self.contents s.made v c.next_place-at.result c.next_place-at.ensures in
    rw c.in-Some.is (kept-nearer c.loop-at.self.contents (spot_of c.loop-at.self.contents c.in-Some.place) x.0 x.1 c.visit.new.self.contents v (walk_spot c.visit.new.self.contents c.next_place-at.result) within next.0)

pub loop-at-preserved-in-Keep : goal.loop-at-preserved-in-Keep
loop-at-preserved-in-Keep g c =
    let x = c.in-Keep.ensures in
    let within = rw c.in-Some.is at c.loop-at.invariant.within in
    let calls = rw c.in-Some.is at c.loop-at.invariant.calls in
    let s = visits c.loop-at.self c.in-Some.place x.0 x.1 c.visit.new.self within x.2 x.4 in
    let v = s.now in
    let next = kept-spot c.loop-at.self.contents c.in-Some.place x.0 x.1 c.visit.new.self.contents s.made v c.next_place-at.result c.next_place-at.ensures in
    record {
      callable = turn-kept c.loop-at.self.contents (spot_of c.loop-at.self.contents c.in-Some.place) x.0 x.1 c.visit.new.self.contents v (rw c.in-Some.is at c.loop-at.invariant.callable) (_, x.1, tt, x.3) (walk_spot c.visit.new.self.contents c.next_place-at.result) next.0;
      within = next.1;
      buckets = v.buckets ∙ c.loop-at.invariant.buckets;
      settings = v.settings ∙ c.loop-at.invariant.settings;
      refused = s.refused ∙ c.loop-at.invariant.refused;
      maximum = s.maximum ∙ c.loop-at.invariant.maximum;
      waiting = s.waiting ∙ c.loop-at.invariant.waiting;
      room = omega (arith, c.loop-at.invariant.room, c.reserve.ensures.capacity);
      calls = (calls.0, c.reserve.ensures.items ∙ calls.1, takes-kept c.args.f.now (entries c.args.self.now.contents) c.loop-at.self.contents (spot_of c.loop-at.self.contents c.in-Some.place) c.loop-at.f calls.0 calls.2 c.visit.new.f x.0 x.1 c.visit.new.self.contents v (x.3, x.5, x.6) (walk_spot c.visit.new.self.contents c.next_place-at.result) next.0);
    }

pub take_into-at-requires-clause-within : goal.take_into-at-requires-clause-within
take_into-at-requires-clause-within g c =
    let x = c.in-Take.ensures in
    let within = rw c.in-Some.is at c.loop-at.invariant.within in
    let s = visits c.loop-at.self c.in-Some.place x.0 x.1 c.visit.new.self within x.2 x.4 in
    place-after c.loop-at.self.contents c.in-Some.place x.0 x.1 c.visit.new.self.contents s.made s.now

pub loop-at-smaller : goal.loop-at-smaller
loop-at-smaller g c =
    let x = c.in-Take.ensures in
    let within = rw c.in-Some.is at c.loop-at.invariant.within in
    let s = visits c.loop-at.self c.in-Some.place x.0 x.1 c.visit.new.self within x.2 x.4 in
    let v = s.now in
    let d = c.take_into-at.new.self.contents in
    let others = others-out c.loop-at.self.contents c.in-Some.place x.0 x.1 c.visit.new.self.contents s.made v d c.take_into-at.ensures.others in
    let next = took-spot c.loop-at.self.contents c.in-Some.place x.0 x.1 c.visit.new.self.contents s.made v d c.take_into-at.ensures.others c.take_into-at.result c.take_into-at.ensures.next in
    rw c.in-Some.is (took-nearer c.loop-at.self.contents (spot_of c.loop-at.self.contents c.in-Some.place) x.0 x.1 c.visit.new.self.contents v d others (walk_spot d c.take_into-at.result) within next.0)

pub loop-at-preserved : goal.loop-at-preserved
loop-at-preserved g c =
    let x = c.in-Take.ensures in
    let within = rw c.in-Some.is at c.loop-at.invariant.within in
    let calls = rw c.in-Some.is at c.loop-at.invariant.calls in
    let s = visits c.loop-at.self c.in-Some.place x.0 x.1 c.visit.new.self within x.2 x.4 in
    let v = s.now in
    let d = c.take_into-at.new.self.contents in
    let others = others-out c.loop-at.self.contents c.in-Some.place x.0 x.1 c.visit.new.self.contents s.made v d c.take_into-at.ensures.others in
    let out = c.take_into-at.ensures.taken in
    let pair = pair-out c.loop-at.self.contents c.in-Some.place x.0 x.1 c.visit.new.self.contents s.made v out.0 out.1 in
    let next = took-spot c.loop-at.self.contents c.in-Some.place x.0 x.1 c.visit.new.self.contents s.made v d c.take_into-at.ensures.others c.take_into-at.result c.take_into-at.ensures.next in
    record {
      callable = turn-removed c.loop-at.self.contents (spot_of c.loop-at.self.contents c.in-Some.place) x.0 x.1 c.visit.new.self.contents v (rw c.in-Some.is at c.loop-at.invariant.callable) (_, x.1, tt, x.3) d others (walk_spot d c.take_into-at.result) next.0;
      within = next.1;
      buckets = others.buckets ∙ v.buckets ∙ c.loop-at.invariant.buckets;
      settings = others.settings ∙ v.settings ∙ c.loop-at.invariant.settings;
      refused = c.take_into-at.ensures.refused ∙ s.refused ∙ c.loop-at.invariant.refused;
      maximum = c.take_into-at.ensures.maximum ∙ s.maximum ∙ c.loop-at.invariant.maximum;
      waiting = c.take_into-at.ensures.waiting ∙ s.waiting ∙ c.loop-at.invariant.waiting;
      room = omega (arith, c.loop-at.invariant.room, c.reserve.ensures.capacity, c.take_into-at.ensures.capacity);
      calls = (
        calls.0 ++ (x.0.0, x.1) ∷ [],
        out.2 ∙ ap (λ z. c.reserve.new.self.items ++ z ∷ []) pair ∙ ap (λ z. z ++ (x.0.0, x.1) ∷ []) (c.reserve.ensures.items ∙ calls.1) ∙ append_assoc (c.args.taken.now.items) calls.0 _,
        takes-took c.args.f.now (entries c.args.self.now.contents) c.loop-at.self.contents (spot_of c.loop-at.self.contents c.in-Some.place) c.loop-at.f calls.0 calls.2 c.visit.new.f x.0 x.1 c.visit.new.self.contents v d others (x.3, x.5, x.6) (walk_spot d c.take_into-at.result) next.0,
      );
    }

pub take_into-requires-clause-within : goal.take_into-requires-clause-within
take_into-requires-clause-within g c =
    let x = c.in-TakeStop.ensures in
    let within = rw c.in-Some.is at c.loop-at.invariant.within in
    let s = visits c.loop-at.self c.in-Some.place x.0 x.1 c.visit.new.self within x.2 x.4 in
    place-after c.loop-at.self.contents c.in-Some.place x.0 x.1 c.visit.new.self.contents s.made s.now

pub returns-in-Err : goal.returns-in-Err
returns-in-Err g c =
    record {
      step = (
          let within = rw c.in-Some.is at c.loop-at.invariant.within in
          let calls = rw c.in-Some.is at c.loop-at.invariant.calls in (
            entries c.loop-at.self.contents,
            calls.0,
            takes-refused c.args.f.now (entries c.args.self.now.contents) c.loop-at.self.contents (spot_of c.loop-at.self.contents c.in-Some.place) c.loop-at.f calls.0 calls.2 within _,
            c.in-Err.ensures.items ∙ calls.1,
            record { exact = refl; buckets = c.loop-at.invariant.buckets; settings = c.loop-at.invariant.settings },
          ));
      refused = c.loop-at.invariant.refused;
      maximum = c.loop-at.invariant.maximum;
      waiting = c.loop-at.invariant.waiting;
      full = (search rules);
      room = (search rules);
    }

pub returns-in-KeepStop : goal.returns-in-KeepStop
returns-in-KeepStop g c =
    record {
      step = (
          let x = c.in-KeepStop.ensures in
          let within = rw c.in-Some.is at c.loop-at.invariant.within in
          let calls = rw c.in-Some.is at c.loop-at.invariant.calls in
          let s = visits c.loop-at.self c.in-Some.place x.0 x.1 c.visit.new.self within x.2 x.4 in
          let v = s.now in (
            entries c.visit.new.self.contents,
            calls.0,
            takes-kept_last c.args.f.now (entries c.args.self.now.contents) c.loop-at.self.contents (spot_of c.loop-at.self.contents c.in-Some.place) c.loop-at.f calls.0 calls.2 c.visit.new.f x.0 x.1 c.visit.new.self.contents v (x.3, x.5, x.6),
            c.reserve.ensures.items ∙ calls.1,
            record { exact = refl; buckets = v.buckets ∙ c.loop-at.invariant.buckets; settings = v.settings ∙ c.loop-at.invariant.settings },
          ));
      refused = (
          let x = c.in-KeepStop.ensures in
          let within = rw c.in-Some.is at c.loop-at.invariant.within in
          (visits c.loop-at.self c.in-Some.place x.0 x.1 c.visit.new.self within x.2 x.4).refused ∙ c.loop-at.invariant.refused);
      maximum = (
          let x = c.in-KeepStop.ensures in
          let within = rw c.in-Some.is at c.loop-at.invariant.within in
          (visits c.loop-at.self c.in-Some.place x.0 x.1 c.visit.new.self within x.2 x.4).maximum ∙ c.loop-at.invariant.maximum);
      waiting = (
          let x = c.in-KeepStop.ensures in
          let within = rw c.in-Some.is at c.loop-at.invariant.within in
          (visits c.loop-at.self c.in-Some.place x.0 x.1 c.visit.new.self within x.2 x.4).waiting ∙ c.loop-at.invariant.waiting);
      full = tt;
      room = omega (arith, c.loop-at.invariant.room, c.reserve.ensures.capacity);
    }

pub returns-in-TakeStop : goal.returns-in-TakeStop
returns-in-TakeStop g c =
    record {
      step = (
          let x = c.in-TakeStop.ensures in
          let within = rw c.in-Some.is at c.loop-at.invariant.within in
          let calls = rw c.in-Some.is at c.loop-at.invariant.calls in
          let s = visits c.loop-at.self c.in-Some.place x.0 x.1 c.visit.new.self within x.2 x.4 in
          let v = s.now in
          let d = c.take_into.new.self.contents in
          let others = others-out c.loop-at.self.contents c.in-Some.place x.0 x.1 c.visit.new.self.contents s.made v d c.take_into.ensures.others in
          let out = c.take_into.ensures.taken in
          let pair = pair-out c.loop-at.self.contents c.in-Some.place x.0 x.1 c.visit.new.self.contents s.made v out.0 out.1 in (
            entries d,
            calls.0 ++ (x.0.0, x.1) ∷ [],
            takes-took_last c.args.f.now (entries c.args.self.now.contents) c.loop-at.self.contents (spot_of c.loop-at.self.contents c.in-Some.place) c.loop-at.f calls.0 calls.2 c.visit.new.f x.0 x.1 c.visit.new.self.contents v d others (x.3, x.5, x.6),
            out.2 ∙ ap (λ z. c.reserve.new.self.items ++ z ∷ []) pair ∙ ap (λ z. z ++ (x.0.0, x.1) ∷ []) (c.reserve.ensures.items ∙ calls.1) ∙ append_assoc (c.args.taken.now.items) calls.0 _,
            record { exact = refl; buckets = others.buckets ∙ v.buckets ∙ c.loop-at.invariant.buckets; settings = others.settings ∙ v.settings ∙ c.loop-at.invariant.settings },
          ));
      refused = (
          let x = c.in-TakeStop.ensures in
          let within = rw c.in-Some.is at c.loop-at.invariant.within in
          c.take_into.ensures.refused ∙ (visits c.loop-at.self c.in-Some.place x.0 x.1 c.visit.new.self within x.2 x.4).refused ∙ c.loop-at.invariant.refused);
      maximum = (
          let x = c.in-TakeStop.ensures in
          let within = rw c.in-Some.is at c.loop-at.invariant.within in
          c.take_into.ensures.maximum ∙ (visits c.loop-at.self c.in-Some.place x.0 x.1 c.visit.new.self within x.2 x.4).maximum ∙ c.loop-at.invariant.maximum);
      waiting = (
          let x = c.in-TakeStop.ensures in
          let within = rw c.in-Some.is at c.loop-at.invariant.within in
          c.take_into.ensures.waiting ∙ (visits c.loop-at.self c.in-Some.place x.0 x.1 c.visit.new.self within x.2 x.4).waiting ∙ c.loop-at.invariant.waiting);
      full = tt;
      room = omega (arith, c.loop-at.invariant.room, c.reserve.ensures.capacity, c.take_into.ensures.capacity);
    }

pub returns : goal.returns
returns g c =
    record {
      step = (
          let es = entries c.loop-at.self.contents in
          let calls = rw c.in_default.is at c.loop-at.invariant.calls in
          let run : Takes (CalledToWriteKept g.R.Rule.holds g.F.FnMut) c.loop-at.f (drop (length es) es) [] [] (Ok true) c.loop-at.f = rw (drop-all es (length es) refl) ended in
          let front : take (length es) es ++ [] ≡ es = append-nil _ ∙ take-all es (length es) refl in
          let all = subst (λ z. Takes (CalledToWriteKept g.R.Rule.holds g.F.FnMut) c.args.f.now (entries c.args.self.now.contents) z (calls.0 ++ []) (Ok true) c.loop-at.f) front (calls.2 [] [] (Ok true) c.loop-at.f run) in
          (es, calls.0, subst (λ z. Takes (CalledToWriteKept g.R.Rule.holds g.F.FnMut) c.args.f.now (entries c.args.self.now.contents) es z (Ok true) c.loop-at.f) (append-nil calls.0) all, calls.1, record { exact = refl; buckets = c.loop-at.invariant.buckets; settings = c.loop-at.invariant.settings }));
      refused = c.loop-at.invariant.refused;
      maximum = c.loop-at.invariant.maximum;
      waiting = c.loop-at.invariant.waiting;
      full = tt;
      room = c.loop-at.invariant.room;
    }
