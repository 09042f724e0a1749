use Rattle.std.proofs.Common.{◌∙◌, ◌++◌, ◌∷◌, [], sym, ap, refl, length, drop, take, subst, append-nil, append_assoc, take-append-drop, arith}
use Rattle.scc_common.specs.Contents.{entries, waiting_of}
use Rattle.scc_common.specs.Pairs.{with_pair_value}
use Rattle.scc_common.specs.PairWalks.{ended, refused, kept, took, kept_last, took_last}
use Rattle.scc_common.specs.Rules.{AllKeep}
use Rattle.scc_buckets.proofs.Placed.{drop-all, drop-here}
use Rattle.scc_table.specs.Places.{index_of, spot_of}
use Rattle.scc_table.proofs.walks.Reach.{walk_spot}
use Rattle.scc_table.proofs.relocations.AfterWrites.{waiting-write}
use Rattle.scc_table.proofs.walks.Steps.{take-all}
use Rattle.scc_table.proofs.walks.Lists.{takes-join}
use Rattle.scc_table.proofs.walks.Visits.{visited, kept-nearer, took-after, took-nearer}
use Rattle.scc_table.proofs.walks.Spots.{first-spot, place-after, kept-spot, pair-out, others-out, took-spot}
use Rattle.scc_owned.proofs.RuledPairs.{keep-more, one-more}
use Rattle.scc_owned.proofs.RuledWalks.{stays-kept, stays-kept_last, stays-took, stays-took_last}
use Rattle.scc_owned.proofs.ruled_map.walk.RuledMap+K+V+R+H.take_walk.Goals as goal

pub loop-at-init : goal.loop-at-init
loop-at-init g c =
    let start = first-spot c.args.self.now c.first_place-at.result c.first_place-at.ensures.place in
    record { buckets = refl; settings = refl; noted = refl; waiting = refl; within = start.1; room = omega arith; seen = ([], [], [], rw start.0 refl, tt, tt, tt, ended, sym (append-nil _), rw start.0 refl) }

pub returns-in-Err-clause-step : goal.returns-in-Err-clause-step
returns-in-Err-clause-step g c =
    let m = c.loop-at.self in
    let seen = rw c.in-Some.is at c.loop-at.invariant.seen in
    let p : g.row.K.Denot × g.row.V.Denot = (c.pair_at.result.0.now, c.pair_at.result.1.now) in
    let here = drop-here (entries m) (index_of m c.in-Some.place) p c.pair_at.ensures.pair in (
      seen.0 ++ p ∷ [],
      _,
      seen.1 ++ p ∷ [],
      seen.2 ++ [],
      one-more (entries c.args.self.now) seen.0 _ _ p seen.3 here,
      keep-more g.R.Rule.holds seen.0 p seen.4 c.pair_at.ensures.kept,
      keep-more g.R.Rule.holds seen.1 p seen.5 c.pair_at.ensures.kept,
      subst (AllKeep g.R.Rule.holds) (sym (append-nil seen.2)) seen.6,
      takes-join seen.7 refused,
      c.in-Err.ensures.pairs ∙ seen.8 ∙ ap (λ z. g.L.Sink.pairs c.args.taken.now ++ z) (sym (append-nil seen.2)),
      record {
        exact = one-more (entries m) seen.1 _ _ p (sym (take-append-drop (index_of m c.in-Some.place) (entries m)) ∙ ap (λ z. z ++ drop (index_of m c.in-Some.place) (entries m)) seen.9) here;
        buckets = c.loop-at.invariant.buckets;
        settings = c.loop-at.invariant.settings;
      },
    )

pub next_place-at-requires : goal.next_place-at-requires
next_place-at-requires g c =
    let x = c.in-Keep.ensures in
    let within = rw c.in-Some.is at c.loop-at.invariant.within in
    place-after c.loop-at.self c.in-Some.place x.0 x.1 c.visit.new.self x.4 (visited c.loop-at.self (spot_of c.loop-at.self c.in-Some.place) x.0 x.1 c.visit.new.self within x.2 x.4)

pub loop-at-smaller-in-Keep : goal.loop-at-smaller-in-Keep
loop-at-smaller-in-Keep g c =
    let x = c.in-Keep.ensures in
    let within = rw c.in-Some.is at c.loop-at.invariant.within in
    let v = visited c.loop-at.self (spot_of c.loop-at.self c.in-Some.place) x.0 x.1 c.visit.new.self within x.2 x.4 in
    let next = kept-spot c.loop-at.self c.in-Some.place x.0 x.1 c.visit.new.self x.4 v c.next_place-at.result c.next_place-at.ensures.place in
    rw c.in-Some.is (kept-nearer c.loop-at.self (spot_of c.loop-at.self c.in-Some.place) x.0 x.1 c.visit.new.self v (walk_spot c.visit.new.self c.next_place-at.result) within next.0)

pub loop-at-preserved-in-Keep : goal.loop-at-preserved-in-Keep
loop-at-preserved-in-Keep g c =
    let x = c.in-Keep.ensures in
    let within = rw c.in-Some.is at c.loop-at.invariant.within in
    let seen = rw c.in-Some.is at c.loop-at.invariant.seen in
    let v = visited c.loop-at.self (spot_of c.loop-at.self c.in-Some.place) x.0 x.1 c.visit.new.self within x.2 x.4 in
    let next = kept-spot c.loop-at.self c.in-Some.place x.0 x.1 c.visit.new.self x.4 v c.next_place-at.result c.next_place-at.ensures.place in
    record {
      buckets = v.buckets ∙ c.loop-at.invariant.buckets;
      settings = v.settings ∙ c.loop-at.invariant.settings;
      noted = v.noted ∙ c.loop-at.invariant.noted;
      waiting = (ap waiting_of x.4 ∙ waiting-write with_pair_value c.loop-at.self c.in-Some.place x.1) ∙ c.loop-at.invariant.waiting;
      within = next.1;
      room = omega (arith, c.loop-at.invariant.room, c.reserve_one.ensures.capacity);
      seen = (
        seen.0 ++ x.0 ∷ [],
        seen.1 ++ (x.0.0, x.1) ∷ [],
        seen.2 ++ [],
        one-more (entries c.args.self.now) seen.0 _ _ x.0 seen.3 v.here ∙ ap (λ z. (seen.0 ++ x.0 ∷ []) ++ z) (sym (ap (λ i. drop i (entries c.visit.new.self)) next.0 ∙ v.after)),
        keep-more g.R.Rule.holds seen.0 x.0 seen.4 x.5,
        keep-more g.R.Rule.holds seen.1 (x.0.0, x.1) seen.5 x.6,
        subst (AllKeep g.R.Rule.holds) (sym (append-nil seen.2)) seen.6,
        takes-join seen.7 (kept x.3 ended),
        c.reserve_one.ensures.pairs ∙ seen.8 ∙ ap (λ z. g.L.Sink.pairs c.args.taken.now ++ z) (sym (append-nil seen.2)),
        ap (λ i. take i (entries c.visit.new.self)) next.0 ∙ stays-kept c.loop-at.self (spot_of c.loop-at.self c.in-Some.place) x.0 x.1 c.visit.new.self v seen.1 seen.9,
      );
    }

pub take_into-at-requires-clause-within : goal.take_into-at-requires-clause-within
take_into-at-requires-clause-within g c =
    let x = c.in-Take.ensures in
    let within = rw c.in-Some.is at c.loop-at.invariant.within in
    place-after c.loop-at.self c.in-Some.place x.0 x.1 c.visit.new.self x.4 (visited c.loop-at.self (spot_of c.loop-at.self c.in-Some.place) x.0 x.1 c.visit.new.self within x.2 x.4)

pub loop-at-smaller : goal.loop-at-smaller
loop-at-smaller g c =
    let x = c.in-Take.ensures in
    let within = rw c.in-Some.is at c.loop-at.invariant.within in
    let v = visited c.loop-at.self (spot_of c.loop-at.self c.in-Some.place) x.0 x.1 c.visit.new.self within x.2 x.4 in
    let d = c.take_into-at.new.self in
    let others = others-out c.loop-at.self c.in-Some.place x.0 x.1 c.visit.new.self x.4 v d c.take_into-at.ensures.others in
    let next = took-spot c.loop-at.self c.in-Some.place x.0 x.1 c.visit.new.self x.4 v d c.take_into-at.ensures.others c.take_into-at.result c.take_into-at.ensures.next in
    rw c.in-Some.is (took-nearer c.loop-at.self (spot_of c.loop-at.self c.in-Some.place) x.0 x.1 c.visit.new.self v d others (walk_spot d c.take_into-at.result) within next.0)

pub loop-at-preserved : goal.loop-at-preserved
loop-at-preserved g c =
    let x = c.in-Take.ensures in
    let within = rw c.in-Some.is at c.loop-at.invariant.within in
    let seen = rw c.in-Some.is at c.loop-at.invariant.seen in
    let v = visited c.loop-at.self (spot_of c.loop-at.self c.in-Some.place) x.0 x.1 c.visit.new.self within x.2 x.4 in
    let d = c.take_into-at.new.self in
    let others = others-out c.loop-at.self c.in-Some.place x.0 x.1 c.visit.new.self x.4 v d c.take_into-at.ensures.others in
    let out = c.take_into-at.ensures.taken in
    let pair = pair-out c.loop-at.self c.in-Some.place x.0 x.1 c.visit.new.self x.4 v out.0 out.1 in
    let next = took-spot c.loop-at.self c.in-Some.place x.0 x.1 c.visit.new.self x.4 v d c.take_into-at.ensures.others c.take_into-at.result c.take_into-at.ensures.next in
    let left = ap (λ i. drop i (entries d)) next.0 ∙ took-after c.loop-at.self (spot_of c.loop-at.self c.in-Some.place) x.0 x.1 c.visit.new.self v d others in
    record {
      buckets = others.buckets ∙ v.buckets ∙ c.loop-at.invariant.buckets;
      settings = others.settings ∙ v.settings ∙ c.loop-at.invariant.settings;
      noted = c.take_into-at.ensures.noted ∙ v.noted ∙ c.loop-at.invariant.noted;
      waiting = c.take_into-at.ensures.waiting ∙ (ap waiting_of x.4 ∙ waiting-write with_pair_value c.loop-at.self c.in-Some.place x.1) ∙ c.loop-at.invariant.waiting;
      within = next.1;
      room = omega (arith, c.loop-at.invariant.room, c.reserve_one.ensures.capacity, c.take_into-at.ensures.capacity);
      seen = (
        seen.0 ++ x.0 ∷ [],
        seen.1 ++ [],
        seen.2 ++ (x.0.0, x.1) ∷ [],
        one-more (entries c.args.self.now) seen.0 _ _ x.0 seen.3 v.here ∙ ap (λ z. (seen.0 ++ x.0 ∷ []) ++ z) (sym left),
        keep-more g.R.Rule.holds seen.0 x.0 seen.4 x.5,
        subst (AllKeep g.R.Rule.holds) (sym (append-nil seen.1)) seen.5,
        keep-more g.R.Rule.holds seen.2 (x.0.0, x.1) seen.6 x.6,
        takes-join seen.7 (took x.3 ended),
        out.2 ∙ ap (λ z. g.L.Sink.pairs c.reserve_one.new.self ++ z ∷ []) pair ∙ ap (λ z. z ++ (x.0.0, x.1) ∷ []) (c.reserve_one.ensures.pairs ∙ seen.8) ∙ append_assoc (g.L.Sink.pairs c.args.taken.now) seen.2 _,
        ap (λ i. take i (entries d)) next.0 ∙ stays-took c.loop-at.self (spot_of c.loop-at.self c.in-Some.place) x.0 x.1 c.visit.new.self v seen.1 seen.9 d others,
      );
    }

pub returns-in-KeepStop-clause-step : goal.returns-in-KeepStop-clause-step
returns-in-KeepStop-clause-step g c =
    let x = c.in-KeepStop.ensures in
    let within = rw c.in-Some.is at c.loop-at.invariant.within in
    let seen = rw c.in-Some.is at c.loop-at.invariant.seen in
    let v = visited c.loop-at.self (spot_of c.loop-at.self c.in-Some.place) x.0 x.1 c.visit.new.self within x.2 x.4 in (
      seen.0 ++ x.0 ∷ [],
      _,
      seen.1 ++ (x.0.0, x.1) ∷ [],
      seen.2 ++ [],
      one-more (entries c.args.self.now) seen.0 _ _ x.0 seen.3 v.here,
      keep-more g.R.Rule.holds seen.0 x.0 seen.4 x.5,
      keep-more g.R.Rule.holds seen.1 (x.0.0, x.1) seen.5 x.6,
      subst (AllKeep g.R.Rule.holds) (sym (append-nil seen.2)) seen.6,
      takes-join seen.7 (kept_last x.3),
      c.reserve_one.ensures.pairs ∙ seen.8 ∙ ap (λ z. g.L.Sink.pairs c.args.taken.now ++ z) (sym (append-nil seen.2)),
      record {
        exact = stays-kept_last c.loop-at.self (spot_of c.loop-at.self c.in-Some.place) x.0 x.1 c.visit.new.self v seen.1 seen.9;
        buckets = v.buckets ∙ c.loop-at.invariant.buckets;
        settings = v.settings ∙ c.loop-at.invariant.settings;
      },
    )

pub take_into-requires-clause-within : goal.take_into-requires-clause-within
take_into-requires-clause-within g c =
    let x = c.in-TakeStop.ensures in
    let within = rw c.in-Some.is at c.loop-at.invariant.within in
    place-after c.loop-at.self c.in-Some.place x.0 x.1 c.visit.new.self x.4 (visited c.loop-at.self (spot_of c.loop-at.self c.in-Some.place) x.0 x.1 c.visit.new.self within x.2 x.4)

pub returns-in-TakeStop-clause-step : goal.returns-in-TakeStop-clause-step
returns-in-TakeStop-clause-step g c =
    let x = c.in-TakeStop.ensures in
    let within = rw c.in-Some.is at c.loop-at.invariant.within in
    let seen = rw c.in-Some.is at c.loop-at.invariant.seen in
    let v = visited c.loop-at.self (spot_of c.loop-at.self c.in-Some.place) x.0 x.1 c.visit.new.self within x.2 x.4 in
    let d = c.take_into.new.self in
    let others = others-out c.loop-at.self c.in-Some.place x.0 x.1 c.visit.new.self x.4 v d c.take_into.ensures.others in
    let out = c.take_into.ensures.taken in
    let pair = pair-out c.loop-at.self c.in-Some.place x.0 x.1 c.visit.new.self x.4 v out.0 out.1 in (
      seen.0 ++ x.0 ∷ [],
      _,
      seen.1 ++ [],
      seen.2 ++ (x.0.0, x.1) ∷ [],
      one-more (entries c.args.self.now) seen.0 _ _ x.0 seen.3 v.here,
      keep-more g.R.Rule.holds seen.0 x.0 seen.4 x.5,
      subst (AllKeep g.R.Rule.holds) (sym (append-nil seen.1)) seen.5,
      keep-more g.R.Rule.holds seen.2 (x.0.0, x.1) seen.6 x.6,
      takes-join seen.7 (took_last x.3),
      out.2 ∙ ap (λ z. g.L.Sink.pairs c.reserve_one.new.self ++ z ∷ []) pair ∙ ap (λ z. z ++ (x.0.0, x.1) ∷ []) (c.reserve_one.ensures.pairs ∙ seen.8) ∙ append_assoc (g.L.Sink.pairs c.args.taken.now) seen.2 _,
      record {
        exact = stays-took_last c.loop-at.self (spot_of c.loop-at.self c.in-Some.place) x.0 x.1 c.visit.new.self v seen.1 seen.9 d others;
        buckets = others.buckets ∙ v.buckets ∙ c.loop-at.invariant.buckets;
        settings = others.settings ∙ v.settings ∙ c.loop-at.invariant.settings;
      },
    )

pub returns-clause-step : goal.returns-clause-step
returns-clause-step g c =
    let es = entries c.loop-at.self in
    let seen = rw c.in_default.is at c.loop-at.invariant.seen in
    (seen.0, [], seen.1, seen.2, seen.3 ∙ ap (λ z. seen.0 ++ z) (drop-all es (length es) refl), seen.4, seen.5, seen.6, seen.7, seen.8, record { exact = sym (take-all es (length es) refl) ∙ seen.9 ∙ sym (append-nil seen.1); buckets = c.loop-at.invariant.buckets; settings = c.loop-at.invariant.settings })

pub returns-in-KeepStop-clause-noted : goal.returns-in-KeepStop-clause-noted
returns-in-KeepStop-clause-noted g c =
    let x = c.in-KeepStop.ensures in
    let within = rw c.in-Some.is at c.loop-at.invariant.within in
    let v = visited c.loop-at.self (spot_of c.loop-at.self c.in-Some.place) x.0 x.1 c.visit.new.self within x.2 x.4 in
    v.noted ∙ c.loop-at.invariant.noted

pub returns-in-TakeStop-clause-noted : goal.returns-in-TakeStop-clause-noted
returns-in-TakeStop-clause-noted g c =
    let x = c.in-TakeStop.ensures in
    let within = rw c.in-Some.is at c.loop-at.invariant.within in
    let v = visited c.loop-at.self (spot_of c.loop-at.self c.in-Some.place) x.0 x.1 c.visit.new.self within x.2 x.4 in
    c.take_into.ensures.noted ∙ v.noted ∙ c.loop-at.invariant.noted

pub returns-in-KeepStop-clause-waiting : goal.returns-in-KeepStop-clause-waiting
returns-in-KeepStop-clause-waiting g c =
    let x = c.in-KeepStop.ensures in
    (ap waiting_of x.4 ∙ waiting-write with_pair_value c.loop-at.self c.in-Some.place x.1) ∙ c.loop-at.invariant.waiting

pub returns-in-TakeStop-clause-waiting : goal.returns-in-TakeStop-clause-waiting
returns-in-TakeStop-clause-waiting g c =
    let x = c.in-TakeStop.ensures in
    c.take_into.ensures.waiting ∙ (ap waiting_of x.4 ∙ waiting-write with_pair_value c.loop-at.self c.in-Some.place x.1) ∙ c.loop-at.invariant.waiting
