use Rattle.std.proofs.Common.{◌∙◌, ap, ◌++◌, ◌∷◌, [], refl, sym, length, drop, take, subst, append-nil}
use Rattle.scc_common.specs.Contents.{entries, waiting_of}
use Rattle.scc_common.specs.Pairs.{with_pair_value}
use Rattle.scc_common.specs.PairWalks.{ended, kept, removed}
use Rattle.scc_common.specs.Rules.{AllKeep}
use Rattle.scc_buckets.proofs.Placed.{drop-all}
use Rattle.scc_table.specs.Places.{spot_of}
use Rattle.scc_table.proofs.walks.Reach.{walk_spot}
use Rattle.scc_table.proofs.relocations.AfterWrites.{waiting-write}
use Rattle.scc_table.proofs.walks.Steps.{take-all}
use Rattle.scc_table.proofs.walks.Lists.{retains-join}
use Rattle.scc_table.proofs.walks.Visits.{visited, kept-nearer, took-after, took-nearer}
use Rattle.scc_table.proofs.walks.Spots.{first-spot, place-after, kept-spot, others-out, took-spot}
use Rattle.scc_owned.proofs.RuledPairs.{keep-more, one-more}
use Rattle.scc_owned.proofs.RuledWalks.{stays-kept, stays-took}
use Rattle.scc_owned.proofs.ruled_map.walk.RuledMap+K+V+R+H.retain_all.Goals as goal

pub loop-at-init : goal.loop-at-init
loop-at-init g c =
    let start = first-spot c.args.self.now c.first_place-at.result c.first_place-at.ensures.place in
    record { buckets = refl; settings = refl; noted = refl; waiting = refl; within = start.1; seen = ([], [], rw start.0 refl, tt, tt, ended, rw start.0 refl) }

pub next_place-at-requires : goal.next_place-at-requires
next_place-at-requires g c =
    let x = c.if-visit.ensures in
    let within = rw c.in-Some.is at c.loop-at.invariant.within in
    place-after c.loop-at.self c.in-Some.place x.0 x.1 c.visit.new.self x.4 (visited c.loop-at.self (spot_of c.loop-at.self c.in-Some.place) x.0 x.1 c.visit.new.self within x.2 x.4)

pub loop-at-smaller-then-visit : goal.loop-at-smaller-then-visit
loop-at-smaller-then-visit g c =
    let x = c.if-visit.ensures in
    let within = rw c.in-Some.is at c.loop-at.invariant.within in
    let v = visited c.loop-at.self (spot_of c.loop-at.self c.in-Some.place) x.0 x.1 c.visit.new.self within x.2 x.4 in
    let next = kept-spot c.loop-at.self c.in-Some.place x.0 x.1 c.visit.new.self x.4 v c.next_place-at.result c.next_place-at.ensures.place in
    rw c.in-Some.is (kept-nearer c.loop-at.self (spot_of c.loop-at.self c.in-Some.place) x.0 x.1 c.visit.new.self v (walk_spot c.visit.new.self c.next_place-at.result) within next.0)

pub loop-at-preserved-then-visit : goal.loop-at-preserved-then-visit
loop-at-preserved-then-visit g c =
    let x = c.if-visit.ensures in
    let within = rw c.in-Some.is at c.loop-at.invariant.within in
    let seen = rw c.in-Some.is at c.loop-at.invariant.seen in
    let v = visited c.loop-at.self (spot_of c.loop-at.self c.in-Some.place) x.0 x.1 c.visit.new.self within x.2 x.4 in
    let next = kept-spot c.loop-at.self c.in-Some.place x.0 x.1 c.visit.new.self x.4 v c.next_place-at.result c.next_place-at.ensures.place in
    record {
      buckets = v.buckets ∙ c.loop-at.invariant.buckets;
      settings = v.settings ∙ c.loop-at.invariant.settings;
      noted = v.noted ∙ c.loop-at.invariant.noted;
      waiting = (ap waiting_of x.4 ∙ waiting-write with_pair_value c.loop-at.self c.in-Some.place x.1) ∙ c.loop-at.invariant.waiting;
      within = next.1;
      seen = (
        seen.0 ++ x.0 ∷ [],
        seen.1 ++ (x.0.0, x.1) ∷ [],
        one-more (entries c.args.self.now) seen.0 _ _ x.0 seen.2 v.here ∙ ap (λ z. (seen.0 ++ x.0 ∷ []) ++ z) (sym (ap (λ i. drop i (entries c.visit.new.self)) next.0 ∙ v.after)),
        keep-more g.R.Rule.holds seen.0 x.0 seen.3 x.5,
        keep-more g.R.Rule.holds seen.1 (x.0.0, x.1) seen.4 x.6,
        retains-join seen.5 (kept x.3 ended),
        ap (λ i. take i (entries c.visit.new.self)) next.0 ∙ stays-kept c.loop-at.self (spot_of c.loop-at.self c.in-Some.place) x.0 x.1 c.visit.new.self v seen.1 seen.6,
      );
    }

pub take_with_next-pair-requires : goal.take_with_next-pair-requires
take_with_next-pair-requires g c =
    let x = c.if-visit.ensures in
    let within = rw c.in-Some.is at c.loop-at.invariant.within in
    place-after c.loop-at.self c.in-Some.place x.0 x.1 c.visit.new.self x.4 (visited c.loop-at.self (spot_of c.loop-at.self c.in-Some.place) x.0 x.1 c.visit.new.self within x.2 x.4)

pub loop-at-smaller : goal.loop-at-smaller
loop-at-smaller g c =
    let x = c.if-visit.ensures in
    let within = rw c.in-Some.is at c.loop-at.invariant.within in
    let v = visited c.loop-at.self (spot_of c.loop-at.self c.in-Some.place) x.0 x.1 c.visit.new.self within x.2 x.4 in
    let d = c.take_with_next-pair.new.self in
    let t = c.take_with_next-pair.ensures.step in
    let next = took-spot c.loop-at.self c.in-Some.place x.0 x.1 c.visit.new.self x.4 v d t.others c.take_with_next-pair.result.1 t.next in
    rw c.in-Some.is (took-nearer c.loop-at.self (spot_of c.loop-at.self c.in-Some.place) x.0 x.1 c.visit.new.self v d (others-out c.loop-at.self c.in-Some.place x.0 x.1 c.visit.new.self x.4 v d t.others) (walk_spot d c.take_with_next-pair.result.1) within next.0)

pub loop-at-preserved : goal.loop-at-preserved
loop-at-preserved g c =
    let x = c.if-visit.ensures in
    let within = rw c.in-Some.is at c.loop-at.invariant.within in
    let seen = rw c.in-Some.is at c.loop-at.invariant.seen in
    let v = visited c.loop-at.self (spot_of c.loop-at.self c.in-Some.place) x.0 x.1 c.visit.new.self within x.2 x.4 in
    let d = c.take_with_next-pair.new.self in
    let t = c.take_with_next-pair.ensures.step in
    let others = others-out c.loop-at.self c.in-Some.place x.0 x.1 c.visit.new.self x.4 v d t.others in
    let next = took-spot c.loop-at.self c.in-Some.place x.0 x.1 c.visit.new.self x.4 v d t.others c.take_with_next-pair.result.1 t.next in
    let left = ap (λ i. drop i (entries d)) next.0 ∙ took-after c.loop-at.self (spot_of c.loop-at.self c.in-Some.place) x.0 x.1 c.visit.new.self v d others in
    record {
      buckets = others.buckets ∙ v.buckets ∙ c.loop-at.invariant.buckets;
      settings = others.settings ∙ v.settings ∙ c.loop-at.invariant.settings;
      noted = t.noted ∙ v.noted ∙ c.loop-at.invariant.noted;
      waiting = t.waiting ∙ (ap waiting_of x.4 ∙ waiting-write with_pair_value c.loop-at.self c.in-Some.place x.1) ∙ c.loop-at.invariant.waiting;
      within = next.1;
      seen = (
        seen.0 ++ x.0 ∷ [],
        seen.1 ++ [],
        one-more (entries c.args.self.now) seen.0 _ _ x.0 seen.2 v.here ∙ ap (λ z. (seen.0 ++ x.0 ∷ []) ++ z) (sym left),
        keep-more g.R.Rule.holds seen.0 x.0 seen.3 x.5,
        subst (AllKeep g.R.Rule.holds) (sym (append-nil seen.1)) seen.4,
        retains-join seen.5 (removed x.3 ended),
        ap (λ i. take i (entries d)) next.0 ∙ stays-took c.loop-at.self (spot_of c.loop-at.self c.in-Some.place) x.0 x.1 c.visit.new.self v seen.1 seen.6 d others,
      );
    }

pub returns-clause-step : goal.returns-clause-step
returns-clause-step g c =
    let es = entries c.loop-at.self in
    let seen = rw c.in_default.is at c.loop-at.invariant.seen in
    let all = seen.2 ∙ ap (λ z. seen.0 ++ z) (drop-all es (length es) refl) ∙ append-nil seen.0 in
    (seen.1, subst (AllKeep g.R.Rule.holds) (sym all) seen.3, seen.4, rw all seen.5, record { exact = sym (take-all es (length es) refl) ∙ seen.6; buckets = c.loop-at.invariant.buckets; settings = c.loop-at.invariant.settings })
