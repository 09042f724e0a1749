use Rattle.std.proofs.Common.{◌∙◌, ap, ◌++◌, ◌∷◌, [], refl, sym, length, drop, take, subst, suc, append-nil}
use Rattle.scc_common.specs.Contents.{entries}
use Rattle.scc_owned.specs.IndexWalks.{ended, kept, removed}
use Rattle.scc_common.specs.Rules.{AllKeep}
use Rattle.scc_buckets.proofs.Placed.{drop-all, drop-here, drop-removed, take-more, take-removed}
use Rattle.scc_table.specs.Places.{index_of}
use Rattle.scc_table.proofs.walks.Steps.{take-all}
use Rattle.scc_table.proofs.walks.Reach.{nearer, reached-at, reached-first}
use Rattle.scc_owned.proofs.RuledPairs.{keep-more, one-more, versions-join}
use Rattle.scc_owned.proofs.Visits.{took-next, took-nearer}
use Rattle.scc_owned.proofs.ruled_index.walk.RuledIndex+K+V+R+H.retain_all.Goals as goal

pub loop-at-init : goal.loop-at-init
loop-at-init g c =
    let start = reached-first c.args.self.now c.first_place-at.result c.first_place-at.ensures.place in
    record { buckets = refl; settings = refl; noted = refl; waiting = refl; within = start.1; seen = ([], [], rw start.0 refl, tt, tt, ended, rw start.0 refl) }

pub f-requires : goal.f-requires
f-requires g c = c.requires c.loop-at.f _ _ c.pair_at.ensures.kept

pub loop-at-smaller-then-f : goal.loop-at-smaller-then-f
loop-at-smaller-then-f g c =
    let within = rw c.in-Some.is at c.loop-at.invariant.within in
    let next = reached-at c.loop-at.self (suc (index_of c.loop-at.self c.in-Some.place)) c.next_place-at.result c.next_place-at.ensures.place in
    rw c.in-Some.is (nearer c.loop-at.self c.in-Some.place c.next_place-at.result within next.0)

pub loop-at-preserved-then-f : goal.loop-at-preserved-then-f
loop-at-preserved-then-f g c =
    let m = c.loop-at.self in
    let p : g.row.K.Denot × g.row.V.Denot = (c.pair_at.result.0.now, c.pair_at.result.1.now) in
    let here = drop-here (entries m) (index_of m c.in-Some.place) p c.pair_at.ensures.pair in
    let seen = rw c.in-Some.is at c.loop-at.invariant.seen in
    let next = reached-at m (suc (index_of m c.in-Some.place)) c.next_place-at.result c.next_place-at.ensures.place in
    record {
      buckets = c.loop-at.invariant.buckets;
      settings = c.loop-at.invariant.settings;
      noted = c.loop-at.invariant.noted;
      waiting = c.loop-at.invariant.waiting;
      within = next.1;
      seen = (
        seen.0 ++ p ∷ [],
        seen.1 ++ p ∷ [],
        one-more (entries c.args.self.now) seen.0 _ _ p seen.2 here ∙ ap (λ i. (seen.0 ++ p ∷ []) ++ drop i (entries m)) (sym next.0),
        keep-more g.R.Rule.holds seen.0 p seen.3 c.pair_at.ensures.kept,
        keep-more g.R.Rule.holds seen.1 p seen.4 c.pair_at.ensures.kept,
        versions-join seen.5 (kept record { key = _; value = _; shows = refl; called = c.if-f.ensures } ended),
        ap (λ i. take i (entries m)) next.0 ∙ take-more (entries m) (index_of m c.in-Some.place) p c.pair_at.ensures.pair ∙ ap (λ z. z ++ p ∷ []) seen.6,
      );
    }

pub loop-at-smaller : goal.loop-at-smaller
loop-at-smaller g c =
    let m = c.loop-at.self in
    let within = rw c.in-Some.is at c.loop-at.invariant.within in
    let d = c.take_with_next-at.new.self in
    let others = c.take_with_next-at.ensures.others in
    let next = took-next m c.in-Some.place _ within c.pair_at.ensures.pair d others c.take_with_next-at.result c.take_with_next-at.ensures.next in
    rw c.in-Some.is (took-nearer m c.in-Some.place _ within c.pair_at.ensures.pair d others c.take_with_next-at.result next.0)

pub loop-at-preserved : goal.loop-at-preserved
loop-at-preserved g c =
    let m = c.loop-at.self in
    let i = index_of m c.in-Some.place in
    let p : g.row.K.Denot × g.row.V.Denot = (c.pair_at.result.0.now, c.pair_at.result.1.now) in
    let here = drop-here (entries m) i p c.pair_at.ensures.pair in
    let within = rw c.in-Some.is at c.loop-at.invariant.within in
    let seen = rw c.in-Some.is at c.loop-at.invariant.seen in
    let d = c.take_with_next-at.new.self in
    let others = c.take_with_next-at.ensures.others in
    let next = took-next m c.in-Some.place _ within c.pair_at.ensures.pair d others c.take_with_next-at.result c.take_with_next-at.ensures.next in
    let left = ap (λ j. drop j (entries d)) next.0 ∙ ap (drop i) others.exact ∙ drop-removed (entries m) i in
    record {
      buckets = others.buckets ∙ c.loop-at.invariant.buckets;
      settings = others.settings ∙ c.loop-at.invariant.settings;
      noted = c.take_with_next-at.ensures.noted ∙ c.loop-at.invariant.noted;
      waiting = c.take_with_next-at.ensures.waiting ∙ c.loop-at.invariant.waiting;
      within = next.1;
      seen = (
        seen.0 ++ p ∷ [],
        seen.1 ++ [],
        one-more (entries c.args.self.now) seen.0 _ _ p seen.2 here ∙ ap (λ z. (seen.0 ++ p ∷ []) ++ z) (sym left),
        keep-more g.R.Rule.holds seen.0 p seen.3 c.pair_at.ensures.kept,
        subst (AllKeep g.R.Rule.holds) (sym (append-nil seen.1)) seen.4,
        versions-join seen.5 (removed record { key = _; value = _; shows = refl; called = c.if-f.ensures } ended),
        ap (λ j. take j (entries d)) next.0 ∙ ap (take i) others.exact ∙ take-removed (entries m) i ∙ seen.6 ∙ sym (append-nil seen.1),
      );
    }

pub returns-clause-step : goal.returns-clause-step
returns-clause-step g c =
    let es = entries c.loop-at.self in
    let seen = rw c.in_default.is at c.loop-at.invariant.seen in
    let all = seen.2 ∙ ap (λ z. seen.0 ++ z) (drop-all es (length es) refl) ∙ append-nil seen.0 in
    (seen.1, subst (AllKeep g.R.Rule.holds) (sym all) seen.3, seen.4, rw all seen.5, record { exact = sym (take-all es (length es) refl) ∙ seen.6; buckets = c.loop-at.invariant.buckets; settings = c.loop-at.invariant.settings })
