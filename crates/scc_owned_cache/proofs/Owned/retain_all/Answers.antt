use Rattle.std.proofs.Common.{◌≡◌, ◌∙◌, ◌++◌, [], refl, length, drop, take, subst, append-nil}
use Rattle.scc_common.specs.Contents.{entries}
use Rattle.scc_common.specs.PairWalks.{Retains, ended}
use Rattle.scc_common.specs.RuleWalks.{CalledToWriteKept}
use Rattle.scc_buckets.proofs.Placed.{drop-all}
use Rattle.scc_table.proofs.walks.Steps.{take-all}
use Rattle.scc_table.specs.Places.{spot_of}
use Rattle.scc_table.proofs.walks.Reach.{walk_spot}
use Rattle.scc_table.proofs.walks.Spots.{first-spot, place-after, kept-spot, others-out, took-spot}
use Rattle.scc_table.proofs.walks.Visits.{kept-nearer, took-nearer, retains-kept, retains-removed, turn-here, turn-kept, turn-removed}
use Rattle.scc_owned_cache.proofs.Walked.{visits}
use Rattle.scc_owned_cache.proofs.Owned.retain_all.Goals as goal

pub loop-at-init : goal.loop-at-init
loop-at-init g c =
    let start = first-spot c.self.inside.table c.first_place-at.result c.first_place-at.ensures.place in
    let callable = rw (← c.self.view_is) at c.requires.callable in
    rw (← c.self.view_is) record { callable = rw start.0 callable; within = start.1; buckets = refl; settings = refl; refused = refl; maximum = refl; waiting = refl; calls = λ stay last r. rw start.0 (rw start.0 at r) }

pub visit-requires-clause-callable : goal.visit-requires-clause-callable
visit-requires-clause-callable g c = turn-here c.loop-at.self.contents (spot_of c.loop-at.self.contents c.in-Some.place) (rw c.in-Some.is at c.loop-at.invariant.callable)

pub next_place-at-requires : goal.next_place-at-requires
next_place-at-requires g c =
    let x = c.if-visit.ensures in
    let within = rw c.in-Some.is at c.loop-at.invariant.within in
    let m = c.loop-at.self.contents in
    let n = c.visit.new.self.contents in
    let p = c.in-Some.place in
    let q = spot_of m p in
    let s = visits c.loop-at.self c.in-Some.place x.0 x.1 c.visit.new.self within x.2 x.4 in
    let v = s.now in
    place-after m p x.0 x.1 n s.made v

pub loop-at-smaller-then-visit : goal.loop-at-smaller-then-visit
loop-at-smaller-then-visit g c =
    let x = c.if-visit.ensures in
    let within = rw c.in-Some.is at c.loop-at.invariant.within in
    let m = c.loop-at.self.contents in
    let n = c.visit.new.self.contents in
    let p = c.in-Some.place in
    let q = spot_of m p in
    let s = visits c.loop-at.self c.in-Some.place x.0 x.1 c.visit.new.self within x.2 x.4 in
    let v = s.now in
    let next = kept-spot m p x.0 x.1 n s.made v c.next_place-at.result c.next_place-at.ensures in
    rw c.in-Some.is (kept-nearer m q x.0 x.1 n v (walk_spot n c.next_place-at.result) within next.0)

pub loop-at-preserved-then-visit : goal.loop-at-preserved-then-visit
loop-at-preserved-then-visit g c =
    let x = c.if-visit.ensures in
    let within = rw c.in-Some.is at c.loop-at.invariant.within in
    let m = c.loop-at.self.contents in
    let n = c.visit.new.self.contents in
    let p = c.in-Some.place in
    let q = spot_of m p in
    let s = visits c.loop-at.self c.in-Some.place x.0 x.1 c.visit.new.self within x.2 x.4 in
    let v = s.now in
    let next = kept-spot m p x.0 x.1 n s.made v c.next_place-at.result c.next_place-at.ensures in
    record {
      callable = turn-kept m q x.0 x.1 n v (rw c.in-Some.is at c.loop-at.invariant.callable) (_, x.1, tt, x.3) (walk_spot n c.next_place-at.result) next.0;
      within = next.1;
      buckets = v.buckets ∙ c.loop-at.invariant.buckets;
      settings = v.settings ∙ c.loop-at.invariant.settings;
      refused = s.refused ∙ c.loop-at.invariant.refused;
      maximum = s.maximum ∙ c.loop-at.invariant.maximum;
      waiting = s.waiting ∙ c.loop-at.invariant.waiting;
      calls = retains-kept c.args.f.now (entries c.args.self.now.contents) m q c.loop-at.f c.visit.new.f x.0 x.1 n v (rw c.in-Some.is at c.loop-at.invariant.calls) (x.3, x.5, x.6) (walk_spot n c.next_place-at.result) next.0;
    }

pub take_with_next-pair-requires : goal.take_with_next-pair-requires
take_with_next-pair-requires g c =
    let x = c.if-visit.ensures in
    let within = rw c.in-Some.is at c.loop-at.invariant.within in
    let m = c.loop-at.self.contents in
    let n = c.visit.new.self.contents in
    let p = c.in-Some.place in
    let q = spot_of m p in
    let s = visits c.loop-at.self c.in-Some.place x.0 x.1 c.visit.new.self within x.2 x.4 in
    let v = s.now in
    place-after m p x.0 x.1 n s.made v

pub loop-at-smaller : goal.loop-at-smaller
loop-at-smaller g c =
    let x = c.if-visit.ensures in
    let within = rw c.in-Some.is at c.loop-at.invariant.within in
    let m = c.loop-at.self.contents in
    let n = c.visit.new.self.contents in
    let p = c.in-Some.place in
    let q = spot_of m p in
    let s = visits c.loop-at.self c.in-Some.place x.0 x.1 c.visit.new.self within x.2 x.4 in
    let v = s.now in
    let d = c.take_with_next-pair.new.self.contents in
    let out = c.take_with_next-pair.ensures.takes in
    let others = others-out m p x.0 x.1 n s.made v d out.others in
    let next = took-spot m p x.0 x.1 n s.made v d out.others c.take_with_next-pair.result.1 out.next in
    rw c.in-Some.is (took-nearer m q x.0 x.1 n v d others (walk_spot d c.take_with_next-pair.result.1) within next.0)

pub loop-at-preserved : goal.loop-at-preserved
loop-at-preserved g c =
    let x = c.if-visit.ensures in
    let within = rw c.in-Some.is at c.loop-at.invariant.within in
    let m = c.loop-at.self.contents in
    let n = c.visit.new.self.contents in
    let p = c.in-Some.place in
    let q = spot_of m p in
    let s = visits c.loop-at.self c.in-Some.place x.0 x.1 c.visit.new.self within x.2 x.4 in
    let v = s.now in
    let d = c.take_with_next-pair.new.self.contents in
    let out = c.take_with_next-pair.ensures.takes in
    let others = others-out m p x.0 x.1 n s.made v d out.others in
    let next = took-spot m p x.0 x.1 n s.made v d out.others c.take_with_next-pair.result.1 out.next in
    record {
      callable = turn-removed m q x.0 x.1 n v (rw c.in-Some.is at c.loop-at.invariant.callable) (_, x.1, tt, x.3) d others (walk_spot d c.take_with_next-pair.result.1) next.0;
      within = next.1;
      buckets = out.others.buckets ∙ v.buckets ∙ c.loop-at.invariant.buckets;
      settings = out.others.settings ∙ v.settings ∙ c.loop-at.invariant.settings;
      refused = out.refused ∙ s.refused ∙ c.loop-at.invariant.refused;
      maximum = out.maximum ∙ s.maximum ∙ c.loop-at.invariant.maximum;
      waiting = out.waiting ∙ s.waiting ∙ c.loop-at.invariant.waiting;
      calls = retains-removed c.args.f.now (entries c.args.self.now.contents) m q c.loop-at.f c.visit.new.f x.0 x.1 n v (rw c.in-Some.is at c.loop-at.invariant.calls) (x.3, x.5, x.6) d others (walk_spot d c.take_with_next-pair.result.1) next.0;
    }

pub returns-clause-step : goal.returns-clause-step
returns-clause-step g c =
    let es = entries c.loop-at.self.contents in
    let calls = rw c.in_default.is at c.loop-at.invariant.calls in
    let run : Retains (CalledToWriteKept g.R.Rule.holds g.F.FnMut) c.loop-at.f (drop (length es) es) [] c.loop-at.f = rw (drop-all es (length es) refl) ended in
    let front : take (length es) es ++ [] ≡ es = append-nil _ ∙ take-all es (length es) refl in
    (es, subst (λ z. Retains (CalledToWriteKept g.R.Rule.holds g.F.FnMut) c.args.f.now (entries c.args.self.now.contents) z c.loop-at.f) front (calls [] c.loop-at.f run), record { exact = refl; buckets = c.loop-at.invariant.buckets; settings = c.loop-at.invariant.settings })
