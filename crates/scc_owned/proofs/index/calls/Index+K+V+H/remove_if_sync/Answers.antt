use Rattle.std.proofs.Common.{rules, ◌≡◌, Some, refl, sym, ◌∙◌}
use Rattle.scc_common.specs.Contents.{entries}
use Rattle.scc_common.specs.Pairs.{find}
use Rattle.scc_buckets.proofs.Lookups.{find-position, find-position_none, finds-removed}
use Rattle.scc_buckets.proofs.PairSplits.{without-at}
use Rattle.scc_owned.proofs.index.calls.Index+K+V+H.remove_if_sync.Goals as goal

pub returns-then-f-clause-step : goal.returns-then-f-clause-step
returns-then-f-clause-step g c =
    let es = entries c.self.inside.table in
    let f = find-position (g.K.PartialEq.eq c.args.k.now) es _ c.in-Some.ensures.place.found in
    let here : find g.K.PartialEq.eq es c.args.k.now ≡ Some c.version_at.result.now = f.2 ∙ sym f.1 ∙ c.version_at.ensures in
    let h = c.remove_at-version.ensures.others in
    rw (← c.self.view_is, here) (
      (c.value.result, c.if-f.ensures, c.value.ensures),
      record { same = rw (without-at g.met.K.Eq.laws c.args.k.now es _ c.in-Some.ensures.unique f) h.same; size = h.size; settings = h.settings },
    )

pub returns-then-f-clause-finds : goal.returns-then-f-clause-finds
returns-then-f-clause-finds g c =
    let es = entries c.self.inside.table in
    let f = find-position (g.K.PartialEq.eq c.args.k.now) es _ c.in-Some.ensures.place.found in
    rw (← c.self.view_is) (λ _. finds-removed g.met.K.Eq.laws es _ c.args.k.now _ c.remove_at-version.ensures.others.same c.in-Some.ensures.unique f)

pub returns-then-f-clause-array : goal.returns-then-f-clause-array
returns-then-f-clause-array g c =
    record {
      smaller = (rw (← c.self.view_is) c.remove_at-version.ensures.smaller);
      due = (rw (← c.self.view_is) (λ _. c.remove_at-version.ensures.due));
      noted = (search rules);
      relocates = (rw (← c.self.view_is) (λ _. record { all = c.remove_at-version.ensures.all; fewer = c.remove_at-version.ensures.fewer; less = c.remove_at-version.ensures.less; waiting = c.remove_at-version.ensures.waiting }));
      waiting = (search rules);
    }

pub returns-else-f-clause-step : goal.returns-else-f-clause-step
returns-else-f-clause-step g c =
    let f = find-position (g.K.PartialEq.eq c.args.k.now) (entries c.self.inside.table) _ c.in-Some.ensures.place.found in
    let here : find g.K.PartialEq.eq (entries c.self.inside.table) c.args.k.now ≡ Some c.version_at.result.now = f.2 ∙ sym f.1 ∙ c.version_at.ensures in
    rw (← c.self.view_is, here) ((c.value.result, c.if-f.ensures, c.value.ensures), record { exact = refl; buckets = refl; settings = refl })

pub returns-else-f-clause-array : goal.returns-else-f-clause-array
returns-else-f-clause-array g c =
    record {
      smaller = (search rules);
      due = (search rules);
      noted = (search rules);
      relocates = (search rules);
      waiting = (search rules);
    }

pub returns-in-None-clause-step : goal.returns-in-None-clause-step
returns-in-None-clause-step g c = rw (← c.self.view_is, find-position_none (g.K.PartialEq.eq c.args.k.now) (entries c.self.inside.table) c.in-None.ensures.place) (refl, record { exact = refl; buckets = refl; settings = refl })

pub returns-in-None-clause-array : goal.returns-in-None-clause-array
returns-in-None-clause-array g c =
    record {
      smaller = (search rules);
      due = (search rules);
      noted = (search rules);
      relocates = (search rules);
      waiting = (search rules);
    }

pub f-requires : goal.f-requires
f-requires g c =
    let f = find-position (g.K.PartialEq.eq c.args.k.now) (entries c.self.inside.table) _ c.in-Some.ensures.place.found in
    let here : find g.K.PartialEq.eq (entries c.self.inside.table) c.args.k.now ≡ Some c.version_at.result.now = f.2 ∙ sym f.1 ∙ c.version_at.ensures in
    c.requires c.version_at.result.now (rw (← c.self.view_is) here) c.value.result c.value.ensures
