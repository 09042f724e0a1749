use Rattle.std.proofs.Common.{refl, rules}
use Rattle.scc_buckets.proofs.Lookups.{find-position, find-position_none, finds-removed}
use Rattle.scc_buckets.proofs.PairSplits.{without-at}
use Rattle.scc_common.specs.Contents.{entries}
use Rattle.scc_owned.proofs.Found.{found-here}
use Rattle.scc_owned.proofs.RuledUpdates.{met-there}
use Rattle.scc_owned.proofs.ruled_index.calls.RuledIndex+K+V+R+H.remove_if_sync.Goals as goal

pub pair_at-requires : goal.pair_at-requires
pair_at-requires g c = let at = rw c.self.view_is at c.in-Some.ensures.place in at.within

pub f-requires : goal.f-requires
f-requires g c =
    let at = rw c.self.view_is at c.in-Some.ensures.place in
    c.requires _ (met-there g.K.PartialEq.eq g.R.Rule.holds g.met.R.Rule.alike g.met.K.Eq.laws.symm _ c.args.k.now c.in-Some.place at _ c.pair_at.ensures.pair c.pair_at.ensures.kept).1 _ refl

pub returns-then-f-clause-step : goal.returns-then-f-clause-step
returns-then-f-clause-step g c =
    let es = entries c.args.self.now in
    let at = rw c.self.view_is at c.in-Some.ensures in
    let f = find-position (g.K.PartialEq.eq c.args.k.now) es _ at.place.found in
    let h = c.remove_at.ensures.others in
    rw (found-here g.K.PartialEq.eq c.args.self.now c.args.k.now c.in-Some.place at.place _ c.pair_at.ensures.pair) (
      (_, c.if-f.ensures, refl),
      record { same = rw (without-at g.met.K.Eq.laws c.args.k.now es _ at.unique f) h.same; size = h.size; settings = h.settings },
    )

pub returns-then-f-clause-finds : goal.returns-then-f-clause-finds
returns-then-f-clause-finds g c =
    let es = entries c.args.self.now in
    let at = rw c.self.view_is at c.in-Some.ensures in
    let f = find-position (g.K.PartialEq.eq c.args.k.now) es _ at.place.found in
    λ _. finds-removed g.met.K.Eq.laws es _ c.args.k.now _ c.remove_at.ensures.others.same at.unique f

pub returns-then-f-clause-array : goal.returns-then-f-clause-array
returns-then-f-clause-array g c =
    let out = c.remove_at.ensures.array in
    record {
      smaller = out.smaller;
      due = λ _. out.due tt;
      noted = (search rules);
      relocates = λ _. out.relocates tt;
      waiting = (search rules);
    }

pub returns-then-f-clause-answer : goal.returns-then-f-clause-answer
returns-then-f-clause-answer g c =
    let at = rw c.self.view_is at c.in-Some.ensures.place in
    λ _. (_, (met-there g.K.PartialEq.eq g.R.Rule.holds g.met.R.Rule.alike g.met.K.Eq.laws.symm _ c.args.k.now c.in-Some.place at _ c.pair_at.ensures.pair c.pair_at.ensures.kept).1, (_, c.if-f.ensures, refl))

pub returns-else-f-clause-step : goal.returns-else-f-clause-step
returns-else-f-clause-step g c =
    let at = rw c.self.view_is at c.in-Some.ensures in
    rw (found-here g.K.PartialEq.eq c.args.self.now c.args.k.now c.in-Some.place at.place _ c.pair_at.ensures.pair) ((_, c.if-f.ensures, refl), record { exact = refl; buckets = refl; settings = refl })

pub returns-else-f-clause-array : goal.returns-else-f-clause-array
returns-else-f-clause-array g c =
    record {
      smaller = (search rules);
      due = (search rules);
      noted = (search rules);
      relocates = (search rules);
      waiting = (search rules);
    }

pub returns-in-None-clause-step : goal.returns-in-None-clause-step
returns-in-None-clause-step g c = rw (← c.self.view_is, find-position_none (g.K.PartialEq.eq c.args.k.now) (entries c.self.inside.table) c.in-None.ensures.place) (refl, record { exact = refl; buckets = refl; settings = refl })

pub returns-in-None-clause-array : goal.returns-in-None-clause-array
returns-in-None-clause-array g c =
    record {
      smaller = (search rules);
      due = (search rules);
      noted = (search rules);
      relocates = (search rules);
      waiting = (search rules);
    }
