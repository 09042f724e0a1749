use Rattle.scc_owned_cache.proofs.Kept.{called-on, last-is, last-present, reads-kept}
use Rattle.scc_owned_cache.proofs.Owned.refresh_sync.Goals as goal

pub f-requires : goal.f-requires
f-requires g c =
    let here = last-present g.K.PartialEq.eq _ c.args.self.now c.args.k.now _ c.in_ok-place.place c.in_ok-place.ensures.step _ c.pair_at.ensures.pair in
    called-on g.K.PartialEq.eq g.R.Rule.holds g.met.R.Rule.alike g.met.K.Eq.laws.symm _ c.args.self.now c.args.k.now g.F.FnOnce c.args.f c.pair_at.result.0 c.pair_at.result.1 here c.pair_at.ensures.kept c.requires

pub returns-clause-answer : goal.returns-clause-answer
returns-clause-answer g c =
    let here = last-present g.K.PartialEq.eq _ c.args.self.now c.args.k.now _ c.in_ok-place.place c.in_ok-place.ensures.step _ c.pair_at.ensures.pair in
    record { key = c.pair_at.result.0; value = c.pair_at.result.1; shows = here; met = c.f.ensures }

pub returns-clause-step : goal.returns-clause-step
returns-clause-step g c =
    let s = c.in_ok-place.ensures.step in
    record { place = c.in_ok-place.place; last = s; key = c.pair_at.result.0; value = c.pair_at.result.1; shows = last-is g.K.PartialEq.eq _ c.args.self.now c.args.k.now _ c.in_ok-place.place s _ c.pair_at.ensures.pair; met = c.f.ensures }

pub returns-clause-kept : goal.returns-clause-kept
returns-clause-kept g c =
    let here = last-present g.K.PartialEq.eq _ c.args.self.now c.args.k.now _ c.in_ok-place.place c.in_ok-place.ensures.step _ c.pair_at.ensures.pair in
    reads-kept g.K.PartialEq.eq g.R.Rule.holds g.met.R.Rule.alike g.met.K.Eq.laws.symm _ c.args.self.now c.args.k.now g.F.FnOnce c.args.f c.pair_at.result.0 c.pair_at.result.1 here c.pair_at.ensures.kept _ c.f.ensures
