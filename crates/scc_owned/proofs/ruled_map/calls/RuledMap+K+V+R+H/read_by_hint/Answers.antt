use Rattle.std.proofs.Common.{◌≡◌, ◌∙◌, None, Some, true, refl, sym}
use Rattle.scc_buckets.proofs.Finds.{lookup-find}
use Rattle.scc_common.specs.Contents.{entries}
use Rattle.scc_common.specs.Pairs.{find}
use Rattle.scc_owned.proofs.RuledPairs.{found-key, under}
use Rattle.scc_owned.proofs.ruled_map.calls.RuledMap+K+V+R+H.read_by_hint.Goals as goal

pub f-requires : goal.f-requires
f-requires g c =
    let k = c.args.k.now in
    let equal : g.K.PartialEq.eq k c.parts.result.0.now ≡ true = rw c.parts.ensures.key (found-key g.K.PartialEq.eq (entries c.self.inside.table) k c.in-Some.entry.now (sym c.in-Some.ensures)) in
    c.requires _ _ equal c.parts.ensures.allowed (under g.K.PartialEq.eq g.R.Rule.holds g.met.R.Rule.alike g.met.K.Eq.laws.symm k _ _ equal c.parts.ensures.allowed)

pub returns-in-Some-clause-step : goal.returns-in-Some-clause-step
returns-in-Some-clause-step g c =
    let es = entries c.self.inside.table in
    let here : find g.K.PartialEq.eq es c.args.k.now ≡ Some (c.parts.result.0.now, c.parts.result.1.now) = rw (c.parts.ensures.key, c.parts.ensures.value) (lookup-find (g.K.PartialEq.eq c.args.k.now) es ∙ sym c.in-Some.ensures) in
    rw (← c.self.view_is, here) record { key = _; value = _; shows = refl; met = c.f.ensures }

pub returns-in-Some-clause-answer : goal.returns-in-Some-clause-answer
returns-in-Some-clause-answer g c =
    let k = c.args.k.now in
    let equal : g.K.PartialEq.eq k c.parts.result.0.now ≡ true = rw c.parts.ensures.key (found-key g.K.PartialEq.eq (entries c.self.inside.table) k c.in-Some.entry.now (sym c.in-Some.ensures)) in
    ((c.parts.result.0.now, c.parts.result.1.now), equal, c.parts.ensures.allowed, under g.K.PartialEq.eq g.R.Rule.holds g.met.R.Rule.alike g.met.K.Eq.laws.symm k _ _ equal c.parts.ensures.allowed, record { key = _; value = _; shows = refl; met = c.f.ensures })

pub returns-in-None-clause-step : goal.returns-in-None-clause-step
returns-in-None-clause-step g c =
    let none : find g.K.PartialEq.eq (entries c.self.inside.table) c.args.k.now ≡ None = lookup-find (g.K.PartialEq.eq c.args.k.now) (entries c.self.inside.table) ∙ sym c.in-None.ensures in
    rw (← c.self.view_is, none) refl
