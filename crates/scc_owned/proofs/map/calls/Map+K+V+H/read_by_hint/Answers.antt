use Rattle.std.proofs.Common.{◌≡◌, Some, None, refl, sym, ◌∙◌}
use Rattle.scc_common.specs.Contents.{entries}
use Rattle.scc_common.specs.Pairs.{find}
use Rattle.scc_buckets.proofs.Finds.{lookup-find}
use Rattle.scc_owned.proofs.map.calls.Map+K+V+H.read_by_hint.Goals as goal

pub f-requires : goal.f-requires
f-requires g c =
    let here : find g.K.PartialEq.eq (entries c.self.inside.table) c.args.k.now ≡ Some c.in-Some.pair.now = lookup-find (g.K.PartialEq.eq c.args.k.now) (entries c.self.inside.table) ∙ sym c.in-Some.ensures in
    c.requires _ _ (rw (← c.self.view_is) here)

pub returns-in-Some : goal.returns-in-Some
returns-in-Some g c =
    let here : find g.K.PartialEq.eq (entries c.self.inside.table) c.args.k.now ≡ Some c.in-Some.pair.now = lookup-find (g.K.PartialEq.eq c.args.k.now) (entries c.self.inside.table) ∙ sym c.in-Some.ensures in
    rw (← c.self.view_is, here) record { answer = record { key = _; value = _; shows = refl; met = c.f.ensures } }

pub returns-in-None : goal.returns-in-None
returns-in-None g c =
    let none : find g.K.PartialEq.eq (entries c.self.inside.table) c.args.k.now ≡ None = lookup-find (g.K.PartialEq.eq c.args.k.now) (entries c.self.inside.table) ∙ sym c.in-None.ensures in
    rw (← c.self.view_is, none) record { answer = refl }
