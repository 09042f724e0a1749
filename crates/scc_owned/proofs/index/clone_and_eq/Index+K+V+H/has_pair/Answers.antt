use Rattle.std.proofs.Common.{◌≡◌, Some, sym, ◌∙◌, refl}
use Rattle.scc_common.specs.Contents.{entries}
use Rattle.scc_buckets.proofs.Lookups.{find-position, find-position_none}
use Rattle.scc_owned.proofs.index.clone_and_eq.Index+K+V+H.has_pair.Goals as goal

pub returns-in-Some : goal.returns-in-Some
returns-in-Some g c =
    let f = find-position (g.K.PartialEq.eq c.args.k.now) (entries c.self.inside.table) _ c.in-Some.ensures.place.found in
    let here : Some f.0 ≡ Some (c.pair_at.result.0.now, c.pair_at.result.1.now) = sym f.1 ∙ (rw (← c.self.view_is) at c.pair_at.ensures) in
    rw (← c.self.view_is, f.2, here) c.eq.ensures

pub returns-in-None : goal.returns-in-None
returns-in-None g c = rw (← c.self.view_is, find-position_none (g.K.PartialEq.eq c.args.k.now) (entries c.self.inside.table) c.in-None.ensures.place) refl

pub pair_at-requires : goal.pair_at-requires
pair_at-requires g c = let found = rw c.self.view_is at c.in-Some.ensures.place in found.within
