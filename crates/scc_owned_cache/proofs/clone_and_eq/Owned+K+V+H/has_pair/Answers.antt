use Rattle.std.proofs.Common.{◌≡◌, Some, sym, ◌∙◌, refl}
use Rattle.std.specs.List.{slice_get}
use Rattle.scc_common.specs.Contents.{entries}
use Rattle.scc_table.specs.Places.{index_of}
use Rattle.scc_buckets.proofs.Lookups.{find-position, find-position_none}
use Rattle.scc_owned_cache.proofs.clone_and_eq.Owned+K+V+H.has_pair.Goals as goal

pub returns-in-Some : goal.returns-in-Some
returns-in-Some g c =
    let f = find-position (g.K.PartialEq.eq c.args.k.now) (entries c.self.inside.table) _ c.in-Some.ensures.place.found in
    let got : slice_get (entries c.self.inside.table) (index_of c.self.inside.table c.in-Some.place) ≡ Some (c.parts.result.0.now, c.parts.result.1.now) = rw (c.parts.ensures.key, c.parts.ensures.value) c.entry_at.ensures.entry in
    let here : Some f.0 ≡ Some (c.parts.result.0.now, c.parts.result.1.now) = sym f.1 ∙ got in
    rw (← c.self.view_is, f.2, here) c.eq.ensures

pub returns-in-None : goal.returns-in-None
returns-in-None g c = rw (← c.self.view_is, find-position_none (g.K.PartialEq.eq c.args.k.now) (entries c.self.inside.table) c.in-None.ensures.place) refl
