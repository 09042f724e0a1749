use Rattle.std.proofs.Common.{◌≡◌, Some, sym, subst}
use Rattle.std.specs.List.{slice_get}
use Rattle.scc_common.specs.Contents.{entries}
use Rattle.scc_table.specs.Places.{IsPlace, index_of, spot_of}
use Rattle.scc_table.proofs.removals.OneList.{got-there}
use Rattle.scc_owned_cache.proofs.Owned.pair_at.Goals as goal

pub entry_at-requires : goal.entry_at-requires
entry_at-requires g c = subst (λ z. IsPlace z.contents c.args.place) (sym c.self.view_is) c.requires

pub returns-clause-pair : goal.returns-clause-pair
returns-clause-pair g c =
    let m = c.self.inside.table in
    let within = subst (λ z. IsPlace z.contents c.args.place) (sym c.self.view_is) c.requires in
    let here : slice_get (entries m) (index_of m c.args.place) ≡ Some (c.parts.result.0.now, c.parts.result.1.now) = rw (c.parts.ensures.key, c.parts.ensures.value) c.entry_at.ensures.entry in
    rw (← c.self.view_is) (got-there m m (spot_of m c.args.place) within (c.parts.result.0.now, c.parts.result.1.now) here)
