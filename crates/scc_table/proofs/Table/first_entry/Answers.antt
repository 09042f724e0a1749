use Rattle.std.proofs.Common.{◌∙◌, sym, ap}
use Rattle.std.specs.List.{slice_get}
use Rattle.scc_common.specs.Contents.{entries, list_of}
use Rattle.scc_buckets.specs.Placed.{at-get}
use Rattle.scc_buckets.specs.Places as spots
use Rattle.scc_buckets.specs.declared.place.Place.{Place}
use Rattle.scc_buckets.proofs.Spots.{place-get}
use Rattle.scc_table.proofs.Table.first_entry.Goals as goal

pub returns : goal.returns
returns g c =
    let d = c.args.self.now in
    let p : Place = record { bucket = c.args.bucket; slot = 0 } in
    let x = at-get (list_of d c.args.bucket) 0 c.requires.some in
    let at : spots.IsSpot d p = record { bucket = c.requires.within; slot = c.requires.some } in
    x ∙ sym (place-get d p at _ x) ∙ ap (slice_get (entries d)) (sym c.in-Some.ensures.index) ∙ c.entry_at.ensures.entry
