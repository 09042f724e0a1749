use Rattle.std.proofs.Common.{ap}
use Rattle.scc_common.specs.Contents.{bucket_count, settings_of}
use Rattle.scc_common.specs.Hashing.{hash_of}
use Rattle.scc_common.specs.Routing.{bucket_number}
use Rattle.scc_owned_cache.proofs.Caching.{found-or-lacking}
use Rattle.scc_owned_cache.proofs.Owned.place_of.Goals as goal

pub returns : goal.returns
returns g c =
    let t = c.self.inside.table in
    let hashed = rw (← c.self.view_is) at c.requires in
    rw (← c.self.view_is) (found-or-lacking (λ k. hash_of g.H.BuildHasher g.H.Hasher.Hasher (settings_of t).hasher (g.K.Hash.hash_input k)) g.K.PartialEq.eq t c.args.k.now _ c.search_place.result (ap (bucket_number (settings_of t).skipped (bucket_count t)) hashed) c.search_place.ensures)
