use Rattle.scc_common.specs.Contents.{hash_in}
use Rattle.std.proofs.Common.{◌<◌, rules, length}
use Rattle.scc_buckets.proofs.Bounds.{listed-view, routed-view}
use Rattle.scc_buckets.proofs.Inserts.{bucket-bound}
use Rattle.scc_buckets.proofs.Views.{count-view, entries-view, list-view, settings-view}
use Rattle.scc_array.specs.Shelves.{shelf_of}
use Rattle.scc_buckets.proofs.Arrays.{shelf-at}
use Rattle.scc_buckets.proofs.Buckets.list_len.Goals as goal

pub bucket_len-requires-clause-bucket : goal.bucket_len-requires-clause-bucket
bucket_len-requires-clause-bucket g c =
    let l = rw (count-view c.self.inside.buckets _ c.args.self.now c.self.view_is) at c.requires in
    search rules

pub bucket_len-requires-clause-few : goal.bucket_len-requires-clause-few
bucket_len-requires-clause-few g c =
    let bs = c.self.inside.buckets in
    let l : c.args.bucket < length bs = rw (count-view bs _ c.args.self.now c.self.view_is) at c.requires in
    bucket-bound (λ e. g.H.Hashes.hash_of c.self.inside.router.hasher (g.E.Keyed.key_of e)) c.self.inside.router.skipped c.self.inside.length c.self.inside.overflowing c.args.bucket bs (shelf_of c.self.inside.buckets c.args.bucket) c.self.invariant.table l (shelf-at c.self.inside.buckets c.args.bucket l)

pub returns-clause-len : goal.returns-clause-len
returns-clause-len g c =
    let bs = c.self.inside.buckets in
    let l : c.args.bucket < length bs = rw (count-view bs _ c.args.self.now c.self.view_is) at c.requires in
    rw (list-view bs _ c.args.self.now c.self.view_is c.args.bucket (shelf_of c.self.inside.buckets c.args.bucket) l (shelf-at c.self.inside.buckets c.args.bucket l)) c.bucket_len.ensures

pub returns-clause-listed : goal.returns-clause-listed
returns-clause-listed g c =
    λ bounded.
    rw (settings-view c.self.inside.buckets _ c.args.self.now c.self.view_is, hash_in)
    (listed-view (λ e. g.H.Hashes.hash_of c.self.inside.router.hasher (g.E.Keyed.key_of e)) _ _ c.self.inside.buckets _ c.args.self.now c.self.view_is c.self.invariant.table bounded)

pub returns-clause-routed : goal.returns-clause-routed
returns-clause-routed g c =
    rw (settings-view c.self.inside.buckets _ c.args.self.now c.self.view_is, hash_in)
    (routed-view (λ e. g.H.Hashes.hash_of c.self.inside.router.hasher (g.E.Keyed.key_of e)) _ _ c.self.inside.buckets _ c.args.self.now c.self.view_is c.self.invariant.table)

pub returns-clause-unique : goal.returns-clause-unique
returns-clause-unique g c = rw (entries-view c.self.inside.buckets _ c.args.self.now c.self.view_is) c.self.invariant.unique
