use Rattle.std.proofs.Common.{rules}
use Rattle.scc_buckets.proofs.Views.{count-view, list-view}
use Rattle.scc_array.specs.Shelves.{shelf_of}
use Rattle.scc_buckets.proofs.Arrays.{shelf-at}
use Rattle.scc_buckets.proofs.Buckets.entry_in.Goals as goal

pub entry_at-requires-clause-bucket : goal.entry_at-requires-clause-bucket
entry_at-requires-clause-bucket g c = let within = rw (count-view c.self.inside.buckets _ c.args.self.now c.self.view_is) at c.requires.bucket in search rules

pub entry_at-requires-clause-slot : goal.entry_at-requires-clause-slot
entry_at-requires-clause-slot g c =
    let within = rw (count-view c.self.inside.buckets _ c.args.self.now c.self.view_is) at c.requires.bucket in
    rw (list-view c.self.inside.buckets _ c.args.self.now c.self.view_is c.args.place.bucket (shelf_of c.self.inside.buckets c.args.place.bucket) within (shelf-at c.self.inside.buckets c.args.place.bucket within)) at c.requires.slot

pub returns : goal.returns
returns g c =
    let within = rw (count-view c.self.inside.buckets _ c.args.self.now c.self.view_is) at c.requires.bucket in
    let here = list-view c.self.inside.buckets _ c.args.self.now c.self.view_is c.args.place.bucket (shelf_of c.self.inside.buckets c.args.place.bucket) within (shelf-at c.self.inside.buckets c.args.place.bucket within) in
    rw here c.entry_at.ensures
