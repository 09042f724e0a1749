use Rattle.scc_array.specs.Shelves.{shelf_of}
use Rattle.scc_buckets.proofs.Arrays.{shelf-at}
use Rattle.scc_buckets.proofs.Inserts.{bucket-bound}
use Rattle.scc_buckets.proofs.Views.{entries-view}
use Rattle.scc_buckets.proofs.Buckets.array.Goals as goal

pub returns-clause-all : goal.returns-clause-all
returns-clause-all g c = entries-view c.self.inside.buckets _ c.args.self.now c.self.view_is

pub returns-clause-few : goal.returns-clause-few
returns-clause-few g c = λ i l.
    let bs = c.self.inside.buckets in
    bucket-bound (λ e. g.H.Hashes.hash_of c.self.inside.router.hasher (g.E.Keyed.key_of e)) c.self.inside.router.skipped c.self.inside.length c.self.inside.overflowing i bs (shelf_of bs i) c.self.invariant.table l (shelf-at bs i l)
