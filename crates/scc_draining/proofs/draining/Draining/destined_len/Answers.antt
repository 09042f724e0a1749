use Rattle.std.proofs.Common.{arith}
use Rattle.scc_draining.proofs.FromBuckets.{most-entry_count, within-sources}
use Rattle.scc_draining.proofs.draining.Draining.destined_len.Goals as goal

pub sources-first-requires-clause-multiples : goal.sources-first-requires-clause-multiples
sources-first-requires-clause-multiples g c = rw c.len.ensures.count c.requires.multiples

pub count_all-requires-clause-sources : goal.count_all-requires-clause-sources
count_all-requires-clause-sources g c =
    let hash = λ (e : g.row.E.Denot). g.H.Hashes.hash_of c.args.router.now.hasher (g.E.Keyed.key_of e) in
    let only = rw c.len.ensures.count at c.sources-first.ensures.only in
    let end = rw c.len.ensures.count at c.sources-first.ensures.within in
    within-sources hash c.args.router.now.skipped c.args.count c.args.target c.sources-first.result.0 c.sources-first.result.1 c.args.self.now.array c.requires.own c.sources-first.ensures.order end only

pub count_all-requires-clause-most : goal.count_all-requires-clause-most
count_all-requires-clause-most g c =
    let hash = λ (e : g.row.E.Denot). g.H.Hashes.hash_of c.args.router.now.hasher (g.E.Keyed.key_of e) in
    let most = most-entry_count hash c.args.router.now.skipped c.args.self.now.array c.requires.sized c.requires.own c.requires.few in
    omega arith
