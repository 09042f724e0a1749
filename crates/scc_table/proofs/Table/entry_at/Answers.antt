use Rattle.std.proofs.Common.{◌≡◌, ◌-◌, Some, slice_get, subst, arith}
use Rattle.scc_common.specs.Contents.{entries, hash_in}
use Rattle.scc_table.specs.Places.{index_of}
use Rattle.scc_table.proofs.places.OldSpots.{own-get, old-get}
use Rattle.scc_table.proofs.arrays.OneBucket.{old-here, own-here}
use Rattle.scc_table.proofs.Table.entry_at.Goals as goal

pub entry_in-requires : goal.entry_in-requires
entry_in-requires g c =
    (own-here c.self.invariant c.args.place c.self.view_is c.requires (omega (arith, c.bucket_count-count.ensures.count))).0

pub returns-then-place-count-clause-entry : goal.returns-then-place-count-clause-entry
returns-then-place-count-clause-entry g c =
    let t = c.self.inside in
    let hk = hash_in g.H.Hashes.hash_of t.current in
    let hash = λ (e : g.row.E.Denot). hk (g.E.Keyed.key_of e) in
    let p = c.args.place in
    let e = c.entry_in.result.now in
    let at = own-here c.self.invariant c.args.place c.self.view_is c.requires (omega (arith, c.bucket_count-count.ensures.count)) in
    subst (λ d. slice_get (entries d) (index_of d p) ≡ Some e) c.self.view_is (own-get hash t.current t.draining.waiting.items t.draining.array c.self.invariant.arrays p at.0.bucket at.1 e c.entry_in.ensures)

pub entry_at-requires-clause-bucket : goal.entry_at-requires-clause-bucket
entry_at-requires-clause-bucket g c =
    (old-here c.self.invariant c.args.place c.self.view_is c.requires c.bucket_count-count.result c.bucket_count-count.ensures.count c.if-place-count.false).1

pub entry_at-requires-clause-slot : goal.entry_at-requires-clause-slot
entry_at-requires-clause-slot g c =
    (old-here c.self.invariant c.args.place c.self.view_is c.requires c.bucket_count-count.result c.bucket_count-count.ensures.count c.if-place-count.false).2

pub returns-clause-entry : goal.returns-clause-entry
returns-clause-entry g c =
    let t = c.self.inside in
    let hk = hash_in g.H.Hashes.hash_of t.current in
    let hash = λ (e : g.row.E.Denot). hk (g.E.Keyed.key_of e) in
    let p = c.args.place in
    let e = c.entry_at.result.now in
    let at = old-here c.self.invariant c.args.place c.self.view_is c.requires c.bucket_count-count.result c.bucket_count-count.ensures.count c.if-place-count.false in
    let j = p.bucket - c.bucket_count-count.result in
    subst (λ d. slice_get (entries d) (index_of d p) ≡ Some e) c.self.view_is (old-get hash t.current t.draining.waiting.items t.draining.array c.self.invariant.arrays j p.slot e at.1 c.entry_at.ensures p at.0 (omega arith))
