use Rattle.std.proofs.Common.{ℕ, ◌≤◌, ◌<◌, arith}
use Rattle.scc_common.specs.Contents.{bucket_count, settings_of}
use Rattle.scc_array.specs.ShelfWrites.{put_whole}
use Rattle.scc_table.proofs.arrays.WritesAt.{near-is, near-got, near-kept, near-written, far-bucket, far-slot, far-got, far-kept, far-written}
use Rattle.scc_table.proofs.Table.replace_at.Goals as goal

pub replace_at-requires-clause-within : goal.replace_at-requires-clause-within
replace_at-requires-clause-within g c =
    let hashes : g.row.H.Denot → g.row.E-Key.Denot → ℕ = λ s k. g.H.Hashes.hash_of s k in
    let near : c.args.place.bucket < bucket_count c.self.inside.current = omega (arith, c.bucket_count-count.ensures.count) in
    near-is g.met.E.Key.Eq.laws hashes c.self.invariant c.self.view_is c.args.place c.requires.within near

pub replace_at-requires-clause-same : goal.replace_at-requires-clause-same
replace_at-requires-clause-same g c =
    let hashes : g.row.H.Denot → g.row.E-Key.Denot → ℕ = λ s k. g.H.Hashes.hash_of s k in
    let near : c.args.place.bucket < bucket_count c.self.inside.current = omega (arith, c.bucket_count-count.ensures.count) in
    λ e got. c.requires.same e (near-got g.met.E.Key.Eq.laws hashes c.self.invariant c.self.view_is c.args.place c.requires.within near e got)

pub invariant_of-self : goal.invariant_of-self
invariant_of-self g c =
    let hashes : g.row.H.Denot → g.row.E-Key.Denot → ℕ = λ s k. g.H.Hashes.hash_of s k in
    let near : c.args.place.bucket < bucket_count c.self.inside.current = omega (arith, c.bucket_count-count.ensures.count) in
    near-kept g.met.E.Key.Eq.laws hashes c.self.invariant c.self.view_is c.args.place c.requires.within near put_whole c.args.entry c.replace_at.new.self c.replace_at.ensures.new c.replace_at.result c.replace_at.ensures.old
    (c.requires.same c.replace_at.result (near-got g.met.E.Key.Eq.laws hashes c.self.invariant c.self.view_is c.args.place c.requires.within near c.replace_at.result c.replace_at.ensures.old))

pub returns-then-place-count-clause-old : goal.returns-then-place-count-clause-old
returns-then-place-count-clause-old g c =
    let hashes : g.row.H.Denot → g.row.E-Key.Denot → ℕ = λ s k. g.H.Hashes.hash_of s k in
    let near : c.args.place.bucket < bucket_count c.self.inside.current = omega (arith, c.bucket_count-count.ensures.count) in
    near-got g.met.E.Key.Eq.laws hashes c.self.invariant c.self.view_is c.args.place c.requires.within near c.replace_at.result c.replace_at.ensures.old

pub returns-then-place-count-clause-new : goal.returns-then-place-count-clause-new
returns-then-place-count-clause-new g c =
    let hashes : g.row.H.Denot → g.row.E-Key.Denot → ℕ = λ s k. g.H.Hashes.hash_of s k in
    let near : c.args.place.bucket < bucket_count c.self.inside.current = omega (arith, c.bucket_count-count.ensures.count) in
    near-written g.met.E.Key.Eq.laws hashes c.self.invariant c.self.view_is c.args.place c.requires.within near put_whole c.args.entry c.replace_at.new.self c.replace_at.ensures.new

pub replace_at-requires-2-clause-bucket : goal.replace_at-requires-2-clause-bucket
replace_at-requires-2-clause-bucket g c =
    let hashes : g.row.H.Denot → g.row.E-Key.Denot → ℕ = λ s k. g.H.Hashes.hash_of s k in
    let far : bucket_count c.self.inside.current ≤ c.args.place.bucket = omega (arith, c.bucket_count-count.ensures.count) in
    far-bucket g.met.E.Key.Eq.laws hashes c.self.invariant c.self.view_is c.args.place c.requires.within far c.bucket_count-count.result c.bucket_count-count.ensures.count

pub replace_at-requires-2-clause-slot : goal.replace_at-requires-2-clause-slot
replace_at-requires-2-clause-slot g c =
    let hashes : g.row.H.Denot → g.row.E-Key.Denot → ℕ = λ s k. g.H.Hashes.hash_of s k in
    let far : bucket_count c.self.inside.current ≤ c.args.place.bucket = omega (arith, c.bucket_count-count.ensures.count) in
    far-slot g.met.E.Key.Eq.laws hashes c.self.invariant c.self.view_is c.args.place c.requires.within far c.bucket_count-count.result c.bucket_count-count.ensures.count

pub invariant_of-self-2 : goal.invariant_of-self-2
invariant_of-self-2 g c =
    let hashes : g.row.H.Denot → g.row.E-Key.Denot → ℕ = λ s k. g.H.Hashes.hash_of s k in
    let far : bucket_count c.self.inside.current ≤ c.args.place.bucket = omega (arith, c.bucket_count-count.ensures.count) in
    let equal = c.requires.same c.replace_at-2.result (far-got g.met.E.Key.Eq.laws hashes c.self.invariant c.self.view_is c.args.place c.requires.within far c.bucket_count-count.result c.bucket_count-count.ensures.count c.replace_at-2.result c.replace_at-2.ensures.old) in
    far-kept g.met.E.Key.Eq.laws hashes c.self.invariant c.self.view_is c.args.place c.requires.within far c.bucket_count-count.result c.bucket_count-count.ensures.count c.replace_at-2.result c.replace_at-2.ensures.old put_whole c.args.entry (g.met.H.Hashes.respects_eq (settings_of c.self.inside.current).hasher (g.E.Keyed.key_of c.args.entry) (g.E.Keyed.key_of c.replace_at-2.result) equal) c.replace_at-2.new.self c.replace_at-2.ensures.new
    (equal)

pub returns-clause-old : goal.returns-clause-old
returns-clause-old g c =
    let hashes : g.row.H.Denot → g.row.E-Key.Denot → ℕ = λ s k. g.H.Hashes.hash_of s k in
    let far : bucket_count c.self.inside.current ≤ c.args.place.bucket = omega (arith, c.bucket_count-count.ensures.count) in
    far-got g.met.E.Key.Eq.laws hashes c.self.invariant c.self.view_is c.args.place c.requires.within far c.bucket_count-count.result c.bucket_count-count.ensures.count c.replace_at-2.result c.replace_at-2.ensures.old

pub returns-clause-new : goal.returns-clause-new
returns-clause-new g c =
    let hashes : g.row.H.Denot → g.row.E-Key.Denot → ℕ = λ s k. g.H.Hashes.hash_of s k in
    let far : bucket_count c.self.inside.current ≤ c.args.place.bucket = omega (arith, c.bucket_count-count.ensures.count) in
    let equal = c.requires.same c.replace_at-2.result (far-got g.met.E.Key.Eq.laws hashes c.self.invariant c.self.view_is c.args.place c.requires.within far c.bucket_count-count.result c.bucket_count-count.ensures.count c.replace_at-2.result c.replace_at-2.ensures.old) in
    far-written g.met.E.Key.Eq.laws hashes c.self.invariant c.self.view_is c.args.place c.requires.within far c.bucket_count-count.result c.bucket_count-count.ensures.count c.replace_at-2.result c.replace_at-2.ensures.old put_whole c.args.entry (g.met.H.Hashes.respects_eq (settings_of c.self.inside.current).hasher (g.E.Keyed.key_of c.args.entry) (g.E.Keyed.key_of c.replace_at-2.result) equal) c.replace_at-2.new.self c.replace_at-2.ensures.new
