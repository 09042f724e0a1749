use Rattle.std.proofs.Common.{ℕ, ◌≤◌, ◌<◌, ap, ◌∙◌, arith}
use Rattle.scc_common.specs.Contents.{bucket_count, settings_of}
use Rattle.scc_table.proofs.arrays.WritesAt.{near-is, near-got, near-kept, near-written, far-bucket, far-slot, far-got, far-kept, far-written}
use Rattle.scc_table.proofs.Table.replace_key_at.Goals as goal

pub replace_key_at-requires-clause-within : goal.replace_key_at-requires-clause-within
replace_key_at-requires-clause-within g c =
    let hashes : g.row.H.Denot → g.row.E-Key.Denot → ℕ = λ s k. g.H.Hashes.hash_of s k in
    let near : c.args.place.bucket < bucket_count c.self.inside.current = omega (arith, c.bucket_count-count.ensures.count) in
    near-is g.met.E.Key.Eq.laws hashes c.self.invariant c.self.view_is c.args.place c.requires.within near

pub replace_key_at-requires-clause-same : goal.replace_key_at-requires-clause-same
replace_key_at-requires-clause-same g c =
    let hashes : g.row.H.Denot → g.row.E-Key.Denot → ℕ = λ s k. g.H.Hashes.hash_of s k in
    let near : c.args.place.bucket < bucket_count c.self.inside.current = omega (arith, c.bucket_count-count.ensures.count) in
    λ e got. c.requires.same e (near-got g.met.E.Key.Eq.laws hashes c.self.invariant c.self.view_is c.args.place c.requires.within near e got)

pub invariant_of-self : goal.invariant_of-self
invariant_of-self g c =
    let hashes : g.row.H.Denot → g.row.E-Key.Denot → ℕ = λ s k. g.H.Hashes.hash_of s k in
    let near : c.args.place.bucket < bucket_count c.self.inside.current = omega (arith, c.bucket_count-count.ensures.count) in
    near-kept g.met.E.Key.Eq.laws hashes c.self.invariant c.self.view_is c.args.place c.requires.within near g.E.Valued.with_key c.args.key c.replace_key_at.new.self c.replace_key_at.ensures.new c.replace_key_at.ensures.old.0 c.replace_key_at.ensures.old.1
    (ap (λ k. g.E.Key.PartialEq.eq k (g.E.Keyed.key_of c.replace_key_at.ensures.old.0)) (g.met.E.Valued.key_is c.replace_key_at.ensures.old.0 c.args.key) ∙ c.requires.same c.replace_key_at.ensures.old.0 (near-got g.met.E.Key.Eq.laws hashes c.self.invariant c.self.view_is c.args.place c.requires.within near c.replace_key_at.ensures.old.0 c.replace_key_at.ensures.old.1))

pub returns-then-place-count-clause-old : goal.returns-then-place-count-clause-old
returns-then-place-count-clause-old g c =
    let hashes : g.row.H.Denot → g.row.E-Key.Denot → ℕ = λ s k. g.H.Hashes.hash_of s k in
    let near : c.args.place.bucket < bucket_count c.self.inside.current = omega (arith, c.bucket_count-count.ensures.count) in
    (c.replace_key_at.ensures.old.0, near-got g.met.E.Key.Eq.laws hashes c.self.invariant c.self.view_is c.args.place c.requires.within near c.replace_key_at.ensures.old.0 c.replace_key_at.ensures.old.1, c.replace_key_at.ensures.old.2)

pub returns-then-place-count-clause-new : goal.returns-then-place-count-clause-new
returns-then-place-count-clause-new g c =
    let hashes : g.row.H.Denot → g.row.E-Key.Denot → ℕ = λ s k. g.H.Hashes.hash_of s k in
    let near : c.args.place.bucket < bucket_count c.self.inside.current = omega (arith, c.bucket_count-count.ensures.count) in
    near-written g.met.E.Key.Eq.laws hashes c.self.invariant c.self.view_is c.args.place c.requires.within near g.E.Valued.with_key c.args.key c.replace_key_at.new.self c.replace_key_at.ensures.new

pub replace_key_at-requires-2-clause-bucket : goal.replace_key_at-requires-2-clause-bucket
replace_key_at-requires-2-clause-bucket g c =
    let hashes : g.row.H.Denot → g.row.E-Key.Denot → ℕ = λ s k. g.H.Hashes.hash_of s k in
    let far : bucket_count c.self.inside.current ≤ c.args.place.bucket = omega (arith, c.bucket_count-count.ensures.count) in
    far-bucket g.met.E.Key.Eq.laws hashes c.self.invariant c.self.view_is c.args.place c.requires.within far c.bucket_count-count.result c.bucket_count-count.ensures.count

pub replace_key_at-requires-2-clause-slot : goal.replace_key_at-requires-2-clause-slot
replace_key_at-requires-2-clause-slot g c =
    let hashes : g.row.H.Denot → g.row.E-Key.Denot → ℕ = λ s k. g.H.Hashes.hash_of s k in
    let far : bucket_count c.self.inside.current ≤ c.args.place.bucket = omega (arith, c.bucket_count-count.ensures.count) in
    far-slot g.met.E.Key.Eq.laws hashes c.self.invariant c.self.view_is c.args.place c.requires.within far c.bucket_count-count.result c.bucket_count-count.ensures.count

pub invariant_of-self-2 : goal.invariant_of-self-2
invariant_of-self-2 g c =
    let hashes : g.row.H.Denot → g.row.E-Key.Denot → ℕ = λ s k. g.H.Hashes.hash_of s k in
    let far : bucket_count c.self.inside.current ≤ c.args.place.bucket = omega (arith, c.bucket_count-count.ensures.count) in
    let equal = c.requires.same c.replace_key_at-2.ensures.old.0 (far-got g.met.E.Key.Eq.laws hashes c.self.invariant c.self.view_is c.args.place c.requires.within far c.bucket_count-count.result c.bucket_count-count.ensures.count c.replace_key_at-2.ensures.old.0 c.replace_key_at-2.ensures.old.1) in
    far-kept g.met.E.Key.Eq.laws hashes c.self.invariant c.self.view_is c.args.place c.requires.within far c.bucket_count-count.result c.bucket_count-count.ensures.count c.replace_key_at-2.ensures.old.0 c.replace_key_at-2.ensures.old.1 g.E.Valued.with_key c.args.key (ap (g.H.Hashes.hash_of (settings_of c.self.inside.current).hasher) (g.met.E.Valued.key_is c.replace_key_at-2.ensures.old.0 c.args.key) ∙ g.met.H.Hashes.respects_eq (settings_of c.self.inside.current).hasher c.args.key (g.E.Keyed.key_of c.replace_key_at-2.ensures.old.0) equal) c.replace_key_at-2.new.self c.replace_key_at-2.ensures.new
    (ap (λ k. g.E.Key.PartialEq.eq k (g.E.Keyed.key_of c.replace_key_at-2.ensures.old.0)) (g.met.E.Valued.key_is c.replace_key_at-2.ensures.old.0 c.args.key) ∙ equal)

pub returns-clause-old : goal.returns-clause-old
returns-clause-old g c =
    let hashes : g.row.H.Denot → g.row.E-Key.Denot → ℕ = λ s k. g.H.Hashes.hash_of s k in
    let far : bucket_count c.self.inside.current ≤ c.args.place.bucket = omega (arith, c.bucket_count-count.ensures.count) in
    (c.replace_key_at-2.ensures.old.0, far-got g.met.E.Key.Eq.laws hashes c.self.invariant c.self.view_is c.args.place c.requires.within far c.bucket_count-count.result c.bucket_count-count.ensures.count c.replace_key_at-2.ensures.old.0 c.replace_key_at-2.ensures.old.1, c.replace_key_at-2.ensures.old.2)

pub returns-clause-new : goal.returns-clause-new
returns-clause-new g c =
    let hashes : g.row.H.Denot → g.row.E-Key.Denot → ℕ = λ s k. g.H.Hashes.hash_of s k in
    let far : bucket_count c.self.inside.current ≤ c.args.place.bucket = omega (arith, c.bucket_count-count.ensures.count) in
    let equal = c.requires.same c.replace_key_at-2.ensures.old.0 (far-got g.met.E.Key.Eq.laws hashes c.self.invariant c.self.view_is c.args.place c.requires.within far c.bucket_count-count.result c.bucket_count-count.ensures.count c.replace_key_at-2.ensures.old.0 c.replace_key_at-2.ensures.old.1) in
    far-written g.met.E.Key.Eq.laws hashes c.self.invariant c.self.view_is c.args.place c.requires.within far c.bucket_count-count.result c.bucket_count-count.ensures.count c.replace_key_at-2.ensures.old.0 c.replace_key_at-2.ensures.old.1 g.E.Valued.with_key c.args.key (ap (g.H.Hashes.hash_of (settings_of c.self.inside.current).hasher) (g.met.E.Valued.key_is c.replace_key_at-2.ensures.old.0 c.args.key) ∙ g.met.H.Hashes.respects_eq (settings_of c.self.inside.current).hasher c.args.key (g.E.Keyed.key_of c.replace_key_at-2.ensures.old.0) equal) c.replace_key_at-2.new.self c.replace_key_at-2.ensures.new

pub returns-then-place-count-clause-unique : goal.returns-then-place-count-clause-unique
returns-then-place-count-clause-unique g c = (invariant_of-self g c).unique

pub returns-clause-unique : goal.returns-clause-unique
returns-clause-unique g c = (invariant_of-self-2 g c).unique

pub replace_key_at-requires-2-clause-same : goal.replace_key_at-requires-2-clause-same
replace_key_at-requires-2-clause-same g c =
    let hashes : g.row.H.Denot → g.row.E-Key.Denot → ℕ = λ s k. g.H.Hashes.hash_of s k in
    let n = c.bucket_count-count.result in
    let far : bucket_count c.self.inside.current ≤ c.args.place.bucket = omega (arith, c.bucket_count-count.ensures.count) in
    λ e got. c.requires.same e (far-got g.met.E.Key.Eq.laws hashes c.self.invariant c.self.view_is c.args.place c.requires.within far n c.bucket_count-count.ensures.count e got)
