use Rattle.std.proofs.Common.{ℕ, ◌-◌, ◌<◌, ◌≤◌, set, refl, ap, ◌∙◌, subst, arith}
use Rattle.scc_array.specs.Shelves.{shelf_of}
use Rattle.scc_array.specs.ShelfWrites.{shelf_write_at}
use Rattle.scc_common.specs.Contents.{Contents, IsUniqueBy, bucket_count, hash_in}
use Rattle.scc_buckets.specs.Writes as writes
use Rattle.scc_table.proofs.places.Searches.{near-not_waiting}
use Rattle.scc_table.proofs.arrays.Writes.{place-seen}
use Rattle.scc_table.proofs.arrays.WritesAt.{near-is, near-got, near-kept, near-written, far-bucket, far-slot, far-got, far-kept, far-written}
use Rattle.scc_table.proofs.Table.parts_mut_at.Goals as goal
use Rattle.scc_table.proofs.Table.parts_mut_at.Goals.{then-self-eq0-via-then-self-eq0, then-self-eq0-via-else-self-eq0+then-place-count}

pub parts_mut_at-requires : goal.parts_mut_at-requires
parts_mut_at-requires g c =
    let hashes : g.row.H.Denot → g.row.E-Key.Denot → ℕ = λ s k. g.H.Hashes.hash_of s k in
    let t = c.self.inside in
    let hk = hash_in g.H.Hashes.hash_of t.current in
    let within = place-seen c.self.invariant c.args.place c.self.view_is c.requires in
    let near : c.args.place.bucket < bucket_count t.current = elim c.then-self-eq0.branch [
      | then-self-eq0-via-then-self-eq0 w ↦ near-not_waiting (λ e. hk (g.E.Keyed.key_of e)) t.current t.draining.array t.draining.waiting.items (c.self.invariant.none w.if-self-eq0.true) c.args.place within
      | then-self-eq0-via-else-self-eq0+then-place-count w ↦ omega (arith, c.bucket_count-count.ensures.count, w.if-place-count.true)
    ] in
    near-is g.met.E.Key.Eq.laws hashes c.self.invariant c.self.view_is c.args.place c.requires near

pub invariant_of-self-lent : goal.invariant_of-self-lent
invariant_of-self-lent g c = λ w.
    let hashes : g.row.H.Denot → g.row.E-Key.Denot → ℕ = λ s k. g.H.Hashes.hash_of s k in
    let t = c.self.inside in
    let hk = hash_in g.H.Hashes.hash_of t.current in
    let within = place-seen c.self.invariant c.args.place c.self.view_is c.requires in
    let near : c.args.place.bucket < bucket_count t.current = elim c.then-self-eq0.branch [
      | then-self-eq0-via-then-self-eq0 w ↦ near-not_waiting (λ e. hk (g.E.Keyed.key_of e)) t.current t.draining.array t.draining.waiting.items (c.self.invariant.none w.if-self-eq0.true) c.args.place within
      | then-self-eq0-via-else-self-eq0+then-place-count w ↦ omega (arith, c.bucket_count-count.ensures.count, w.if-place-count.true)
    ] in
    let x = c.parts_mut_at.ensures.parts in
    let same = ap (λ k. g.E.Key.PartialEq.eq k (g.E.Keyed.key_of x.0)) (g.met.E.Valued.value_keeps_key x.0 w) ∙ g.met.E.Key.Eq.laws.refl (g.E.Keyed.key_of x.0) in
    near-kept g.met.E.Key.Eq.laws hashes c.self.invariant c.self.view_is c.args.place c.requires near g.E.Valued.with_value w (writes.with_write_at_spot g.E.Valued.with_value t.current c.args.place w) refl x.0 x.1 same

pub returns-then-self-eq0 : goal.returns-then-self-eq0
returns-then-self-eq0 g c =
    let hashes : g.row.H.Denot → g.row.E-Key.Denot → ℕ = λ s k. g.H.Hashes.hash_of s k in
    let t = c.self.inside in
    let hk = hash_in g.H.Hashes.hash_of t.current in
    let within = place-seen c.self.invariant c.args.place c.self.view_is c.requires in
    let near : c.args.place.bucket < bucket_count t.current = elim c.then-self-eq0.branch [
      | then-self-eq0-via-then-self-eq0 w ↦ near-not_waiting (λ e. hk (g.E.Keyed.key_of e)) t.current t.draining.array t.draining.waiting.items (c.self.invariant.none w.if-self-eq0.true) c.args.place within
      | then-self-eq0-via-else-self-eq0+then-place-count w ↦ omega (arith, c.bucket_count-count.ensures.count, w.if-place-count.true)
    ] in
    let x = c.parts_mut_at.ensures.parts in
    let there = near-got g.met.E.Key.Eq.laws hashes c.self.invariant c.self.view_is c.args.place c.requires near x.0 x.1 in (
      (refl, λ w. near-written g.met.E.Key.Eq.laws hashes c.self.invariant c.self.view_is c.args.place c.requires near g.E.Valued.with_value w (writes.with_write_at_spot g.E.Valued.with_value t.current c.args.place w) refl),
      record { writes_back = tt; parts = (x.0, there, x.2, x.3); unique = subst (λ (z : Contents g.row.E.Denot g.row.H.Denot). IsUniqueBy g.E.Key.PartialEq.eq g.E.Keyed.key_of z) c.self.view_is c.self.invariant.unique },
    )

pub parts_mut_at-requires-2-clause-bucket : goal.parts_mut_at-requires-2-clause-bucket
parts_mut_at-requires-2-clause-bucket g c =
    let hashes : g.row.H.Denot → g.row.E-Key.Denot → ℕ = λ s k. g.H.Hashes.hash_of s k in
    let far : bucket_count c.self.inside.current ≤ c.args.place.bucket = omega (arith, c.bucket_count-count.ensures.count) in
    far-bucket g.met.E.Key.Eq.laws hashes c.self.invariant c.self.view_is c.args.place c.requires far c.bucket_count-count.result c.bucket_count-count.ensures.count

pub parts_mut_at-requires-2-clause-slot : goal.parts_mut_at-requires-2-clause-slot
parts_mut_at-requires-2-clause-slot g c =
    let hashes : g.row.H.Denot → g.row.E-Key.Denot → ℕ = λ s k. g.H.Hashes.hash_of s k in
    let far : bucket_count c.self.inside.current ≤ c.args.place.bucket = omega (arith, c.bucket_count-count.ensures.count) in
    far-slot g.met.E.Key.Eq.laws hashes c.self.invariant c.self.view_is c.args.place c.requires far c.bucket_count-count.result c.bucket_count-count.ensures.count

pub invariant_of-self-lent-2 : goal.invariant_of-self-lent-2
invariant_of-self-lent-2 g c = λ w.
    let hashes : g.row.H.Denot → g.row.E-Key.Denot → ℕ = λ s k. g.H.Hashes.hash_of s k in
    let t = c.self.inside in
    let n = c.bucket_count-count.result in
    let far : bucket_count t.current ≤ c.args.place.bucket = omega (arith, c.bucket_count-count.ensures.count) in
    let x = c.parts_mut_at-2.ensures.parts in
    let kept = g.met.E.Valued.value_keeps_key x.0 w in
    let same = ap (λ k. g.E.Key.PartialEq.eq k (g.E.Keyed.key_of x.0)) kept ∙ g.met.E.Key.Eq.laws.refl (g.E.Keyed.key_of x.0) in
    let news = set t.draining.array (c.args.place.bucket - n) (shelf_write_at g.E.Valued.with_value (shelf_of t.draining.array (c.args.place.bucket - n)) c.args.place.slot w) in
    far-kept g.met.E.Key.Eq.laws hashes c.self.invariant c.self.view_is c.args.place c.requires far n c.bucket_count-count.ensures.count x.0 x.1 g.E.Valued.with_value w
    (ap (hash_in g.H.Hashes.hash_of t.current) kept) news refl same

pub returns : goal.returns
returns g c =
    let hashes : g.row.H.Denot → g.row.E-Key.Denot → ℕ = λ s k. g.H.Hashes.hash_of s k in
    let t = c.self.inside in
    let n = c.bucket_count-count.result in
    let far : bucket_count t.current ≤ c.args.place.bucket = omega (arith, c.bucket_count-count.ensures.count) in
    let x = c.parts_mut_at-2.ensures.parts in
    let there = far-got g.met.E.Key.Eq.laws hashes c.self.invariant c.self.view_is c.args.place c.requires far n c.bucket_count-count.ensures.count x.0 x.1 in (
      (
        refl,
        λ w. far-written g.met.E.Key.Eq.laws hashes c.self.invariant c.self.view_is c.args.place c.requires far n c.bucket_count-count.ensures.count x.0 x.1 g.E.Valued.with_value w
            (ap (hash_in g.H.Hashes.hash_of t.current) (g.met.E.Valued.value_keeps_key x.0 w))
            (set t.draining.array (c.args.place.bucket - n) (shelf_write_at g.E.Valued.with_value (shelf_of t.draining.array (c.args.place.bucket - n)) c.args.place.slot w)) refl,
      ),
      record { writes_back = tt; parts = (x.0, there, x.2, x.3); unique = subst (λ (z : Contents g.row.E.Denot g.row.H.Denot). IsUniqueBy g.E.Key.PartialEq.eq g.E.Keyed.key_of z) c.self.view_is c.self.invariant.unique },
    )
