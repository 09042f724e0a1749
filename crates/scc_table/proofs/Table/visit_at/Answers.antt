use Rattle.std.proofs.Common.{ℕ, ◌≤◌, ◌<◌, ap, ◌∙◌, subst, arith}
use Rattle.scc_common.specs.Contents.{Contents, IsUniqueBy, bucket_count, hash_in}
use Rattle.scc_table.proofs.places.Searches.{near-not_waiting}
use Rattle.scc_table.proofs.arrays.Writes.{place-seen}
use Rattle.scc_table.proofs.arrays.WritesAt.{near-is, near-got, near-kept, near-written, far-bucket, far-slot, far-got, far-kept, far-written}
use Rattle.scc_table.proofs.Table.visit_at.Goals as goal
use Rattle.scc_table.proofs.Table.visit_at.Goals.{then-self-eq0-via-then-self-eq0, then-self-eq0-via-else-self-eq0+then-place-count}

pub visit_at-requires-clause-within : goal.visit_at-requires-clause-within
visit_at-requires-clause-within g c =
    let hashes : g.row.H.Denot → g.row.E-Key.Denot → ℕ = λ s k. g.H.Hashes.hash_of s k in
    let t = c.self.inside in
    let hk = hash_in g.H.Hashes.hash_of t.current in
    let within = place-seen c.self.invariant c.args.place c.self.view_is c.requires.within in
    let near : c.args.place.bucket < bucket_count t.current = elim c.then-self-eq0.branch [
      | then-self-eq0-via-then-self-eq0 w ↦ near-not_waiting (λ e. hk (g.E.Keyed.key_of e)) t.current t.draining.array t.draining.waiting.items (c.self.invariant.none w.if-self-eq0.true) c.args.place within
      | then-self-eq0-via-else-self-eq0+then-place-count w ↦ omega (arith, c.bucket_count-count.ensures.count, w.if-place-count.true)
    ] in
    near-is g.met.E.Key.Eq.laws hashes c.self.invariant c.self.view_is c.args.place c.requires.within near

pub visit_at-requires-clause-takes : goal.visit_at-requires-clause-takes
visit_at-requires-clause-takes g c =
    let hashes : g.row.H.Denot → g.row.E-Key.Denot → ℕ = λ s k. g.H.Hashes.hash_of s k in
    let t = c.self.inside in
    let hk = hash_in g.H.Hashes.hash_of t.current in
    let within = place-seen c.self.invariant c.args.place c.self.view_is c.requires.within in
    let near : c.args.place.bucket < bucket_count t.current = elim c.then-self-eq0.branch [
      | then-self-eq0-via-then-self-eq0 w ↦ near-not_waiting (λ e. hk (g.E.Keyed.key_of e)) t.current t.draining.array t.draining.waiting.items (c.self.invariant.none w.if-self-eq0.true) c.args.place within
      | then-self-eq0-via-else-self-eq0+then-place-count w ↦ omega (arith, c.bucket_count-count.ensures.count, w.if-place-count.true)
    ] in
    λ e got allowed. c.requires.takes e (near-got g.met.E.Key.Eq.laws hashes c.self.invariant c.self.view_is c.args.place c.requires.within near e got) allowed

pub visit_at-requires-clause-keeps : goal.visit_at-requires-clause-keeps
visit_at-requires-clause-keeps g c =
    let hashes : g.row.H.Denot → g.row.E-Key.Denot → ℕ = λ s k. g.H.Hashes.hash_of s k in
    let t = c.self.inside in
    let hk = hash_in g.H.Hashes.hash_of t.current in
    let within = place-seen c.self.invariant c.args.place c.self.view_is c.requires.within in
    let near : c.args.place.bucket < bucket_count t.current = elim c.then-self-eq0.branch [
      | then-self-eq0-via-then-self-eq0 w ↦ near-not_waiting (λ e. hk (g.E.Keyed.key_of e)) t.current t.draining.array t.draining.waiting.items (c.self.invariant.none w.if-self-eq0.true) c.args.place within
      | then-self-eq0-via-else-self-eq0+then-place-count w ↦ omega (arith, c.bucket_count-count.ensures.count, w.if-place-count.true)
    ] in
    λ e r w s got allowed written. c.requires.keeps e r w s (near-got g.met.E.Key.Eq.laws hashes c.self.invariant c.self.view_is c.args.place c.requires.within near e got) allowed written

pub invariant_of-self : goal.invariant_of-self
invariant_of-self g c =
    let hashes : g.row.H.Denot → g.row.E-Key.Denot → ℕ = λ s k. g.H.Hashes.hash_of s k in
    let t = c.self.inside in
    let hk = hash_in g.H.Hashes.hash_of t.current in
    let within = place-seen c.self.invariant c.args.place c.self.view_is c.requires.within in
    let near : c.args.place.bucket < bucket_count t.current = elim c.then-self-eq0.branch [
      | then-self-eq0-via-then-self-eq0 w ↦ near-not_waiting (λ e. hk (g.E.Keyed.key_of e)) t.current t.draining.array t.draining.waiting.items (c.self.invariant.none w.if-self-eq0.true) c.args.place within
      | then-self-eq0-via-else-self-eq0+then-place-count w ↦ omega (arith, c.bucket_count-count.ensures.count, w.if-place-count.true)
    ] in
    let x = c.visit_at.ensures in
    let kept = g.met.E.Valued.value_keeps_key x.0 x.1 in
    let same = ap (λ k. g.E.Key.PartialEq.eq k (g.E.Keyed.key_of x.0)) kept ∙ g.met.E.Key.Eq.laws.refl (g.E.Keyed.key_of x.0) in
    near-kept g.met.E.Key.Eq.laws hashes c.self.invariant c.self.view_is c.args.place c.requires.within near g.E.Valued.with_value x.1 c.visit_at.new.self x.4 x.0 x.2 same

pub returns-then-self-eq0-clause-step : goal.returns-then-self-eq0-clause-step
returns-then-self-eq0-clause-step g c =
    let hashes : g.row.H.Denot → g.row.E-Key.Denot → ℕ = λ s k. g.H.Hashes.hash_of s k in
    let t = c.self.inside in
    let hk = hash_in g.H.Hashes.hash_of t.current in
    let within = place-seen c.self.invariant c.args.place c.self.view_is c.requires.within in
    let near : c.args.place.bucket < bucket_count t.current = elim c.then-self-eq0.branch [
      | then-self-eq0-via-then-self-eq0 w ↦ near-not_waiting (λ e. hk (g.E.Keyed.key_of e)) t.current t.draining.array t.draining.waiting.items (c.self.invariant.none w.if-self-eq0.true) c.args.place within
      | then-self-eq0-via-else-self-eq0+then-place-count w ↦ omega (arith, c.bucket_count-count.ensures.count, w.if-place-count.true)
    ] in
    let x = c.visit_at.ensures in
    (x.0, x.1, near-got g.met.E.Key.Eq.laws hashes c.self.invariant c.self.view_is c.args.place c.requires.within near x.0 x.2, x.3, near-written g.met.E.Key.Eq.laws hashes c.self.invariant c.self.view_is c.args.place c.requires.within near g.E.Valued.with_value x.1 c.visit_at.new.self x.4, x.5)

pub returns-then-self-eq0-clause-unique : goal.returns-then-self-eq0-clause-unique
returns-then-self-eq0-clause-unique g c =
    subst (λ (z : Contents g.row.E.Denot g.row.H.Denot). IsUniqueBy g.E.Key.PartialEq.eq g.E.Keyed.key_of z) c.self.view_is c.self.invariant.unique

pub visit_at-requires-2-clause-bucket : goal.visit_at-requires-2-clause-bucket
visit_at-requires-2-clause-bucket g c =
    let hashes : g.row.H.Denot → g.row.E-Key.Denot → ℕ = λ s k. g.H.Hashes.hash_of s k in
    let n = c.bucket_count-count.result in
    let far : bucket_count c.self.inside.current ≤ c.args.place.bucket = omega (arith, c.bucket_count-count.ensures.count) in
    far-bucket g.met.E.Key.Eq.laws hashes c.self.invariant c.self.view_is c.args.place c.requires.within far n c.bucket_count-count.ensures.count

pub visit_at-requires-2-clause-slot : goal.visit_at-requires-2-clause-slot
visit_at-requires-2-clause-slot g c =
    let hashes : g.row.H.Denot → g.row.E-Key.Denot → ℕ = λ s k. g.H.Hashes.hash_of s k in
    let n = c.bucket_count-count.result in
    let far : bucket_count c.self.inside.current ≤ c.args.place.bucket = omega (arith, c.bucket_count-count.ensures.count) in
    far-slot g.met.E.Key.Eq.laws hashes c.self.invariant c.self.view_is c.args.place c.requires.within far n c.bucket_count-count.ensures.count

pub visit_at-requires-2-clause-takes : goal.visit_at-requires-2-clause-takes
visit_at-requires-2-clause-takes g c =
    let hashes : g.row.H.Denot → g.row.E-Key.Denot → ℕ = λ s k. g.H.Hashes.hash_of s k in
    let n = c.bucket_count-count.result in
    let far : bucket_count c.self.inside.current ≤ c.args.place.bucket = omega (arith, c.bucket_count-count.ensures.count) in
    λ e got allowed. c.requires.takes e (far-got g.met.E.Key.Eq.laws hashes c.self.invariant c.self.view_is c.args.place c.requires.within far n c.bucket_count-count.ensures.count e got) allowed

pub visit_at-requires-2-clause-keeps : goal.visit_at-requires-2-clause-keeps
visit_at-requires-2-clause-keeps g c =
    let hashes : g.row.H.Denot → g.row.E-Key.Denot → ℕ = λ s k. g.H.Hashes.hash_of s k in
    let n = c.bucket_count-count.result in
    let far : bucket_count c.self.inside.current ≤ c.args.place.bucket = omega (arith, c.bucket_count-count.ensures.count) in
    λ e r w s got allowed written. c.requires.keeps e r w s (far-got g.met.E.Key.Eq.laws hashes c.self.invariant c.self.view_is c.args.place c.requires.within far n c.bucket_count-count.ensures.count e got) allowed written

pub invariant_of-self-2 : goal.invariant_of-self-2
invariant_of-self-2 g c =
    let hashes : g.row.H.Denot → g.row.E-Key.Denot → ℕ = λ s k. g.H.Hashes.hash_of s k in
    let n = c.bucket_count-count.result in
    let far : bucket_count c.self.inside.current ≤ c.args.place.bucket = omega (arith, c.bucket_count-count.ensures.count) in
    let x = c.visit_at-2.ensures in
    let kept = g.met.E.Valued.value_keeps_key x.0 x.1 in
    let same = ap (λ k. g.E.Key.PartialEq.eq k (g.E.Keyed.key_of x.0)) kept ∙ g.met.E.Key.Eq.laws.refl (g.E.Keyed.key_of x.0) in
    far-kept g.met.E.Key.Eq.laws hashes c.self.invariant c.self.view_is c.args.place c.requires.within far n c.bucket_count-count.ensures.count x.0 x.2 g.E.Valued.with_value x.1 (ap (hash_in g.H.Hashes.hash_of c.self.inside.current) kept) c.visit_at-2.new.self x.4 same

pub returns-clause-step : goal.returns-clause-step
returns-clause-step g c =
    let hashes : g.row.H.Denot → g.row.E-Key.Denot → ℕ = λ s k. g.H.Hashes.hash_of s k in
    let n = c.bucket_count-count.result in
    let far : bucket_count c.self.inside.current ≤ c.args.place.bucket = omega (arith, c.bucket_count-count.ensures.count) in
    let x = c.visit_at-2.ensures in
    (x.0, x.1, far-got g.met.E.Key.Eq.laws hashes c.self.invariant c.self.view_is c.args.place c.requires.within far n c.bucket_count-count.ensures.count x.0 x.2, x.3, far-written g.met.E.Key.Eq.laws hashes c.self.invariant c.self.view_is c.args.place c.requires.within far n c.bucket_count-count.ensures.count x.0 x.2 g.E.Valued.with_value x.1 (ap (hash_in g.H.Hashes.hash_of c.self.inside.current) (g.met.E.Valued.value_keeps_key x.0 x.1)) c.visit_at-2.new.self x.4, x.5)

pub returns-clause-unique : goal.returns-clause-unique
returns-clause-unique g c =
    subst (λ (z : Contents g.row.E.Denot g.row.H.Denot). IsUniqueBy g.E.Key.PartialEq.eq g.E.Keyed.key_of z) c.self.view_is c.self.invariant.unique
