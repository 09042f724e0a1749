use Rattle.std.proofs.Common.{◌≡◌, ◌<◌, ◌⊎◌, inl, inr, arith}
use Rattle.scc_common.specs.Contents.{bucket_count}
use Rattle.scc_table.proofs.removals.CurrentSwaps.{swap-fields, swap-here, swap-taken}
use Rattle.scc_table.proofs.Table.swap_take_at.Goals as goal
use Rattle.scc_table.proofs.Table.swap_take_at.Goals.{then-self-eq0-via-then-self-eq0, then-self-eq0-via-else-self-eq0+then-place-bucket_count}

pub swap_take_at-requires : goal.swap_take_at-requires
swap_take_at-requires g c =
    let own : (c.self.inside.draining.pending ≡ 0) ⊎ (c.args.place.bucket < bucket_count c.args.self.now) = elim c.then-self-eq0.branch [
      | then-self-eq0-via-then-self-eq0 w ↦ inl w.if-self-eq0.true
      | then-self-eq0-via-else-self-eq0+then-place-bucket_count w ↦ inr (omega (arith, w.bucket_count.ensures.count, w.if-place-bucket_count.true))
    ] in
    swap-here g.met.E.Key.Eq.laws g.H.Hashes.hash_of c.self.invariant c.self.view_is c.args.place c.requires own

pub invariant_of-self : goal.invariant_of-self
invariant_of-self g c =
    let own : (c.self.inside.draining.pending ≡ 0) ⊎ (c.args.place.bucket < bucket_count c.args.self.now) = elim c.then-self-eq0.branch [
      | then-self-eq0-via-then-self-eq0 w ↦ inl w.if-self-eq0.true
      | then-self-eq0-via-else-self-eq0+then-place-bucket_count w ↦ inr (omega (arith, w.bucket_count.ensures.count, w.if-place-bucket_count.true))
    ] in
    swap-fields g.met.E.Key.Eq.laws g.H.Hashes.hash_of c.self.invariant c.self.view_is c.args.place c.requires own c.swap_take_at.result c.swap_take_at.new.self c.swap_take_at.ensures.entry c.swap_take_at.ensures.exact

pub returns-then-self-eq0 : goal.returns-then-self-eq0
returns-then-self-eq0 g c =
    let own : (c.self.inside.draining.pending ≡ 0) ⊎ (c.args.place.bucket < bucket_count c.args.self.now) = elim c.then-self-eq0.branch [
      | then-self-eq0-via-then-self-eq0 w ↦ inl w.if-self-eq0.true
      | then-self-eq0-via-else-self-eq0+then-place-bucket_count w ↦ inr (omega (arith, w.bucket_count.ensures.count, w.if-place-bucket_count.true))
    ] in
    swap-taken g.met.E.Key.Eq.laws g.H.Hashes.hash_of c.self.invariant c.self.view_is c.args.place c.requires own c.swap_take_at.result c.swap_take_at.new.self c.swap_take_at.ensures.entry c.swap_take_at.ensures.exact
