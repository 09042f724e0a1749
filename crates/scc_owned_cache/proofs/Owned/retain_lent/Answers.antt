use Rattle.std.proofs.Common.{ℕ, refl, subst, arith}
use Rattle.scc_buckets.specs.Bounded.{MayShrinkWithin, ShrinksBounded}
use Rattle.scc_common.specs.Contents.{entries}
use Rattle.scc_common.specs.Hashing.{hash_of}
use Rattle.scc_table.specs.Relocates.{Spreads}
use Rattle.scc_owned_cache.proofs.Relocations.{shrunk-none}
use Rattle.scc_owned_cache.proofs.Caching.{shrunk-within, state-after}
use Rattle.scc_owned_cache.proofs.Walked.{goes-over, leaves-pairs, listed-same}
use Rattle.scc_owned_cache.proofs.Owned.retain_lent.Goals as goal

pub invariant_of-self : goal.invariant_of-self
invariant_of-self g c =
    let h = c.self.invariant in
    let less = shrunk-within _ c.self.inside.table c.shrink_within.new.self c.shrink_within.ensures.shrinks in
    state-after g.K.PartialEq.eq _ _ c.self.inside.table c.shrink_within.new.self c.self.inside.maximum h c.shrink_within.ensures.listed c.shrink_within.ensures.unique less.1 (omega (arith, less.0, h.within))

pub returns-clause-state : goal.returns-clause-state
returns-clause-state g c =
    let h = c.self.invariant in
    let less = shrunk-within _ c.self.inside.table c.shrink_within.new.self c.shrink_within.ensures.shrinks in
    state-after g.K.PartialEq.eq _ _ c.self.inside.table c.shrink_within.new.self c.self.inside.maximum h c.shrink_within.ensures.listed c.shrink_within.ensures.unique less.1 (omega (arith, less.0, h.within))

pub returns-clause-step : goal.returns-clause-step
returns-clause-step g c =
    let step = rw (← c.self.view_is) at c.retain_all.ensures.step in
    let refused = rw (← c.self.view_is) at c.retain_all.ensures.refused in
    let maximum = rw (← c.self.view_is) at c.retain_all.ensures.maximum in
    let m = c.args.self.now in
    let left = c.self.inside.table in
    let held = step.2 in
    let shrinks = subst (λ s. ShrinksBounded (λ e. hash_of g.H.BuildHasher g.H.Hasher.Hasher s.hasher (g.K.Hash.hash_input e.0)) left c.shrink_within.new.self) held.settings c.shrink_within.ensures.shrinks in
    let listed = listed-same (λ s k. hash_of g.H.BuildHasher g.H.Hasher.Hasher s.hasher (g.K.Hash.hash_input k)) left m.contents held.settings c.self.invariant.lists in (
      entries m.contents,
      step.0,
      record { contents = left; maximum = c.self.inside.maximum },
      goes-over _ m.contents c.retain_all.ensures.state.lists,
      step.1,
      leaves-pairs _ m (record { contents = left; maximum = c.self.inside.maximum }) step.0 listed held refused maximum,
      record { shrinks = shrinks; maximum = refl },
    )

pub returns-clause-relocates : goal.returns-clause-relocates
returns-clause-relocates g c =
    let left = c.self.inside.table in
    let step = rw (← c.self.view_is) at c.retain_all.ensures.step in
    let held = step.2 in
    let shrinks = subst (λ s. ShrinksBounded (λ e. hash_of g.H.BuildHasher g.H.Hasher.Hasher s.hasher (g.K.Hash.hash_input e.0)) left c.shrink_within.new.self) held.settings c.shrink_within.ensures.shrinks in
    let spreads = subst (λ s. Spreads ((n : ℕ) × MayShrinkWithin (λ e. hash_of g.H.BuildHasher g.H.Hasher.Hasher s.hasher (g.K.Hash.hash_input e.0)) left n) left c.shrink_within.new.self) held.settings c.shrink_within.ensures.spreads in
    shrunk-none _ c.args.self.now.contents left c.shrink_within.new.self held.buckets (rw (← c.self.view_is) at c.retain_all.ensures.waiting) shrinks spreads
