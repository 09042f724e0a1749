use Rattle.std.proofs.Common.{ℕ, subst, refl, arith}
use Rattle.scc_buckets.specs.Bounded.{MayShrinkWithin, ShrinksBounded}
use Rattle.scc_common.specs.Hashing.{hash_of}
use Rattle.scc_table.specs.Relocates.{Spreads}
use Rattle.scc_owned_cache.proofs.Relocations.{shrunk-none}
use Rattle.scc_owned_cache.proofs.Caching.{shrunk-within, state-after}
use Rattle.scc_owned_cache.proofs.Walking.{empties, none-permuted}
use Rattle.scc_owned_cache.proofs.Owned.clear_sync.Goals as goal

pub invariant_of-self : goal.invariant_of-self
invariant_of-self g c =
    let h = c.self.invariant in
    let less = shrunk-within _ c.self.inside.table c.shrink_within.new.self c.shrink_within.ensures.shrinks in
    state-after g.K.PartialEq.eq _ _ c.self.inside.table c.shrink_within.new.self c.self.inside.maximum h c.shrink_within.ensures.listed c.shrink_within.ensures.unique less.1 (omega (arith, less.0, h.within))

pub returns-clause-state : goal.returns-clause-state
returns-clause-state g c =
    let h = c.self.invariant in
    let less = shrunk-within _ c.self.inside.table c.shrink_within.new.self c.shrink_within.ensures.shrinks in
    state-after g.K.PartialEq.eq _ _ c.self.inside.table c.shrink_within.new.self c.self.inside.maximum h c.shrink_within.ensures.listed c.shrink_within.ensures.unique less.1 (omega (arith, less.0, h.within))

pub returns-clause-empty : goal.returns-clause-empty
returns-clause-empty g c =
    let held = rw (← c.self.view_is) at c.take_all.ensures.empty in
    none-permuted _ _ c.shrink_within.ensures.same held.exact

pub returns-clause-step : goal.returns-clause-step
returns-clause-step g c =
    let held = rw (← c.self.view_is) at c.take_all.ensures.empty in
    let left = c.self.inside.table in
    let shrinks = subst (λ s. ShrinksBounded (λ e. hash_of g.H.BuildHasher g.H.Hasher.Hasher s.hasher (g.K.Hash.hash_input e.0)) left c.shrink_within.new.self) held.settings c.shrink_within.ensures.shrinks in (
      record { contents = left; maximum = c.self.inside.maximum },
      record {
        lists = empties c.args.self.now.contents left held.exact held.buckets;
        settings = held.settings;
        refused = rw (← c.self.view_is) at c.take_all.ensures.refused;
        maximum = rw (← c.self.view_is) at c.take_all.ensures.maximum;
      },
      record { shrinks = shrinks; maximum = refl },
    )

pub returns-clause-relocates : goal.returns-clause-relocates
returns-clause-relocates g c =
    let left = c.self.inside.table in
    let held = rw (← c.self.view_is) at c.take_all.ensures.empty in
    let shrinks = subst (λ s. ShrinksBounded (λ e. hash_of g.H.BuildHasher g.H.Hasher.Hasher s.hasher (g.K.Hash.hash_input e.0)) left c.shrink_within.new.self) held.settings c.shrink_within.ensures.shrinks in
    let spreads = subst (λ s. Spreads ((n : ℕ) × MayShrinkWithin (λ e. hash_of g.H.BuildHasher g.H.Hasher.Hasher s.hasher (g.K.Hash.hash_input e.0)) left n) left c.shrink_within.new.self) held.settings c.shrink_within.ensures.spreads in
    shrunk-none _ c.args.self.now.contents left c.shrink_within.new.self held.buckets (rw (← c.self.view_is) at c.take_all.ensures.waiting) shrinks spreads
