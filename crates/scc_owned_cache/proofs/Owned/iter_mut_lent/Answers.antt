use Rattle.std.proofs.Common.{ℕ, ◌≡◌, ◌<◌, ◌≤◌, length, refl, ap, subst, arith, rules}
use Rattle.std.proofs.lemmas.List.Sorted.{length_permutation}
use Rattle.scc_buckets.specs.Bounded.{MayShrinkWithin, ShrinksBounded}
use Rattle.scc_common.specs.Contents.{entries}
use Rattle.scc_common.specs.Hashing.{hash_of}
use Rattle.scc_table.proofs.walks.Takes.{takes-count}
use Rattle.scc_table.specs.Relocates.{Spreads}
use Rattle.scc_owned_cache.proofs.Relocations.{kept-none, shrunk-none}
use Rattle.scc_owned_cache.proofs.Caching.{shrunk-within, state-after}
use Rattle.scc_owned_cache.proofs.Walked.{goes-over, leaves-pairs, listed-same, shrinks-taken, rests-untaken}
use Rattle.scc_owned_cache.proofs.Owned.iter_mut_lent.Goals as goal

pub invariant_of-self : goal.invariant_of-self
invariant_of-self g c =
    let h = c.self.invariant in
    let less = shrunk-within _ c.self.inside.table c.shrink_within.new.self c.shrink_within.ensures.shrinks in
    state-after g.K.PartialEq.eq _ _ c.self.inside.table c.shrink_within.new.self c.self.inside.maximum h c.shrink_within.ensures.listed c.shrink_within.ensures.unique less.1 (omega (arith, less.0, h.within))

pub returns-then-len-before : goal.returns-then-len-before
returns-then-len-before g c =
    record {
      step = (
          let fewer : length (entries c.take_walk-result.new.self.contents) < length (entries c.args.self.now.contents) = search rules in
          let step = rw (← c.self.view_is) at c.take_walk-result.ensures.step in
          let refused = rw (← c.self.view_is) at c.take_walk-result.ensures.refused in
          let maximum = rw (← c.self.view_is) at c.take_walk-result.ensures.maximum in
          let less = rw (← c.self.view_is) at fewer in
          let m = c.args.self.now in
          let left = c.self.inside.table in
          let held = step.4 in
          let some : 0 < length step.1 = omega (arith, less, takes-count step.2, ap length held.exact) in
          let shrinks = subst (λ s. ShrinksBounded (λ e. hash_of g.H.BuildHasher g.H.Hasher.Hasher s.hasher (g.K.Hash.hash_input e.0)) left c.shrink_within.new.self) held.settings c.shrink_within.ensures.shrinks in
          let listed = listed-same (λ s k. hash_of g.H.BuildHasher g.H.Hasher.Hasher s.hasher (g.K.Hash.hash_input k)) left m.contents held.settings c.self.invariant.lists in (
            entries m.contents,
            step.0,
            step.1,
            record { contents = left; maximum = c.self.inside.maximum },
            goes-over _ m.contents c.len-before.ensures.state.lists,
            step.2,
            step.3,
            leaves-pairs _ m (record { contents = left; maximum = c.self.inside.maximum }) step.0 listed held refused maximum,
            shrinks-taken _ step.1 _ _ some (record { shrinks = shrinks; maximum = refl }),
          ));
      full = c.take_walk-result.ensures.full;
      room = c.take_walk-result.ensures.room;
      was_unique = c.len-before.ensures.state.unique;
      state = (
          let h = c.self.invariant in
          let less = shrunk-within _ c.self.inside.table c.shrink_within.new.self c.shrink_within.ensures.shrinks in
          state-after g.K.PartialEq.eq _ _ c.self.inside.table c.shrink_within.new.self c.self.inside.maximum h c.shrink_within.ensures.listed c.shrink_within.ensures.unique less.1 (omega (arith, less.0, h.within)));
      relocates = (
          let left = c.self.inside.table in
          let step = rw (← c.self.view_is) at c.take_walk-result.ensures.step in
          let held = step.4 in
          let shrinks = subst (λ s. ShrinksBounded (λ e. hash_of g.H.BuildHasher g.H.Hasher.Hasher s.hasher (g.K.Hash.hash_input e.0)) left c.shrink_within.new.self) held.settings c.shrink_within.ensures.shrinks in
          let spreads = subst (λ s. Spreads ((n : ℕ) × MayShrinkWithin (λ e. hash_of g.H.BuildHasher g.H.Hasher.Hasher s.hasher (g.K.Hash.hash_input e.0)) left n) left c.shrink_within.new.self) held.settings c.shrink_within.ensures.spreads in
          shrunk-none _ c.args.self.now.contents left c.shrink_within.new.self held.buckets (rw (← c.self.view_is) at c.take_walk-result.ensures.waiting) shrinks spreads);
      rests = (
          let fewer : length (entries c.take_walk-result.new.self.contents) < length (entries c.args.self.now.contents) = search rules in
          let less = rw (← c.self.view_is) at fewer in
          let same = length_permutation (entries c.self.inside.table) (entries c.shrink_within.new.self) c.shrink_within.ensures.same in
          λ equal. absurd (omega (arith, less, same, equal)));
    }

pub returns-else-len-before : goal.returns-else-len-before
returns-else-len-before g c =
    record {
      step = (
          let kept : length (entries c.args.self.now.contents) ≤ length (entries c.take_walk-result.new.self.contents) = search rules in
          let step = c.take_walk-result.ensures.step in
          let m = c.args.self.now in
          let left = c.take_walk-result.new.self in
          let held = step.4 in
          let none : length step.1 ≡ 0 = omega (arith, kept, takes-count step.2, ap length held.exact) in
          let listed = listed-same (λ s k. hash_of g.H.BuildHasher g.H.Hasher.Hasher s.hasher (g.K.Hash.hash_input k)) left.contents m.contents held.settings c.len.ensures.state.lists in (
            entries m.contents,
            step.0,
            step.1,
            left,
            goes-over _ m.contents c.len-before.ensures.state.lists,
            step.2,
            step.3,
            leaves-pairs _ m left step.0 listed held c.take_walk-result.ensures.refused c.take_walk-result.ensures.maximum,
            rests-untaken _ step.1 _ _ none refl,
          ));
      full = c.take_walk-result.ensures.full;
      room = c.take_walk-result.ensures.room;
      was_unique = c.len-before.ensures.state.unique;
      state = c.len.ensures.state;
      relocates = (
          let held = c.take_walk-result.ensures.step.4 in
          kept-none _ c.args.self.now.contents c.take_walk-result.new.self.contents held.buckets c.take_walk-result.ensures.waiting);
      rests = λ _. c.take_walk-result.ensures.waiting;
    }
