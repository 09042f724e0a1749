use Rattle.std.proofs.Common.{◌∙◌, ℕ, refl, sym, subst, arith}
use Rattle.std.specs.List.{remove}
use Rattle.scc_buckets.specs.Bounded.{MayShrinkWithin, ShrinksBounded}
use Rattle.scc_common.specs.Hashing.{hash_of}
use Rattle.scc_common.specs.Contents.{entries}
use Rattle.scc_table.specs.Places.{IsPlace, index_of, spot_of}
use Rattle.scc_table.specs.Relocates.{Spreads}
use Rattle.scc_table.proofs.insertions.AtEnds.{listed-removed}
use Rattle.scc_table.proofs.relocations.ShortLists.{listed-anew}
use Rattle.scc_owned_cache.proofs.Caching.{list-count, lists-set, shrunk-within, state-after}
use Rattle.scc_owned_cache.proofs.LookUps.{finds-taken}
use Rattle.scc_owned_cache.proofs.Relocations.{shrunk-none}
use Rattle.scc_owned_cache.proofs.Owned.remove_at.Goals as goal

pub take_in-entry-requires : goal.take_in-entry-requires
take_in-entry-requires g c = subst (λ z. IsPlace z.contents c.args.place) (sym c.self.view_is) c.requires

pub shrink_within-requires : goal.shrink_within-requires
shrink_within-requires g c =
    let t = c.self.inside.table in
    let h = c.self.invariant in
    let within = subst (λ z. IsPlace z.contents c.args.place) (sym c.self.view_is) c.requires in
    let list = c.take_in-entry.ensures.lists h.lists.bounded in
    listed-anew (λ s (p : g.row.K.Denot × g.row.V.Denot). hash_of g.H.BuildHasher g.H.Hasher.Hasher s.hasher (g.K.Hash.hash_input p.0)) t c.take_in-entry.new.self list.settings (listed-removed _ t c.take_in-entry.new.self (spot_of t c.args.place).bucket (spot_of t c.args.place).slot within.bucket list h.lists)

pub invariant_of-self : goal.invariant_of-self
invariant_of-self g c =
    let h = c.self.invariant in
    let list = c.take_in-entry.ensures.lists h.lists.bounded in
    let same = list-count c.self.inside.table c.take_in-entry.new.self _ _ list in
    let less = shrunk-within _ c.take_in-entry.new.self c.shrink_within.new.self c.shrink_within.ensures.shrinks in
    state-after g.K.PartialEq.eq _ _ c.self.inside.table c.shrink_within.new.self c.self.inside.maximum h c.shrink_within.ensures.listed c.shrink_within.ensures.unique (less.1 ∙ list.settings) (omega (arith, less.0, h.within))

pub returns-clause-state : goal.returns-clause-state
returns-clause-state g c =
    let h = c.self.invariant in
    let list = c.take_in-entry.ensures.lists h.lists.bounded in
    let same = list-count c.self.inside.table c.take_in-entry.new.self _ _ list in
    let less = shrunk-within _ c.take_in-entry.new.self c.shrink_within.new.self c.shrink_within.ensures.shrinks in
    state-after g.K.PartialEq.eq _ _ c.self.inside.table c.shrink_within.new.self c.self.inside.maximum h c.shrink_within.ensures.listed c.shrink_within.ensures.unique (less.1 ∙ list.settings) (omega (arith, less.0, h.within))

pub returns-clause-pair : goal.returns-clause-pair
returns-clause-pair g c = rw (c.into_pair.ensures.pair, ← c.self.view_is) c.take_in-entry.ensures.listed

pub returns-clause-left : goal.returns-clause-left
returns-clause-left g c =
    let left = c.take_in-entry.new.self in
    let list = c.take_in-entry.ensures.lists c.self.invariant.lists.bounded in
    let shrinks = subst (λ s. ShrinksBounded (λ e. hash_of g.H.BuildHasher g.H.Hasher.Hasher s.hasher (g.K.Hash.hash_input e.0)) left c.shrink_within.new.self) list.settings c.shrink_within.ensures.shrinks in
    rw (← c.self.view_is) (
      record { contents = left; maximum = c.self.inside.maximum },
      record { lists = lists-set c.self.inside.table left _ (λ es. remove es (spot_of c.self.inside.table c.args.place).slot) list; settings = list.settings; refused = list.refused; maximum = refl },
      record { shrinks = shrinks; maximum = refl },
    )

pub returns-clause-relocates : goal.returns-clause-relocates
returns-clause-relocates g c =
    let t = c.self.inside.table in
    let left = c.take_in-entry.new.self in
    let list = c.take_in-entry.ensures.lists c.self.invariant.lists.bounded in
    let same = list-count t left _ _ list in
    let shrinks = subst (λ s. ShrinksBounded (λ e. hash_of g.H.BuildHasher g.H.Hasher.Hasher s.hasher (g.K.Hash.hash_input e.0)) left c.shrink_within.new.self) list.settings c.shrink_within.ensures.shrinks in
    let spreads = subst (λ s. Spreads ((n : ℕ) × MayShrinkWithin (λ e. hash_of g.H.BuildHasher g.H.Hasher.Hasher s.hasher (g.K.Hash.hash_input e.0)) left n) left c.shrink_within.new.self) list.settings c.shrink_within.ensures.spreads in
    rw (← c.self.view_is) (shrunk-none _ t left c.shrink_within.new.self same c.take_in-entry.ensures.waiting shrinks spreads)

pub returns-clause-finds : goal.returns-clause-finds
returns-clause-finds g c =
    let t = c.self.inside.table in
    let left = c.take_in-entry.new.self in
    rw (c.into_pair.ensures.pair, ← c.self.view_is) (finds-taken g.met.K.Eq.laws (entries t) (entries left) (entries c.shrink_within.new.self) (index_of t c.args.place) c.take_in-entry.result c.take_in-entry.ensures.others.exact c.shrink_within.ensures.same c.self.invariant.unique c.take_in-entry.ensures.entry)
