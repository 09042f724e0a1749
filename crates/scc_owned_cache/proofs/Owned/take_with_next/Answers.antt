use Rattle.std.proofs.Common.{sym, subst, arith, rules}
use Rattle.scc_common.specs.Hashing.{hash_of}
use Rattle.scc_table.specs.Places.{IsPlace, spot_of}
use Rattle.scc_table.proofs.insertions.AtEnds.{listed-removed}
use Rattle.scc_table.proofs.relocations.ShortLists.{listed-anew}
use Rattle.scc_owned_cache.proofs.Caching.{list-count, state-after}
use Rattle.scc_owned_cache.proofs.Owned.take_with_next.Goals as goal

pub take_with_next-entry-requires : goal.take_with_next-entry-requires
take_with_next-entry-requires g c = subst (λ z. IsPlace z.contents c.args.place) (sym c.self.view_is) c.requires

pub invariant_of-self : goal.invariant_of-self
invariant_of-self g c =
    let t = c.self.inside.table in
    let d = c.take_with_next-entry.new.self in
    let h = c.self.invariant in
    let within = subst (λ z. IsPlace z.contents c.args.place) (sym c.self.view_is) c.requires in
    let list = c.take_with_next-entry.ensures.lists h.lists.bounded in
    let same = list-count t d _ _ list in
    let listed = listed-anew (λ s (p : g.row.K.Denot × g.row.V.Denot). hash_of g.H.BuildHasher g.H.Hasher.Hasher s.hasher (g.K.Hash.hash_input p.0)) t d list.settings (listed-removed _ t d (spot_of t c.args.place).bucket (spot_of t c.args.place).slot within.bucket list h.lists) in
    state-after g.K.PartialEq.eq _ _ t d c.self.inside.maximum h listed c.take_with_next-entry.ensures.unique list.settings (omega (arith, h.within))

pub returns-clause-takes : goal.returns-clause-takes
returns-clause-takes g c =
    record {
      pair = rw (c.into_pair.ensures.pair, ← c.self.view_is) c.take_with_next-entry.ensures.entry;
      others = rw (← c.self.view_is) c.take_with_next-entry.ensures.others;
      refused = (search rules);
      maximum = (search rules);
      waiting = (search rules);
      next = rw (← c.self.view_is) c.take_with_next-entry.ensures.next;
    }
