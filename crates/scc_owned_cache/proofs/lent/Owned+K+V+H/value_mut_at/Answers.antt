use Rattle.std.proofs.Common.{refl, sym, ap, subst}
use Rattle.scc_table.specs.Places.{IsPlace, spot_of}
use Rattle.scc_common.specs.Hashing.{hash_of}
use Rattle.scc_common.specs.Pairs.{with_pair_value}
use Rattle.scc_owned_cache.specs.Lends.{with_value_at}
use Rattle.scc_owned_cache.proofs.Writing.{get-listed, value-state-by}
use Rattle.scc_owned_cache.proofs.lent.Owned+K+V+H.value_mut_at.Goals as goal

pub value_mut_at-requires : goal.value_mut_at-requires
value_mut_at-requires g c = subst (λ z. IsPlace z.contents c.args.place) (sym c.self.view_is) c.requires

pub invariant_of-self-lent : goal.invariant_of-self-lent
invariant_of-self-lent g c w =
    let within = subst (λ z. IsPlace z.contents c.args.place) (sym c.self.view_is) c.requires in
    value-state-by g.K.PartialEq.eq (λ s k. hash_of g.H.BuildHasher g.H.Hasher.Hasher s.hasher (g.K.Hash.hash_input k)) (record { contents = c.self.inside.table; maximum = c.self.inside.maximum }) c.args.place within c.self.invariant w

pub returns : goal.returns
returns g c =
    let within = subst (λ z. IsPlace z.contents c.args.place) (sym c.self.view_is) c.requires in
    let v = c.value_mut_at.ensures.value in (
      (refl, λ w. ap (λ m. with_value_at m c.args.place w) c.self.view_is),
      record {
        writes_back = tt;
        value = rw (← c.self.view_is) (v.0, get-listed with_pair_value c.self.inside.table (spot_of c.self.inside.table c.args.place) within c.value_mut_at.result.now v.0 v.1, v.2);
        state = λ w. rw (← c.self.view_is) (value-state-by g.K.PartialEq.eq (λ s k. hash_of g.H.BuildHasher g.H.Hasher.Hasher s.hasher (g.K.Hash.hash_input k)) (record { contents = c.self.inside.table; maximum = c.self.inside.maximum }) c.args.place within c.self.invariant w);
      },
    )
