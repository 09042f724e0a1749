use Rattle.std.proofs.Common.{sym, ap, subst}
use Rattle.scc_common.specs.Hashing.{hash_of}
use Rattle.scc_common.specs.Pairs.{with_pair_value}
use Rattle.scc_table.specs.Places.{IsPlace, spot_of}
use Rattle.scc_owned_cache.specs.Caches.{Cached}
use Rattle.scc_owned_cache.proofs.Writing.{get-listed, value-state-after}
use Rattle.scc_owned_cache.proofs.Owned.update_at.Goals as goal

pub write_at-requires-clause-within : goal.write_at-requires-clause-within
write_at-requires-clause-within g c = subst (λ z. IsPlace z.contents c.args.place) (sym c.self.view_is) c.requires.within

pub write_at-requires-clause-takes : goal.write_at-requires-clause-takes
write_at-requires-clause-takes g c =
    let within = subst (λ z. IsPlace z.contents c.args.place) (sym c.self.view_is) c.requires.within in
    λ e got allowed. c.requires.callable e (rw (← c.self.view_is) (get-listed with_pair_value c.self.inside.table (spot_of c.self.inside.table c.args.place) within e.1 e got)) allowed

pub write_at-requires-clause-keeps : goal.write_at-requires-clause-keeps
write_at-requires-clause-keeps g c =
    let within = subst (λ z. IsPlace z.contents c.args.place) (sym c.self.view_is) c.requires.within in
    λ e r v got allowed gives. c.requires.keeps e r v (rw (← c.self.view_is) (get-listed with_pair_value c.self.inside.table (spot_of c.self.inside.table c.args.place) within e.1 e got)) allowed gives

pub invariant_of-self : goal.invariant_of-self
invariant_of-self g c =
    let within = subst (λ z. IsPlace z.contents c.args.place) (sym c.self.view_is) c.requires.within in
    let s = c.write_at.ensures.step in
    value-state-after g.K.PartialEq.eq (λ s k. hash_of g.H.BuildHasher g.H.Hasher.Hasher s.hasher (g.K.Hash.hash_input k)) (record { contents = c.self.inside.table; maximum = c.self.inside.maximum }) c.args.place within c.self.invariant s.1 c.write_at.new.self s.4

pub returns-clause-step : goal.returns-clause-step
returns-clause-step g c =
    let within = subst (λ z. IsPlace z.contents c.args.place) (sym c.self.view_is) c.requires.within in
    let s = c.write_at.ensures.step in
    let e = s.0 in
    let got = s.2 in
    rw (← c.self.view_is) (s.0, s.1, get-listed with_pair_value c.self.inside.table (spot_of c.self.inside.table c.args.place) within e.1 e got, s.3, ap (λ x. let r : Cached _ _ = record { contents = x; maximum = c.self.inside.maximum } in r) s.4, s.5)

pub returns-clause-state : goal.returns-clause-state
returns-clause-state g c =
    let within = subst (λ z. IsPlace z.contents c.args.place) (sym c.self.view_is) c.requires.within in
    let s = c.write_at.ensures.step in
    value-state-after g.K.PartialEq.eq (λ s k. hash_of g.H.BuildHasher g.H.Hasher.Hasher s.hasher (g.K.Hash.hash_input k)) (record { contents = c.self.inside.table; maximum = c.self.inside.maximum }) c.args.place within c.self.invariant s.1 c.write_at.new.self s.4
