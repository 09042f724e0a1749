use Rattle.std.proofs.Common.{sym, ap, subst}
use Rattle.scc_common.specs.Hashing.{hash_of}
use Rattle.scc_table.specs.Places.{IsPlace}
use Rattle.scc_owned_cache.specs.Caches.{Cached}
use Rattle.scc_owned_cache.proofs.Writing.{value-state-after}
use Rattle.scc_owned_cache.proofs.Owned.visit.Goals as goal

pub visit_at-requires-clause-within : goal.visit_at-requires-clause-within
visit_at-requires-clause-within g c = subst (λ z. IsPlace z.contents c.args.place) (sym c.self.view_is) c.requires.within

pub visit_at-requires-clause-takes : goal.visit_at-requires-clause-takes
visit_at-requires-clause-takes g c =
    let within = subst (λ z. IsPlace z.contents c.args.place) (sym c.self.view_is) c.requires.within in
    λ e got allowed. c.requires.callable e (rw (← c.self.view_is) got) allowed

pub visit_at-requires-clause-keeps : goal.visit_at-requires-clause-keeps
visit_at-requires-clause-keeps g c =
    let within = subst (λ z. IsPlace z.contents c.args.place) (sym c.self.view_is) c.requires.within in
    λ e r v f' got allowed gives. c.requires.keeps _ f' e r v allowed gives

pub invariant_of-self : goal.invariant_of-self
invariant_of-self g c =
    let within = subst (λ z. IsPlace z.contents c.args.place) (sym c.self.view_is) c.requires.within in
    let s = c.visit_at.ensures.step in
    value-state-after g.K.PartialEq.eq (λ s k. hash_of g.H.BuildHasher g.H.Hasher.Hasher s.hasher (g.K.Hash.hash_input k)) (record { contents = c.self.inside.table; maximum = c.self.inside.maximum }) c.args.place within c.self.invariant s.1 c.visit_at.new.self s.4

pub returns : goal.returns
returns g c =
    let s = c.visit_at.ensures.step in
    rw (← c.self.view_is) (s.0, s.1, s.2, s.3, ap (λ x. let r : Cached _ _ = record { contents = x; maximum = c.self.inside.maximum } in r) s.4, s.5, c.requires.keeps _ _ s.0 c.visit_at.result s.1 s.5 s.3)
