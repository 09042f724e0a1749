use Rattle.std.proofs.Common.{◌≡◌, refl, sym, ap, subst}
use Rattle.scc_common.proofs.ruled.RuledValued.visit.Goals as goal

pub f-requires : goal.f-requires
f-requires g c = c.requires.takes (subst (λ (p : g.row.K.Denot × g.row.V.Denot). g.R.Rule.holds p.0 p.1) c.self.view_is c.self.invariant) _ _ c.self.view_is

pub invariant_of-self : goal.invariant_of-self
invariant_of-self g c =
    let key : c.self.inside.key ≡ c.args.self.now.0 = ap (λ (p : g.row.K.Denot × g.row.V.Denot). p.0) c.self.view_is in
    subst (λ (k : g.row.K.Denot). g.R.Rule.holds k c.f.new.arg3) (sym key) (c.requires.keeps c.f.result c.f.new.arg3 _
    (subst (λ (p : g.row.K.Denot × g.row.V.Denot). g.R.Rule.holds p.0 p.1) c.self.view_is c.self.invariant)
    (record { key = _; value = _; shows = c.self.view_is; left = _; called = c.f.ensures; leaves = refl }))

pub returns-clause-written : goal.returns-clause-written
returns-clause-written g c =
    let key : c.self.inside.key ≡ c.args.self.now.0 = ap (λ (p : g.row.K.Denot × g.row.V.Denot). p.0) c.self.view_is in
    (c.f.new.arg3, record { key = _; value = _; shows = c.self.view_is; left = _; called = c.f.ensures; leaves = refl }, ap (λ (k : g.row.K.Denot). (k, c.f.new.arg3)) key)
