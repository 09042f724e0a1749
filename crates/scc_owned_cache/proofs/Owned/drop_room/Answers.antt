use Rattle.std.proofs.Common.{◌≤◌, ◌*◌, ap, sym, subst}
use Rattle.scc_table.proofs.arrays.SameParts.{count-same}
use Rattle.scc_owned_cache.proofs.Caching.{state-after}
use Rattle.scc_owned_cache.proofs.Owned.drop_room.Goals as goal

pub invariant_of-self : goal.invariant_of-self
invariant_of-self g c =
    let h = c.self.invariant in
    let u = c.drop_mark.new.self in
    let r = c.drop_mark.ensures in
    let same = count-same c.self.inside.table u r.lists in
    state-after g.K.PartialEq.eq _ _ c.self.inside.table u c.self.inside.maximum h (r.listed h.lists) r.unique r.settings (subst (λ n. 32 * n ≤ c.self.inside.maximum) (sym same) h.within)

pub returns-clause-cleared : goal.returns-clause-cleared
returns-clause-cleared g c = rw (← c.self.view_is) (ap (λ t. record { contents = t; maximum = c.self.inside.maximum }) c.drop_mark.ensures.cleared)

pub returns-clause-state : goal.returns-clause-state
returns-clause-state g c =
    let h = c.self.invariant in
    let u = c.drop_mark.new.self in
    let r = c.drop_mark.ensures in
    let same = count-same c.self.inside.table u r.lists in
    state-after g.K.PartialEq.eq _ _ c.self.inside.table u c.self.inside.maximum h (r.listed h.lists) r.unique r.settings (subst (λ n. 32 * n ≤ c.self.inside.maximum) (sym same) h.within)
