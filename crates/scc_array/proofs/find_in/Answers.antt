use Rattle.std.proofs.Common.{◌≡◌, rules, true, sym, ap, ◌∙◌, subst}
use Rattle.scc_array.proofs.Search.{position_is, none_is}
use Rattle.scc_array.proofs.find_in.Goals as goal

pub returns-then-eq : goal.returns-then-eq
returns-then-eq g c =
    let x = c.index-entries-i.result in
    let passes : g.E.Key.PartialEq.eq c.args.key.now (g.E.Keyed.key_of x) ≡ true = sym (ap (λ k. g.E.Key.PartialEq.eq c.args.key.now k) c.key.ensures) ∙ sym c.eq.ensures ∙ c.if-eq.true in
    sym (position_is _ c.args.entries.now c.loop-i.i x (search rules) (λ k l. c.loop-i.invariant.missed k x l) (subst (λ y. g.E.Key.PartialEq.eq c.args.key.now (g.E.Keyed.key_of y) ≡ true) c.index-entries-i.is passes))

pub returns : goal.returns
returns g c = sym (none_is _ c.args.entries.now (λ k d l. c.loop-i.invariant.missed k d (search rules)))
