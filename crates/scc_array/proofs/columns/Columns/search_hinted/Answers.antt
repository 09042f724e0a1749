use Rattle.std.proofs.Common.{◌≡◌, rules, subst, true, false, sym, ap, ◌∙◌}
use Rattle.scc_array.proofs.Gets.{get-is}
use Rattle.scc_array.proofs.Search.{hits_next, missed_slots, none_is}
use Rattle.scc_array.specs.Windows.{window_of}
use Rattle.scc_array.proofs.columns.Columns.search_hinted.Goals as goal

pub returns-then-eq : goal.returns-then-eq
returns-then-eq g c =
    let x = c.entry_at.result.now in
    let passes : g.E.Key.PartialEq.eq c.args.key.now (g.E.Keyed.key_of x) ≡ true = sym (ap (λ k. g.E.Key.PartialEq.eq c.args.key.now k) c.key.ensures) ∙ sym c.eq.ensures ∙ c.if-eq.true in
    record { entry = x; here = c.entry_at.ensures; passes = passes }

pub hits-preserved : goal.hits-preserved
hits-preserved g c =
    let xs = (window_of c.args.self.now c.args.bucket).slots in
    let x = c.entry_at.result.now in
    let i = c.lowest_bit-slot.result in
    let failed : g.E.Key.PartialEq.eq c.args.key.now (g.E.Keyed.key_of x) ≡ false = sym (ap (λ k. g.E.Key.PartialEq.eq c.args.key.now k) c.key.ensures) ∙ sym c.eq.ensures ∙ c.if-eq.false in (
      (λ j e. c.hits.invariant.0 j (c.without_lowest_bit-bits.ensures.only j e).0),
      (λ tagged. hits_next _ xs c.hits.bits c.without_lowest_bit-bits.result i (c.hits.invariant.1 tagged) c.lowest_bit-slot.ensures.value
          (λ d l t. let same = get-is xs i x d c.entry_at.ensures in let both : true ≡ false = sym (subst (λ y. g.E.Key.PartialEq.eq c.args.key.now (g.E.Keyed.key_of y) ≡ true) (sym same) t) ∙ failed in cc)
          c.without_lowest_bit-bits.ensures.others),
    )

pub returns : goal.returns
returns g c = λ tagged.
    let xs = (window_of c.args.self.now c.args.bucket).slots in
    let missed = missed_slots _ xs c.hits.bits (c.hits.invariant.1 tagged) (search rules) in
    none_is _ xs (λ k d l. missed.missed k d l)
