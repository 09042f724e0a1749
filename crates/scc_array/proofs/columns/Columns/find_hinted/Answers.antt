use Rattle.std.proofs.Common.{◌≡◌, Some, true, sym, ◌∙◌, subst}
use Rattle.scc_array.proofs.Gets.{get-within}
use Rattle.scc_array.specs.Windows.{window_of}
use Rattle.scc_array.proofs.columns.Columns.find_hinted.Goals as goal

pub entry_at-requires-clause-slot : goal.entry_at-requires-clause-slot
entry_at-requires-clause-slot g c =
    let r = c.in-Some.ensures in
    get-within (window_of c.args.self.now c.args.bucket).slots c.in-Some.slot r.entry r.here

pub returns-in-Some : goal.returns-in-Some
returns-in-Some g c =
    let r = c.in-Some.ensures in
    let x = c.entry_at.result.now in
    let both : Some r.entry ≡ Some x = sym r.here ∙ c.entry_at.ensures in
    let same : r.entry ≡ x = cc in
    record { passes = subst (λ e. g.E.Key.PartialEq.eq c.args.key.now (g.E.Keyed.key_of e) ≡ true) same r.passes; slot = (_, c.entry_at.ensures) }
