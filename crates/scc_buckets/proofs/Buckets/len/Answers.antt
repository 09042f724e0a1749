use Rattle.std.proofs.Common.{sym, ap, ◌∙◌, inl, inr, length, arith}
use Rattle.std.proofs.lemmas.List.Concat.{length-flat_map}
use Rattle.scc_array.specs.Shelf.{shelf_entries}
use Rattle.scc_buckets.proofs.Inserts.{sum-bound}
use Rattle.scc_buckets.proofs.Views.{entries-view, count-view, spilled-view}
use Rattle.scc_buckets.proofs.Buckets.len.Goals as goal

pub returns-clause-len : goal.returns-clause-len
returns-clause-len g c =
    c.self.invariant.table.counted ∙ sym (length-flat_map shelf_entries c.self.inside.buckets) ∙ ap length (sym (entries-view c.self.inside.buckets _ c.args.self.now c.self.view_is))

pub returns-clause-unique : goal.returns-clause-unique
returns-clause-unique g c = rw (entries-view c.self.inside.buckets _ c.args.self.now c.self.view_is) c.self.invariant.unique

pub returns-clause-most : goal.returns-clause-most
returns-clause-most g c =
    let count = count-view c.self.inside.buckets _ c.args.self.now c.self.view_is in
    let spilled = spilled-view c.self.inside.buckets _ c.args.self.now c.self.view_is in
    let t = c.self.invariant.table in
    let most = sum-bound c.self.inside.buckets (λ i b l at. (t.own i b l at).within) in
    omega (arith, t.counted)

pub returns-clause-wide : goal.returns-clause-wide
returns-clause-wide g c =
    let count = count-view c.self.inside.buckets _ c.args.self.now c.self.view_is in
    elim c.self.invariant.table.sized [ inl none ↦ omega (arith, count, none) | inr array ↦ omega (arith, count, array.most) ]
