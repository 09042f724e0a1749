use Rattle.std.proofs.Common.{◌≡◌, ◌∙◌, refl}
use Rattle.std.specs.Vec.{with_items}
use Rattle.scc_recorded.proofs.Same.{closed-same, count-same, same-items}
use Rattle.scc_recorded.proofs.closing.Closed.audit.Goals as goal

pub returns-clause-same : goal.returns-clause-same
returns-clause-same g c =
    let self = c.args.self.now in
    let stripes : with_items self.stripes c.audit_all-2.new.stripes ≡ self.stripes = same-items self.stripes _ (c.audit_all-2.ensures.same.1 ∙ c.as_mut_slice.ensures.value) in
    let receipts : c.audit_all.new.book ≡ self.count.receipts = rw (← c.audit_all.ensures.same.0) refl in
    let records : c.audit_all-2.new.book ≡ self.count.records = rw (← c.audit_all-2.ensures.same.0) refl in
    (closed-same self _ stripes refl refl (count-same self.count _ receipts records) refl refl refl, c.audit_all.ensures.same.1)
