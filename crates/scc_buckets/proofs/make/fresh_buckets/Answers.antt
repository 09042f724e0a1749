use Rattle.std.proofs.Common.{ap, ◌∙◌, length, subst, sym}
use Rattle.std.proofs.lemmas.Result.{IfOk-weaker}
use Rattle.std.proofs.lemmas.List.{length-replicate}
use Rattle.scc_array.specs.Shelf.{empty_shelf}
use Rattle.scc_buckets.specs.Tables.{AllEmpty}
use Rattle.scc_buckets.proofs.Fresh.{empty-replicate}
use Rattle.scc_buckets.proofs.make.fresh_buckets.Goals as goal

pub returns-clause-count : goal.returns-clause-count
returns-clause-count g c = IfOk-weaker c.with_buckets.result _ _ (λ a e. ap length e ∙ length-replicate c.args.count empty_shelf) c.with_buckets.ensures

pub returns-clause-empty : goal.returns-clause-empty
returns-clause-empty g c = IfOk-weaker c.with_buckets.result _ _ (λ a e. subst (λ v. AllEmpty v) (sym e) (empty-replicate g.row.E.Denot c.args.count)) c.with_buckets.ensures
