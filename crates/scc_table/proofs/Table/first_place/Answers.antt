use Rattle.std.proofs.Common.{◌∙◌, sym}
use Rattle.scc_common.specs.Contents.{entries}
use Rattle.scc_buckets.proofs.Standing.{along, index-start, length-zero}
use Rattle.scc_table.proofs.Table.first_place.Goals as goal

pub returns-clause-place : goal.returns-clause-place
returns-clause-place g c =
    let start = index-start c.args.self.now in
    along c.place_past.result (λ e. length-zero (entries c.args.self.now) (sym start ∙ e)) (λ p s. record { within = s.within; index = s.index ∙ start }) c.place_past.ensures.place
