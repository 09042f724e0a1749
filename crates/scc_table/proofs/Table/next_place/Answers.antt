use Rattle.std.proofs.Common.{◌∙◌, sym, rules}
use Rattle.scc_buckets.proofs.Standing.{along}
use Rattle.scc_table.proofs.Table.next_place.Goals as goal

pub overflow_add-place : goal.overflow_add-place
overflow_add-place g c =
    let l = c.target_of-target.ensures.small in search rules

pub returns-clause-place : goal.returns-clause-place
returns-clause-place g c =
    let z = c.target_of-target.ensures.index in
    along c.place_on.result (λ e. sym z ∙ e) (λ p h. record { within = h.within; index = h.index ∙ z }) c.place_on.ensures
