use Rattle.std.proofs.Common.{nat_eq, sym, ◌∙◌, arith}
use Rattle.std.proofs.lemmas.Bool.{eqb-true}
use Rattle.scc_common.specs.Contents.{entries}
use Rattle.scc_buckets.proofs.PairSplits.{by_answer}
use Rattle.scc_table.proofs.walks.Comparisons.{equal-there, unequal-there, unequal-length}
use Rattle.scc_owned.proofs.index.clone_and_eq.IndexPartialEq.eq.Goals as goal

pub returns-then-len : goal.returns-then-len
returns-then-len g c =
    let es = entries c.args.self.now in
    let fs = entries c.args.other.now in
    by_answer c.is_within.result
    (λ y. y ∙ sym (equal-there g.met.K.Eq.laws (λ p q. g.V.PartialEq.eq p.1 q.1) es fs c.len.ensures.unique c.len-2.ensures.unique (sym c.is_within.ensures ∙ y) (omega (arith, c.if-len.true, c.len.ensures.len, c.len-2.ensures.len))))
    (λ n. n ∙ sym (unequal-there g.met.K.Eq.laws (λ p q. g.V.PartialEq.eq p.1 q.1) es fs c.len.ensures.unique c.len-2.ensures.unique (sym c.is_within.ensures ∙ n)))

pub returns-else-len : goal.returns-else-len
returns-else-len g c =
    (by_answer (nat_eq c.len.result c.len-2.result) (λ y. absurd (c.if-len.false (eqb-true c.len.result c.len-2.result y))) (λ n. n) ∙ sym (unequal-length g.met.K.Eq.laws (λ p q. g.V.PartialEq.eq p.1 q.1) (entries c.args.self.now) (entries c.args.other.now) c.len.ensures.unique c.len-2.ensures.unique
    (λ e. c.if-len.false (c.len.ensures.len ∙ e ∙ sym c.len-2.ensures.len))))
