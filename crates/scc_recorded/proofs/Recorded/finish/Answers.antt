use Rattle.std.proofs.Common.{◌≡◌, ◌∙◌, ap, arith, length, map, vec_len}
use Rattle.std.proofs.lemmas.List.{length-map}
use Rattle.scc_recorded.proofs.Same.{if-err, if-ok}
use Rattle.scc_recorded.proofs.Recorded.finish.Goals as goal

pub returns-clause-finished : goal.returns-clause-finished
returns-clause-finished g c = rw (c.close.ensures.hasher, c.close.ensures.passes) at c.finish.ensures.finished

pub returns-clause-stripes : goal.returns-clause-stripes
returns-clause-stripes g c = if-ok c.finish.result c.finish.ensures.parts (λ f p.
    let n : length (map (λ s. s.stripe.container) c.close.result.stripes.items) ≡ length c.close.result.stripes.items = simp length-map in
    omega (arith, ap length p.0, n, f.parts.ok.0, c.close.result.stripes.ok.0, c.close.ensures.stripes))

pub returns-clause-back : goal.returns-clause-back
returns-clause-back g c = if-err c.finish.result c.finish.ensures.back (λ u b. (b.1, ap (λ x. vec_len x.stripes) b.0 ∙ c.close.ensures.stripes, ap (λ x. x.passes) b.0 ∙ c.close.ensures.passes, ap (λ x. x.hasher) b.0 ∙ c.close.ensures.hasher))

pub returns-clause-numbers : goal.returns-clause-numbers
returns-clause-numbers g c = if-err c.finish.result c.finish.ensures.back (λ u b. ap (λ x. map (λ s. s.stripe.number) x.stripes.items) b.0 ∙ c.close.ensures.numbers)
