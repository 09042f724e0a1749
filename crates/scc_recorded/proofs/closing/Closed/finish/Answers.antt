use Rattle.scc_recorded.proofs.Same.{if-err}
use Rattle.scc_recorded.proofs.closing.Closed.finish.Goals as goal

pub finish_counted-requires : goal.finish_counted-requires
finish_counted-requires g c = rw (c.count.ensures.same.0, c.count.ensures.same.1) c.count.ensures.equal

pub returns-clause-counted : goal.returns-clause-counted
returns-clause-counted g c = if-err c.finish_counted.result c.finish_counted.ensures.back (λ u b. rw (b.0, b.1, c.count.ensures.same.0, c.count.ensures.same.1) c.count.ensures.equal)
