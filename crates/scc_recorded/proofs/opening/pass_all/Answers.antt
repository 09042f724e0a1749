use Rattle.std.proofs.Common.{rules}
use Rattle.scc_recorded.proofs.Handing.{all_push, numbers_push}
use Rattle.scc_recorded.proofs.opening.pass_all.Goals as goal

pub loop-number-preserved : goal.loop-number-preserved
loop-number-preserved g c = record {
  parts = search rules;
  room = search rules;
  numbers = rw c.push_reserved.ensures.items (numbers_push (λ p. p.log.number) c.loop-number.handed.items c.open-pass.result c.loop-number.number c.loop-number.invariant.numbers c.open-pass.ensures.log.0);
  new = rw c.push_reserved.ensures.items (all_push _ c.loop-number.handed.items c.open-pass.result c.loop-number.invariant.new (c.open-pass.ensures.log.1, c.open-pass.ensures.log.2));
}
