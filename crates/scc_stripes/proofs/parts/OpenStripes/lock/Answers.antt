use Rattle.std.proofs.Common.{arith, ◌∙◌}
use Rattle.std.proofs.lemmas.Iterator.Consumers.{YieldsList-end}
use Rattle.std.proofs.lemmas.Iterator.Adapters.{YieldsList-from_vec}
use Rattle.scc_stripes.proofs.parts.OpenStripes.lock.Goals as goal

pub invariant_of-result : goal.invariant_of-result
invariant_of-result g c =
    let gives = c.into_iter-part-iterator.ensures.into_iter_gives in
    let long = c.args.self.parts.ok.0 in
    let all = YieldsList-end (YieldsList-from_vec {s = c.into_iter-part-iterator.result} c.args.self.parts.items gives.0 (gives.1 ∙ long)) c.loop-part.yielded c.loop-part.part-iterator c.loop-part.yielded_by c.next.result c.next.new.self c.in-None.is c.next.ensures.steps in
    record { few = c.args.self.few; number = omega (arith, c.loop-part.invariant, all.1, long, c.args.self.number) }
