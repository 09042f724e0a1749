use Rattle.scc_memo.proofs.Values.{values-none}
use Rattle.scc_memo.proofs.owned.Memo.with_hasher.Goals as goal

pub invariant_of-result : goal.invariant_of-result
invariant_of-result g c = values-none (g.P.Pure.value c.args.function) c.with_hasher.result.contents c.with_hasher.ensures.entries
