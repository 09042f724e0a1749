use Rattle.std.proofs.Common.{refl, rules}
use Rattle.scc_memo.proofs.Values.{values-none}
use Rattle.scc_memo.proofs.owned.Memo.with_capacity_and_hasher.Goals as goal

pub invariant_of-result : goal.invariant_of-result
invariant_of-result g c = values-none (g.P.Pure.value c.args.function) c.in-Ok.cache.contents c.in-Ok.ensures.entries

pub returns-in-Ok : goal.returns-in-Ok
returns-in-Ok g c =
    let e = c.in-Ok.ensures in
    record { function = refl; entries = e.entries; none = e.none; size = e.size; settings = e.settings; maximum = e.maximum; succeeds = (search rules); noted = e.noted; waiting = e.waiting }
