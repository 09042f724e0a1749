use Rattle.std.proofs.Common.{Some, drop, arith, sym, ap, ◌∙◌}
use Rattle.scc_history.specs.Orders.{stamp_of}
use Rattle.scc_history.proofs.Items.{item_at}
use Rattle.scc_history.proofs.Numbers.{call_number}
use Rattle.scc_history.proofs.Ordering.{least_bound, least_next, least_end}
use Rattle.scc_history.proofs.order.number_at.Goals as goal

pub loop-j-init : goal.loop-j-init
loop-j-init g c = (omega (arith, least_bound _ _ (drop c.args.from c.args.history.now)), omega arith)

pub loop-j-preserved : goal.loop-j-preserved
loop-j-preserved g c =
    let next = least_next _ _ c.args.history.now c.loop-j.j c.index-history-j.result c.loop-j-test.true in
    let stamp = ap stamp_of (sym c.index-history-j.is ∙ c.in-Resize.is) in
    let h = c.loop-j.invariant in (omega (arith, next, stamp, h.0), omega (arith, h.1))

pub returns-in-Call : goal.returns-in-Call
returns-in-Call g c =
    let rising = c.requires.rising in
    let get = item_at c.args.history.now c.loop-j.j c.index-history-j.result c.loop-j-test.true c.index-history-j.is ∙ ap Some c.in-Call.is in
    let number = call_number _ _ 0 c.args.history.now rising.0 c.loop-j.j c.in-Call.stamp c.in-Call.pass c.in-Call.call c.in-Call.reply rising.1 rising.2 get in
    omega (arith, number, c.loop-j.invariant.0)

pub returns : goal.returns
returns g c = omega (arith, c.loop-j.invariant.0, c.loop-j.invariant.1, least_end _ _ c.args.history.now c.loop-j.j (omega arith))
