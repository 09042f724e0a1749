use Rattle.std.proofs.Common.{rules, ◌≡◌, ◌<◌, ◌≤◌, length, arith, [], ◌∷◌, ◌++◌, get_or}
use Rattle.std.proofs.lemmas.List.{append_assoc, nil_from_length, append-nil}
use Rattle.scc_play.proofs.Answering.{one-more, none-left}
use Rattle.scc_play.proofs.receipts.replies_of.Goals as goal

pub loop-call-preserved : goal.loop-call-preserved
loop-call-preserved g c = λ more others.
    let key_of = g.P.Calls.key_of in
    let counted = g.P.WholeCalls.counted in
    let count = g.P.Printed.count_reply in
    let within : c.loop-call.call-index < length c.args.calls.now = omega arith in
    let at : get_or c.args.calls.now c.loop-call.call-index c.call-item.result ≡ c.call-item.result = search rules in
    let next = one-more key_of counted count c.args.stripes c.args.calls.now c.loop-call.call-index c.call-item.result c.loop-call.rest.now c.split_at.result.0.now c.split_at.result.1.now c.in-Some.reply more within at c.split_at.ensures.by_index.0 (search rules) others in
    let all = c.loop-call.invariant (c.in-Some.reply ∷ more) next in
    let added : c.push.new.self.items ≡ c.loop-call.replies.items ++ c.in-Some.reply ∷ [] = search rules in
    rw added (rw (append_assoc c.loop-call.replies.items (c.in-Some.reply ∷ []) more) all)

pub returns-then-is_empty : goal.returns-then-is_empty
returns-then-is_empty g c =
    let key_of = g.P.Calls.key_of in
    let counted = g.P.WholeCalls.counted in
    let count = g.P.Printed.count_reply in
    let end : length c.args.calls.now ≤ c.loop-call.call-index = omega arith in
    let none : c.loop-call.rest.now ≡ [] = nil_from_length c.loop-call.rest.now (search rules) in
    let all = c.loop-call.invariant [] (none-left key_of counted count c.args.stripes c.args.calls.now c.loop-call.call-index c.loop-call.rest.now end none) in
    rw (append-nil c.loop-call.replies.items) at all
