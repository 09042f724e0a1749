use Rattle.std.proofs.Common.{rules, ◌≡◌, ◌<◌, ◌≤◌, length, arith, [], ◌∷◌, ◌++◌, get_or}
use Rattle.std.proofs.lemmas.List.{append_assoc, append-nil}
use Rattle.scc_play.proofs.Telling.{one-told, none-told}
use Rattle.scc_play.proofs.finishing.replies_of_workers.Goals as goal

pub loop-k-preserved : goal.loop-k-preserved
loop-k-preserved g c = λ more others.
    let within : c.loop-k.k < length c.args.passes.now = omega arith in
    let at : get_or c.args.passes.now c.loop-k.k c.index-passes-k.result ≡ c.index-passes-k.result = search rules in
    let next = one-told g.P.Calls.key_of g.P.WholeCalls.counted g.P.Printed.count_reply c.args.stripes c.args.calls.now (λ p. p.log.number) (λ p. p.log.receipts.items) (λ v. v.items) c.args.passes.now c.loop-k.k c.index-passes-k.result c.in-Some.replies more within at (search rules) (search rules) others in
    let all = c.loop-k.invariant (c.in-Some.replies ∷ more) next in
    let added : c.push.new.self.items ≡ c.loop-k.told.items ++ c.in-Some.replies ∷ [] = search rules in
    rw added (rw (append_assoc c.loop-k.told.items (c.in-Some.replies ∷ []) more) all)

pub returns : goal.returns
returns g c =
    let end : length c.args.passes.now ≤ c.loop-k.k = omega arith in
    let all = c.loop-k.invariant [] (none-told g.P.Calls.key_of g.P.WholeCalls.counted g.P.Printed.count_reply c.args.stripes c.args.calls.now (λ p. p.log.number) (λ p. p.log.receipts.items) (λ v. v.items) c.args.passes.now c.loop-k.k end) in
    rw (append-nil c.loop-k.told.items) at all
