use Rattle.std.proofs.Common.{rules, ◌≡◌, ◌<◌, [], Some, map, length, get_or, arith, sym, ap, ◌∙◌}
use Rattle.std.specs.Prelude.{slice_index_or}
use Rattle.std.proofs.lemmas.List.{length-map, get_or-map}
use Rattle.scc_history.proofs.Items.{item_at}
use Rattle.scc_history.proofs.Telling.{all_at}
use Rattle.scc_history.specs.Receipts.{seen}
use Rattle.scc_recorded.proofs.ComparingLemmas.{least_more, least_all, least_first, found_is}
use Rattle.scc_recorded.proofs.Seen.{number_at}
use Rattle.scc_recorded.proofs.checks.first_disagreement.Goals as goal

pub bounds-records-log : goal.bounds-records-log
bounds-records-log g c =
    let passes = c.args.passes.now in
    let k = c.loop-k.k in
    let numbers = map (λ p. p.log.number) passes in
    let long : length numbers ≡ length passes = simp length-map in
    let b = all_at (λ n. n < length c.args.records.now) numbers k 0 c.requires (omega (arith, long, c.loop-k-test.true)) in
    omega (arith, b, number_at (λ p. p.log.number) passes k 0 c.index-passes-k.result c.loop-k-test.true)

pub offset_bounds-records-log : goal.offset_bounds-records-log
offset_bounds-records-log g c =
    let passes = c.args.passes.now in
    let k = c.loop-k.k in
    let numbers = map (λ p. p.log.number) passes in
    let long : length numbers ≡ length passes = simp length-map in
    let b = all_at (λ n. n < length c.args.records.now) numbers k 0 c.requires (omega (arith, long, c.loop-k-test.true)) in
    let n = number_at (λ p. p.log.number) passes k 0 c.index-passes-k.result c.loop-k-test.true in
    search (rules, b, n)

pub loop-k-preserved : goal.loop-k-preserved
loop-k-preserved g c =
    let passes = c.args.passes.now in
    let records = c.args.records.now in
    let k = c.loop-k.k in
    let q = get_or passes k c.index-passes-k.result in
    let numbers = map (λ p. p.log.number) passes in
    let long : length numbers ≡ length passes = simp length-map in
    let b = all_at (λ n. n < length records) numbers k 0 c.requires (omega (arith, long, c.loop-k-test.true)) in
    let within : q.log.number < length records = omega (arith, b, number_at (λ p. p.log.number) passes k 0 c.index-passes-k.result c.loop-k-test.true) in
    let at = item_at passes k c.index-passes-k.result c.loop-k-test.true c.index-passes-k.is ∙ ap Some c.index-passes-k.is in
    let e = c.as_slice.ensures.value in
    let f = ap (map seen) c.as_slice-in-loop-k.ensures.value ∙ ap (λ v. map seen v.items) c.index-records-log.is ∙ sym (get_or-map (λ v. map seen v.items) records q.log.number c.index-records-log.result [] within) in
    let found = c.first_difference-found in
    let m = found_is g.C.Call.PartialEq.eq g.C.Reply.PartialEq.eq _ _ q.log.receipts.items (slice_index_or (map (λ v. map seen v.items) records) q.log.number []) e f found.result found.ensures.none found.ensures.some in
    rw c.lesser-first.ensures
    (least_more g.C.Call.PartialEq.eq g.C.Reply.PartialEq.eq (λ p. p.log.number) (λ p. p.log.receipts.items) passes (λ n. slice_index_or (map (λ v. map seen v.items) records) n []) k q at c.loop-k.first found.result c.loop-k.invariant m)

pub returns-clause-none : goal.returns-clause-none
returns-clause-none g c = least_all g.C.Call.PartialEq.eq g.C.Reply.PartialEq.eq (λ p. p.log.number) (λ p. p.log.receipts.items) c.args.passes.now (λ n. slice_index_or (map (λ v. map seen v.items) c.args.records.now) n []) c.loop-k.k c.loop-k.first (omega arith) c.loop-k.invariant

pub returns-clause-some : goal.returns-clause-some
returns-clause-some g c = least_first g.C.Call.PartialEq.eq g.C.Reply.PartialEq.eq (λ p. p.log.number) (λ p. p.log.receipts.items) c.args.passes.now (λ n. slice_index_or (map (λ v. map seen v.items) c.args.records.now) n []) c.loop-k.k c.loop-k.first (omega arith) c.loop-k.invariant
