use Rattle.std.proofs.Common.{rules, ◌≡◌, ◌++◌, [], ◌∷◌, Some, map, length, arith, refl, sym, ap, ◌∙◌}
use Rattle.std.specs.Prelude.{slice_index_or}
use Rattle.std.proofs.lemmas.List.{length-map}
use Rattle.scc_history.specs.Receipts.{calls_of}
use Rattle.scc_history.proofs.Items.{item_at}
use Rattle.scc_history.proofs.Ordering.{history_at, length_at}
use Rattle.scc_history.proofs.Telling.{all_at, calls_next}
use Rattle.scc_history.proofs.matching.records_by_pass.Goals as goal

pub offset_bounds-history-place : goal.offset_bounds-history-place
offset_bounds-history-place g c =
    let hs = map g.H.Histories.history c.args.stripes.now in
    let p = slice_index_or c.args.order.now c.loop-place.place-index (0, 0) in
    let n : length hs ≡ length c.args.stripes.now = simp length-map in
    let stand = all_at _ c.args.order.now c.loop-place.place-index (0, 0) c.requires c.loop-place-test.true in
    let at = history_at _ _ _ g.H.Histories.history c.args.stripes.now p.0 c.index-stripes-place.result (omega (arith, stand.0, n)) c.index-stripes-place.is in
    let long = length_at (Unit {0}) _ _ (λ _. []) hs p.0 _ at in
    omega (arith, stand.1, long, ap length c.history.ensures.same)

pub bounds-history-place : goal.bounds-history-place
bounds-history-place g c =
    let hs = map g.H.Histories.history c.args.stripes.now in
    let p = slice_index_or c.args.order.now c.loop-place.place-index (0, 0) in
    let n : length hs ≡ length c.args.stripes.now = simp length-map in
    let stand = all_at _ c.args.order.now c.loop-place.place-index (0, 0) c.requires c.loop-place-test.true in
    let at = history_at _ _ _ g.H.Histories.history c.args.stripes.now p.0 c.index-stripes-place.result (omega (arith, stand.0, n)) c.index-stripes-place.is in
    let long = length_at (Unit {0}) _ _ (λ _. []) hs p.0 _ at in
    omega (arith, stand.1, long, ap length c.history.ensures.same)

pub loop-place-preserved : goal.loop-place-preserved
loop-place-preserved g c =
    let hs = map g.H.Histories.history c.args.stripes.now in
    let p = slice_index_or c.args.order.now c.loop-place.place-index (0, 0) in
    let n : length hs ≡ length c.args.stripes.now = simp length-map in
    let stand = all_at _ c.args.order.now c.loop-place.place-index (0, 0) c.requires c.loop-place-test.true in
    let at = history_at _ _ _ g.H.Histories.history c.args.stripes.now p.0 c.index-stripes-place.result (omega (arith, stand.0, n)) c.index-stripes-place.is ∙ ap Some (sym c.history.ensures.same) in
    let long = length_at (Unit {0}) _ _ (λ _. []) hs p.0 _ at in
    let step = item_at c.history.result.now p.1 c.index-history-place.result (omega (arith, stand.1, long)) c.index-history-place.is in
    record {
      len = search rules;
      records = λ n d h. c.in_ok-tell.ensures.told n d (omega (arith, h, c.loop-place.invariant.len)) ∙ ap (λ l. l ++ calls_of n ((p.0, c.index-history-place.result) ∷ [])) (c.loop-place.invariant.records n d h) ∙ sym (calls_next n hs c.args.order.now c.loop-place.place-index p c.history.result.now c.index-history-place.result c.loop-place-test.true refl at step);
    }
