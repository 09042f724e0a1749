use Rattle.std.proofs.Common.{◌≡◌, Ok, map, length, vec_len, string_bytes, ap, arith}
use Rattle.std.proofs.lemmas.List.{length-map}
use Rattle.scc_play.specs.declared.ends.Cause.TheVariants.{Misrouted, Disagrees}
use Rattle.scc_play.proofs.Assembling.{assembled}
use Rattle.scc_play.proofs.finishing.finish_run.Goals as goal

pub returns-in-Some-2-clause-played : goal.returns-in-Some-2-clause-played
returns-in-Some-2-clause-played g c =
    let f = c.in-Ok.finished in
    let e = c.in-Ok.ensures in
    let run = e.finished in
    let closed = c.args.closed in
    let tells = rw c.as_slice.ensures.value at (rw c.in-Some.is at c.in_ok-listed.ensures) in
    let known = rw c.in-Some-2.is at c.in_ok-text.ensures.known in
    let zeros = rw c.in-Some-2.is at c.in_ok-text.ensures.opened in
    let shows = rw c.as_slice-2.ensures.value at (rw c.in-Some-2.is at c.in_ok-text.ensures.text) in
    let hs = map (λ h. h.items) f.histories.items in
    let b : length (map (λ s. s.stripe.history.items) closed.stripes.items) ≡ length closed.stripes.items = simp length-map in
    let d : length (map (λ s. s.stripe.opened) closed.stripes.items) ≡ length closed.stripes.items = simp length-map in
    let p : length (map (λ q. q.log.number) c.args.passes.items) ≡ length c.args.passes.items = simp length-map in
    let many : length hs ≡ c.args.stripes = omega (arith, ap length e.parts.1, b, closed.stripes.ok.0, c.requires.stripes.0) in
    let empty : length f.opened.items ≡ c.args.stripes = omega (arith, ap length e.parts.2, d, closed.stripes.ok.0, c.requires.stripes.0) in
    let worker_count : length c.args.passes.items ≡ c.args.workers = omega (arith, p, run.complete.0, c.requires.workers) in
    assembled _ _ _ _ g.met.P.Printed.exact_calls g.met.P.Printed.exact_replies g.P.Calls.setting (λ q. q.log.number) (λ q. q.log.receipts.items) (λ v. v.items)
    g.M.Site.chosen c.args.workers c.args.stripes c.args.calls.now closed.hasher f.parts.items hs f.opened.items f.order.items c.args.passes.items c.in-Some.told.items (string_bytes c.in-Some-2.text) (length hs)
    many many empty worker_count run.alike run.replays run.routed run.merges run.order.0 run.stamps run.receipts zeros known tells shows

pub returns-in-Err-clause-misrouted : goal.returns-in-Err-clause-misrouted
returns-in-Err-clause-misrouted g c e =
    let same : c.in_ok-cause-in-Err.cause ≡ Misrouted = cc in
    let at = c.in_ok-cause-in-Err.ensures.misrouted (ap Ok same) in
    let found = (c.in-Err.ensures.refused.misrouted at.0 at.1 at.2).1 in
    let as-many : length (map (λ s. s.stripe.history.items) c.args.closed.stripes.items) ≡ length c.args.closed.stripes.items = simp length-map in
    let n : length (map (λ s. s.stripe.history.items) c.args.closed.stripes.items) ≡ vec_len c.args.closed.stripes = omega (arith, as-many, c.args.closed.stripes.ok.0) in
    (at.0, at.1, rw n at (rw c.in-Err.ensures.back.0 at found))

pub returns-in-Err-clause-disagrees : goal.returns-in-Err-clause-disagrees
returns-in-Err-clause-disagrees g c e =
    let same : c.in_ok-cause-in-Err.cause ≡ Disagrees = cc in
    let at = c.in_ok-cause-in-Err.ensures.disagrees (ap Ok same) in
    let found = (c.in-Err.ensures.refused.disagrees at.0 at.1 at.2).2 in
    (at.0, at.1, rw c.in-Err.ensures.back.1 at (rw c.in-Err.ensures.back.0 at found))
