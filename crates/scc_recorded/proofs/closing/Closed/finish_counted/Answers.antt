use Rattle.std.proofs.Common.{◌≡◌, ◌<◌, map, length, arith, sym, ap, ◌∙◌, subst, vec_len}
use Rattle.std.specs.List.{AllByRecursion, sum_by}
use Rattle.std.proofs.Math.Logic.{∥∥₁_elim, ∥∥₁_map}
use Rattle.std.proofs.lemmas.List.{length-map}
use Rattle.scc_calls.specs.Histories.{CallsRouted, Replays}
use Rattle.scc_calls.specs.declared.fixed.Setting.{Setting}
use Rattle.scc_common.specs.Routing.{stripe_of}
use Rattle.scc_history.specs.Orders.{steps_at}
use Rattle.scc_history.specs.Stamps.{calls_in}
use Rattle.scc_history.proofs.Along.{stamps_rise}
use Rattle.scc_history.proofs.Places.{merge_of}
use Rattle.scc_recorded.proofs.Alike.{alike, same_of, all_replay, rising_at}
use Rattle.scc_recorded.proofs.Same.{sum-of-map}
use Rattle.scc_recorded.proofs.closing.Closed.finish_counted.Goals as goal

pub returns-clause-finished : goal.returns-clause-finished
returns-clause-finished g c =
    let m = g.C.Calls in
    let self = c.args.self in
    let was = map (λ s. s.stripe.history.items) self.stripes.items in
    let hs = map (λ h. h.items) c.move_out.new.histories.items in
    let e = c.move_out.ensures.histories in
    let parts = c.move_out.new.parts.items in
    let b : length was ≡ length self.stripes.items = simp length-map in
    let p : length (map (λ s. s.stripe.container) self.stripes.items) ≡ length self.stripes.items = simp length-map in
    let n : length hs ≡ vec_len self.stripes = omega (arith, b, ap length e, self.stripes.ok.0) in
    let some : 0 < length parts = omega (arith, ap length c.move_out.ensures.parts, p, self.some, self.stripes.ok.0) in
    let routed : CallsRouted m.key_of (stripe_of g.C.Hasher.BuildHasher g.C.Hasher.Hasher.Hasher g.C.Key.Hash.hash_input self.hasher (length hs)) 0 hs = rw (n, e) c.in-Ok.ensures.routed in
    let replays : (k : Setting _) → AllByRecursion (λ x. m.setting x ≡ k) parts → ∥ Replays (m.means k) (m.resizes k) (map m.empty c.move_out.new.opened.items) hs (map m.state parts) ∥₁ = λ k all.
    rw (c.move_out.ensures.opened, e, c.move_out.ensures.parts)
    (all_replay m.means m.resizes m.empty m.setting m.state (λ s. s.stripe.container) (λ s. s.stripe.opened) (λ s. s.stripe.history.items) k (λ s. s.stripe.replays) self.stripes.items (rw c.move_out.ensures.parts at all)) in
    let like = ∥∥₁_elim self.placed squash₁ (λ p. ∥∥₁_map
    (alike m.limits g.met.C.Calls.one_limit m.setting (λ s. s.stripe.container) g.M.Site.chosen (λ s. s.placed) p.0 p.1 self.stripes.items (omega (arith, self.some, self.stripes.ok.0)))
    (λ a. (p.0, p.1, p.2, a))) in
    record {
      alike = rw c.move_out.ensures.parts like;
      replays = replays;
      routed = routed;
      merges = λ k all places merge.
          ∥∥₁_elim like squash₁ (λ q.
          let same = same_of m.setting parts k q.3.0 some all (rw c.move_out.ensures.parts q.3.2) in
          let hasher : self.hasher ≡ k.hasher = sym (ap (λ x. x.hasher) same ∙ q.3.1.hasher ∙ q.2) in
          let placed = subst (λ h. CallsRouted m.key_of (stripe_of g.C.Hasher.BuildHasher g.C.Hasher.Hasher.Hasher g.C.Key.Hash.hash_input h (length hs)) 0 hs) hasher routed in
          ∥∥₁_map (replays k all) (λ r. c.every_merge_is_a_run.ensures k (length hs) c.move_out.new.opened.items hs (map m.state parts) (steps_at hs places) r placed (merge_of _ hs places merge)));
      order = rw e c.in-Ok.ensures.order;
      stamps = rw e (stamps_rise was (rising_at (λ s. s.stripe.history.items) (λ s. (s.stripe.last, s.stripe.rising, let h = s.stripe.short in omega arith)) self.stripes.items) c.in-Ok.order.items c.in-Ok.ensures.order.0.1);
      complete = rw c.as_slice.ensures.value at c.in-Ok.ensures.complete;
      receipts = rw e (rw c.as_slice.ensures.value at c.in-Ok.ensures.receipts);
      count = ap (λ l. sum_by calls_in l) e ∙ sum-of-map calls_in (λ s. s.stripe.history.items) self.stripes.items ∙ c.requires (rw c.as_slice.ensures.value at c.in-Ok.ensures.complete);
    }

pub returns-in-Err-clause-refused : goal.returns-in-Err-clause-refused
returns-in-Err-clause-refused g c = rw c.as_slice.ensures.value at c.in-Err.ensures.refused
