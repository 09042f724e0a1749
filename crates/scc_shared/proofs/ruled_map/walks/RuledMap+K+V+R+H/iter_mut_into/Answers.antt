use Rattle.std.proofs.Common.{arith, rules, [], ◌++◌, ◌∙◌, ap, sym, append-nil, append_assoc}
use Rattle.scc_common.specs.PairWalks.{ended}
use Rattle.scc_common.proofs.Lists.{all-append}
use Rattle.scc_stripes.proofs.Walks.{walked-next, walked-none, walked-short}
use Rattle.scc_table.proofs.walks.Lists.{takes-join}
use Rattle.scc_owned.proofs.RuledPairs.{distinct-front}
use Rattle.scc_shared.proofs.ruled_map.walks.RuledMap+K+V+R+H.iter_mut_into.Goals as goal

pub loop-stripe-init : goal.loop-stripe-init
loop-stripe-init g c = record { seen = ([], [], [], tt, tt, tt, ended, sym (append-nil _), walked-none g.K.PartialEq.eq (λ p. p.0)); room = search rules }

pub returns-in-Ok-false-clause-calls : goal.returns-in-Ok-false-clause-calls
returns-in-Ok-false-clause-calls g c =
    let s = c.loop-stripe.invariant.seen in
    let x = rw c.in-Ok-false.field-0-test at c.in-Ok-false.ensures.step in
    let distinct = distinct-front g.K.PartialEq.eq (λ p. p.0) x.0 x.1 (rw x.4 at c.iter_mut_lent-went_on.ensures.was_unique) in
    (_, _, _, _, all-append (λ (p : g.row.K.Denot × g.row.V.Denot). g.R.Rule.holds p.0 p.1) s.0 x.0 s.3 x.5, all-append (λ (p : g.row.K.Denot × g.row.V.Denot). g.R.Rule.holds p.0 p.1) s.1 x.2 s.4 x.6, all-append (λ (p : g.row.K.Denot × g.row.V.Denot). g.R.Rule.holds p.0 p.1) s.2 x.3 s.5 x.7, takes-join s.6 x.8, x.9 ∙ ap (λ z. z ++ x.3) s.7 ∙ append_assoc (g.L.Sink.pairs c.args.taken.now) s.2 x.3, walked-short g.K.PartialEq.eq (λ p. p.0) _ _ _ (omega arith) (walked-next g.K.PartialEq.eq (λ p. p.0) _ _ _ s.8 distinct))

pub returns-in-Err-clause-calls : goal.returns-in-Err-clause-calls
returns-in-Err-clause-calls g c =
    let s = c.loop-stripe.invariant.seen in
    let x = c.in-Err.ensures.step in
    let distinct = distinct-front g.K.PartialEq.eq (λ p. p.0) x.0 x.1 (rw x.4 at c.iter_mut_lent-went_on.ensures.was_unique) in
    (_, _, _, _, all-append (λ (p : g.row.K.Denot × g.row.V.Denot). g.R.Rule.holds p.0 p.1) s.0 x.0 s.3 x.5, all-append (λ (p : g.row.K.Denot × g.row.V.Denot). g.R.Rule.holds p.0 p.1) s.1 x.2 s.4 x.6, all-append (λ (p : g.row.K.Denot × g.row.V.Denot). g.R.Rule.holds p.0 p.1) s.2 x.3 s.5 x.7, takes-join s.6 x.8, x.9 ∙ ap (λ z. z ++ x.3) s.7 ∙ append_assoc (g.L.Sink.pairs c.args.taken.now) s.2 x.3, walked-short g.K.PartialEq.eq (λ p. p.0) _ _ _ (omega arith) (walked-next g.K.PartialEq.eq (λ p. p.0) _ _ _ s.8 distinct))

pub loop-stripe-preserved : goal.loop-stripe-preserved
loop-stripe-preserved g c =
    let s = c.loop-stripe.invariant.seen in
    let x = rw c.in-Ok-true.field-0-test at c.in-Ok-true.ensures.step in
    let distinct = distinct-front g.K.PartialEq.eq (λ p. p.0) x.0 x.1 (rw x.4 at c.iter_mut_lent-went_on.ensures.was_unique) in
    record {
      seen = (_, _, _, all-append (λ (p : g.row.K.Denot × g.row.V.Denot). g.R.Rule.holds p.0 p.1) s.0 x.0 s.3 x.5, all-append (λ (p : g.row.K.Denot × g.row.V.Denot). g.R.Rule.holds p.0 p.1) s.1 x.2 s.4 x.6, all-append (λ (p : g.row.K.Denot × g.row.V.Denot). g.R.Rule.holds p.0 p.1) s.2 x.3 s.5 x.7, takes-join s.6 x.8, x.9 ∙ ap (λ z. z ++ x.3) s.7 ∙ append_assoc (g.L.Sink.pairs c.args.taken.now) s.2 x.3, walked-next g.K.PartialEq.eq (λ p. p.0) _ _ _ s.8 distinct);
      room = omega (arith, c.loop-stripe.invariant.room, c.in-Ok-true.ensures.room);
    }
