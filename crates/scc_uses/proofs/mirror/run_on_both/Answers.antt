use Rattle.std.proofs.Common.{rules, ◌∙◌, refl, sym}
use Rattle.scc_calls.specs.States.{run_setting}
use Rattle.scc_calls.proofs.MapIndependence.{map-runs-same, map-runs-first}
use Rattle.scc_uses.proofs.MapAlike.{as-many-there, both-there, map-runs-alike}
use Rattle.scc_uses.proofs.Mirrors.{both-answered, first-stopped, second-stopped}
use Rattle.scc_uses.proofs.mirror.run_on_both.Goals as goal

pub prove-unreachable-requires : goal.prove-unreachable-requires
prove-unreachable-requires g c = c.if-prove.true (c.len.ensures.len ∙ sym (as-many-there g.met.K.Eq.laws _ _ c.len.ensures.unique c.len-2.ensures.unique (λ q. both-there _ _ _ (c.requires.alike q))) ∙ sym c.len-2.ensures.len)

pub returns : goal.returns
returns g c =
    let r = c.run.ensures.run in
    let q = c.run-2.ensures.run in
    let own = run_setting c.args.first.now in
    let other = run_setting c.args.second.now in
    both-answered _ _ _ _ _ _ _ _ _ _ _ _ tt
    (record {
      along = λ made others a b.
          let q = map-runs-alike g.met.K.Eq.laws g.met.V.PartialEq.laws own other _ c.equal_map_calls.ensures _ c.equal_replies.ensures (record { first = c.len.ensures.unique; second = c.len-2.ensures.unique; finds = c.requires.alike }) a b in
          (q.0, λ l. let ends = q.1 l in (ends.finds, as-many-there g.met.K.Eq.laws _ _ ends.first ends.second (λ k. both-there _ _ _ (ends.finds k))));
      all_same = λ z made others a b. map-runs-same g.met.K.Eq.laws own other c.len.ensures.unique z a b;
      first_same = λ z made others a b. map-runs-first g.met.K.Eq.laws own other c.len.ensures.unique z a b;
    })
    (r.0, r.1, c.runs_mean.ensures _ _ _ _ _ r.2) (q.0, q.1, c.runs_mean-2.ensures _ _ _ _ _ q.2) c.in_ok-run.ensures.all c.in_ok-run-2.ensures.all

pub returns-in_err-run-2 : goal.returns-in_err-run-2
returns-in_err-run-2 g c =
    let r = c.run.ensures.run in
    let q = c.run-2.ensures.run in
    let own = run_setting c.args.first.now in
    let other = run_setting c.args.second.now in
    second-stopped _ _ _ _ _ _ _ _ _ _ _ c.from_residual-in_err-run-2.result (search rules)
    (record {
      along = λ made others a b.
          let q = map-runs-alike g.met.K.Eq.laws g.met.V.PartialEq.laws own other _ c.equal_map_calls.ensures _ c.equal_replies.ensures (record { first = c.len.ensures.unique; second = c.len-2.ensures.unique; finds = c.requires.alike }) a b in
          (q.0, λ l. let ends = q.1 l in (ends.finds, as-many-there g.met.K.Eq.laws _ _ ends.first ends.second (λ k. both-there _ _ _ (ends.finds k))));
      all_same = λ z made others a b. map-runs-same g.met.K.Eq.laws own other c.len.ensures.unique z a b;
      first_same = λ z made others a b. map-runs-first g.met.K.Eq.laws own other c.len.ensures.unique z a b;
    })
    (r.0, r.1, c.runs_mean.ensures _ _ _ _ _ r.2) (q.0, q.1, c.runs_mean-2.ensures _ _ _ _ _ q.2) c.in_ok-run.ensures.all

pub returns-in_err-run : goal.returns-in_err-run
returns-in_err-run g c = first-stopped _ _ _ _ _ _ _ _ _ _ _ c.from_residual.result (search rules) (let r = c.run.ensures.run in (r.0, r.1, c.runs_mean.ensures _ _ _ _ _ r.2)) refl
