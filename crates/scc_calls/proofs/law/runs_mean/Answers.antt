use Rattle.std.proofs.Common.{◌∙◌, inl, inr, refl}
use Rattle.scc_calls.proofs.Runs.{run-as}
use Rattle.scc_calls.proofs.law.runs_mean.Goals as goal

pub returns : goal.returns
returns g c g' old new calls replies r =
    let one = g.met.C.Call.PartialEq.laws in
    let other = g.met.C.Reply.PartialEq.laws in
    run-as
    (λ s call reply t h. g.met.C.Calls.means_alike g' s t h.0 call reply reply one other (inr (one.symm h.0 call ∙ c.requires.calls call h.0 h.1)) (inl refl) (g.met.C.Calls.moves_mean c.requires.replies g' s t h.0 reply h.2))
    r
