use Rattle.std.proofs.Common.{nat_eq}
use Rattle.scc_calls.specs.MapCalls.{MapMoves}
use Rattle.scc_calls.specs.Means.{means_same}
use Rattle.scc_calls.specs.States.{state_of, run_setting}
use Rattle.scc_calls.proofs.MapRuns.{count-of_run}
use Rattle.scc_calls.proofs.Runs.{run-as}
use Rattle.test_scripts.proofs.runs.count.Goals as goal

pub returns : goal.returns
returns g c = count-of_run nat_eq (run_setting c.args.map.now) c.run.result (state_of c.args.map.now) (state_of c.run.new.c) c.args.replies.now.items c.run.new.replies.items c.requires c.run.ensures.all (let x = c.run.ensures.run in (x.0, x.1, run-as (λ s call reply t. means_same _ _ (MapMoves nat_eq) c.are_exact.ensures.calls c.are_exact.ensures.replies s t call reply) (c.runs_mean.ensures _ _ _ _ _ x.2)))
