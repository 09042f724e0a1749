use Rattle.std.proofs.Common.{rules}
use Rattle.std.specs.Prelude.{nat_eq, ◌==◌}
use Rattle.std.proofs.Math.Logic.{∥∥₁_map}
use Rattle.scc_calls.specs.MapCalls.{MapMoves}
use Rattle.scc_calls.specs.MapWhole.{MapWholeMoves}
use Rattle.scc_calls.specs.Means.{means_same}
use Rattle.scc_play.specs.Kinds.{finished_hash, route_by}
use Rattle.scc_play.proofs.Exact.{exactly}
use Rattle.scc_play.proofs.Keys.{if-played}
use Rattle.scc_play.proofs.kinds.play_map_in.Goals as goal

pub returns : goal.returns
returns g c = if-played c.finish_run.result c.finish_run.ensures.played (λ text p. ∥∥₁_map p (λ a. (
  a.0,
  a.1,
  exactly _ (λ _. MapMoves nat_eq) (λ g n i. MapWholeMoves nat_eq (λ k. route_by finished_hash n k == i)) _ a.0 _ _ _ text a.2 (λ g s call reply t m. m)
      (λ calls replies g n i w call reply v. means_same _ _ (MapWholeMoves nat_eq (λ k. route_by finished_hash n k == i)) calls replies w v call reply)
      (λ x y same. search rules) (λ x y same. search rules),
)))
