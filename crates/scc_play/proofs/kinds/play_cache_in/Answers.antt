use Rattle.std.proofs.Common.{rules}
use Rattle.std.specs.Prelude.{nat_eq}
use Rattle.std.proofs.Math.Logic.{∥∥₁_map}
use Rattle.scc_calls.specs.CacheCalls.{cache_key, number_by, CacheMoves}
use Rattle.scc_calls.specs.Parted.{PartMoves}
use Rattle.scc_calls.specs.Means.{means_same}
use Rattle.scc_play.specs.Kinds.{finished_hash, route_by}
use Rattle.scc_play.proofs.Exact.{exactly}
use Rattle.scc_play.proofs.Keys.{if-played}
use Rattle.scc_play.proofs.kinds.play_cache_in.Goals as goal

pub returns : goal.returns
returns g c = if-played c.finish_run.result c.finish_run.ensures.played (λ text p. ∥∥₁_map p (λ a. (
  a.0,
  a.1,
  exactly _ (λ g. CacheMoves nat_eq (number_by (λ h k. finished_hash k) g)) (λ g n i. PartMoves (CacheMoves nat_eq (number_by (λ h k. finished_hash k) g)) cache_key (λ k. route_by finished_hash n k) i) _ a.0 _ _ _ text a.2 (λ g s call reply t m. m)
      (λ calls replies g n i w call reply v m. (m.0, (m.1.0, m.1.1, m.1.2, means_same _ _ (CacheMoves nat_eq (number_by (λ h k. finished_hash k) g)) calls replies m.1.0 m.1.1 call reply m.1.3, m.1.4)))
      (λ x y same. search rules) (λ x y same. search rules),
)))
