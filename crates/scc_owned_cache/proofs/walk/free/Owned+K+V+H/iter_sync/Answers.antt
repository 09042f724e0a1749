use Rattle.std.proofs.Common.{true}
use Rattle.std.proofs.lemmas.List.Sorted.{IsPermutation-refl}
use Rattle.scc_common.specs.Contents.{entries}
use Rattle.scc_common.proofs.RuleWalks.{callable-some, walk-of-kept}
use Rattle.scc_owned_cache.proofs.Walked.{goes-over}
use Rattle.scc_owned_cache.proofs.walk.free.Owned+K+V+H.iter_sync.Goals as goal

pub iter_lent-requires : goal.iter_lent-requires
iter_lent-requires g c = callable-some (λ _ _. Unit {0}) g.F.FnMut true c.args.f _ (c.requires (entries c.args.self.now.contents) (IsPermutation-refl _))

pub returns : goal.returns
returns g c = (entries c.args.self.now.contents, c.iter_lent.new.f, goes-over _ c.args.self.now.contents c.iter_lent.ensures.state.lists, walk-of-kept (λ _ _. Unit {0}) g.F.FnMut c.iter_lent.ensures.walks)
