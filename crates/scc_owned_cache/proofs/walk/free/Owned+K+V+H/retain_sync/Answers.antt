use Rattle.std.specs.Prelude.{⊤}
use Rattle.std.proofs.lemmas.List.Sorted.{IsPermutation-refl}
use Rattle.scc_common.specs.Contents.{entries}
use Rattle.scc_common.proofs.RuleWalks.{callable-some_to_write, retains-of-kept}
use Rattle.scc_owned_cache.proofs.walk.free.Owned+K+V+H.retain_sync.Goals as goal

pub retain_lent-requires-clause-callable : goal.retain_lent-requires-clause-callable
retain_lent-requires-clause-callable g c = callable-some_to_write (λ _ _. Unit {0}) g.F.FnMut (λ answer. ⊤) c.args.f _ (c.requires (entries c.args.self.now.contents) (IsPermutation-refl _))

pub returns-clause-step : goal.returns-clause-step
returns-clause-step g c = let x = c.retain_lent.ensures.step in (x.0, x.1, c.retain_lent.new.f, x.2, x.3, retains-of-kept (λ _ _. Unit {0}) g.F.FnMut x.4, x.5, x.6)
