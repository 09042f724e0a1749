use Rattle.std.proofs.lemmas.List.Sorted.{IsPermutation-refl}
use Rattle.scc_common.specs.Contents.{entries}
use Rattle.scc_common.specs.PairWalks.{GoesOn}
use Rattle.scc_common.proofs.RuleWalks.{callable-some_to_write, takes-of-kept}
use Rattle.scc_owned_cache.proofs.walk.free.Owned+K+V+H.iter_mut_sync.Goals as goal

pub iter_mut_lent-requires-clause-callable : goal.iter_mut_lent-requires-clause-callable
iter_mut_lent-requires-clause-callable g c = callable-some_to_write (λ _ _. Unit {0}) g.F.FnMut GoesOn c.args.f _ (c.requires (entries c.args.self.now.contents) (IsPermutation-refl _))

pub returns : goal.returns
returns g c =
    let x = c.iter_mut_lent.ensures in
    record {
      step = (x.step.0, x.step.1, x.step.2, c.iter_mut_lent.new.f, x.step.3, x.step.4, takes-of-kept (λ _ _. Unit {0}) g.F.FnMut x.step.5, x.step.6, x.step.7, x.step.8);
      full = x.full;
      room = x.room;
      was_unique = x.was_unique;
      state = x.state;
      relocates = x.relocates;
      rests = x.rests;
    }
