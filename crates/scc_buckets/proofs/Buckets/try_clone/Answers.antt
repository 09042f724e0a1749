use Rattle.std.proofs.Common.{◌∙◌, refl}
use Rattle.scc_common.specs.Contents.{entries}
use Rattle.scc_buckets.proofs.CloningLemmas.{adds-whole}
use Rattle.scc_buckets.proofs.Views.{settings-view, waiting-view}
use Rattle.scc_buckets.proofs.Buckets.try_clone.Goals as goal

pub returns-clause-clones : goal.returns-clause-clones
returns-clause-clones g c =
    let made = settings-view c.self.inside.buckets _ c.args.self.now c.self.view_is in
    adds-whole g.E.Clone.is_clone g.H.Clone.is_clone (entries c.args.self.now) c.in_ok-router.router.hasher c.args.self.now c.in_ok-copy.copy c.insert_clones_of.new.self refl c.in_ok-copy.ensures.entries c.in_ok-copy.ensures.buckets (rw made c.in_ok-router.ensures.hasher) (rw (made, ← c.in_ok-router.ensures.skipped) c.in_ok-copy.ensures.settings) c.in_ok-insert_clones_of.ensures

pub returns-clause-noted : goal.returns-clause-noted
returns-clause-noted g c = c.in_ok-insert_clones_of.ensures.noted ∙ c.in_ok-copy.ensures.noted

pub returns-clause-waiting : goal.returns-clause-waiting
returns-clause-waiting g c = waiting-view c.copy.inside.buckets _ _ c.copy.view_is
