use Rattle.std.proofs.Common.{sym, ◌∙◌, refl}
use Rattle.scc_common.specs.Contents.{settings_of}
use Rattle.scc_buckets.proofs.Views.{entries-view, count-view, lists-view, refused-view, settings-view, spilled-view}
use Rattle.scc_buckets.proofs.Buckets.set_reserved.Goals as goal

pub invariant_of-self : goal.invariant_of-self
invariant_of-self g c = record {
  table = c.self.invariant.table;
  small_minimum = rw (settings-view c.self.inside.buckets _ c.args.self.now c.self.view_is) at c.requires;
  unique = c.self.invariant.unique;
}

pub returns : goal.returns
unfolding settings_of
returns g c =
    record {
      entries = (entries-view c.self.inside.buckets _ _ refl ∙ sym (entries-view c.self.inside.buckets _ c.args.self.now c.self.view_is));
      lists = (lists-view c.self.inside.buckets _ _ refl ∙ sym (lists-view c.self.inside.buckets _ c.args.self.now c.self.view_is));
      spilled = (spilled-view c.self.inside.buckets _ _ refl ∙ sym (spilled-view c.self.inside.buckets _ c.args.self.now c.self.view_is));
      buckets = (count-view c.self.inside.buckets _ _ refl ∙ sym (count-view c.self.inside.buckets _ c.args.self.now c.self.view_is));
      settings = (rw (settings-view c.self.inside.buckets _ c.args.self.now c.self.view_is));
      noted = (refused-view _ _ _ refl ∙ sym (refused-view c.self.inside.buckets _ c.args.self.now c.self.view_is));
    }
