use Rattle.std.proofs.Common.{refl, sym, ◌∙◌}
use Rattle.scc_buckets.proofs.Views.{entries-view, count-view, lists-view, refused-view, settings-view, spilled-view}
use Rattle.scc_buckets.proofs.Buckets.note.Goals as goal

pub returns-clause-lists : goal.returns-clause-lists
returns-clause-lists g c = lists-view c.self.inside.buckets _ _ refl ∙ sym (lists-view c.self.inside.buckets _ c.args.self.now c.self.view_is)

pub returns-clause-settings : goal.returns-clause-settings
returns-clause-settings g c = settings-view c.self.inside.buckets _ _ refl ∙ sym (settings-view c.self.inside.buckets _ c.args.self.now c.self.view_is)

pub returns-clause-spilled : goal.returns-clause-spilled
returns-clause-spilled g c = spilled-view c.self.inside.buckets _ _ refl ∙ sym (spilled-view c.self.inside.buckets _ c.args.self.now c.self.view_is)

pub returns-clause-noted : goal.returns-clause-noted
returns-clause-noted g c = refused-view c.self.inside.buckets _ _ refl

pub returns-clause-unchanged : goal.returns-clause-unchanged
returns-clause-unchanged g c =
    let bs = c.self.inside.buckets in
    record {
      exact = entries-view bs _ _ refl ∙ sym (entries-view bs _ c.args.self.now c.self.view_is);
      buckets = count-view bs _ _ refl ∙ sym (count-view bs _ c.args.self.now c.self.view_is);
      settings = settings-view bs _ _ refl ∙ sym (settings-view bs _ c.args.self.now c.self.view_is);
    }
