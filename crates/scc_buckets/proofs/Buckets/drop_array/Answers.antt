use Rattle.std.proofs.Common.{◌∙◌, refl, sym}
use Rattle.scc_common.specs.Contents.{bucket_count, entries, settings_of}
use Rattle.scc_buckets.proofs.Bare.{all-bare}
use Rattle.scc_buckets.proofs.MakingLemmas.{kept-none}
use Rattle.scc_buckets.proofs.Views.{entries-view, refused-view, settings-view, spilled-view}
use Rattle.scc_buckets.proofs.Buckets.drop_array.Goals as goal

pub destroy_empty-requires : goal.destroy_empty-requires
destroy_empty-requires g c =
    let bs = c.self.inside.buckets in
    let bare = sym (entries-view bs _ c.args.self.now c.self.view_is) ∙ c.requires in
    λ i l. rw c.replace-old.ensures.value (all-bare bs bare i)

pub invariant_of-self : goal.invariant_of-self
invariant_of-self g c =
    rw (c.replace-old.ensures.after, c.none-none.ensures) (kept-none _ _ _ c.self.inside.router.skipped _ c.self.invariant.small_minimum)

pub returns-clause-still : goal.returns-clause-still
unfolding entries
returns-clause-still g c = rw (c.replace-old.ensures.after, c.none-none.ensures) refl

pub returns-clause-buckets : goal.returns-clause-buckets
unfolding bucket_count
returns-clause-buckets g c = rw (c.replace-old.ensures.after, c.none-none.ensures) refl

pub returns-clause-settings : goal.returns-clause-settings
unfolding settings_of
returns-clause-settings g c = sym (settings-view c.self.inside.buckets _ c.args.self.now c.self.view_is)

pub returns-clause-noted : goal.returns-clause-noted
returns-clause-noted g c = refused-view _ _ _ refl ∙ sym (refused-view c.self.inside.buckets _ c.args.self.now c.self.view_is)

pub returns-clause-few : goal.returns-clause-few
returns-clause-few g c =
    let t = (invariant_of-self g c).table in
    rw (spilled-view c.replace-old.new.dest _ _ refl, ← t.spilled) t.few
