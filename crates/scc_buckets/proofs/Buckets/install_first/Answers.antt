use Rattle.std.proofs.Common.{rules, ◌∙◌, length, refl, sym, ap, arith}
use Rattle.scc_common.specs.Contents.{settings_of}
use Rattle.scc_buckets.specs.Tables.{AllEmpty}
use Rattle.scc_buckets.proofs.Bounds.{resized-fresh}
use Rattle.scc_buckets.proofs.FindingLemmas.{no-entries}
use Rattle.scc_buckets.proofs.MakingLemmas.{counts-none, kept-fresh, entries-fresh}
use Rattle.scc_buckets.proofs.Views.{count-view, refused-view, settings-view, spilled-view}
use Rattle.scc_buckets.proofs.Buckets.install_first.Goals as goal

pub destroy_empty-requires : goal.destroy_empty-requires
destroy_empty-requires g c =
    let none = rw (count-view c.self.inside.buckets _ c.args.self.now c.self.view_is) at c.requires in
    let same = ap length c.replace-old.ensures.value in
    λ i h. absurd (omega (arith, none))

pub invariant_of-self : goal.invariant_of-self
invariant_of-self g c =
    let none = rw (count-view c.self.inside.buckets _ c.args.self.now c.self.view_is) at c.requires in
    let counts = counts-none _ _ _ _ c.self.inside.buckets none c.self.invariant.table in
    rw c.replace-old.ensures.after
    (kept-fresh _ _ _ _ _ c.buckets_for-count.result c.self.inside.length c.self.inside.overflowing c.in_ok-buckets.buckets c.in_ok-buckets.ensures.empty c.in_ok-buckets.ensures.count c.buckets_for-count.ensures.array c.self.invariant.small_minimum counts.0 counts.1)

pub returns-in_err-buckets : goal.returns-in_err-buckets
returns-in_err-buckets g c =
    let none = rw (count-view c.self.inside.buckets _ c.args.self.now c.self.view_is) at c.requires in
    record {
      still = (no-entries c.self.inside.buckets _ c.args.self.now c.self.view_is none);
      entries = (no-entries c.self.inside.buckets _ c.args.self.now c.self.view_is none);
      size = (search rules);
      array = (search rules);
      settings = (search rules);
      noted = (search rules);
      refused = (search rules);
      resized = (search rules);
      same = (search rules);
      few = (rw (spilled-view c.self.inside.buckets _ c.args.self.now c.self.view_is, ← c.self.invariant.table.spilled) c.self.invariant.table.few);
    }

pub returns : goal.returns
unfolding settings_of
returns g c =
    let none = rw (count-view c.self.inside.buckets _ c.args.self.now c.self.view_is) at c.requires in
    record {
      still = (entries-fresh c.replace-old.new.dest _ _ (rw c.replace-old.ensures.after c.in_ok-buckets.ensures.empty));
      entries = (no-entries c.self.inside.buckets _ c.args.self.now c.self.view_is none);
      size = (rw (settings-view c.self.inside.buckets _ c.args.self.now c.self.view_is, count-view c.replace-old.new.dest _ _ refl, c.replace-old.ensures.after, c.in_ok-buckets.ensures.count) c.buckets_for-count.ensures.size);
      array = (rw (count-view c.replace-old.new.dest _ _ refl, c.replace-old.ensures.after, c.in_ok-buckets.ensures.count) c.buckets_for-count.ensures.array);
      settings = (sym (settings-view c.self.inside.buckets _ c.args.self.now c.self.view_is));
      noted = (refused-view _ _ _ refl ∙ sym (refused-view c.self.inside.buckets _ c.args.self.now c.self.view_is));
      refused = (search rules);
      resized = (
          let bs = c.replace-old.new.dest in
          let nothing = no-entries c.self.inside.buckets _ c.args.self.now c.self.view_is none in
          let fresh : AllEmpty bs = rw c.replace-old.ensures.after c.in_ok-buckets.ensures.empty in
          resized-fresh _ _ bs _ c.args.self.now nothing fresh (rw (c.replace-old.ensures.after, c.in_ok-buckets.ensures.count) c.buckets_for-count.ensures.array) (sym (settings-view c.self.inside.buckets _ c.args.self.now c.self.view_is)));
      same = (search rules);
      few = (let t = (invariant_of-self g c).table in rw (spilled-view c.replace-old.new.dest _ _ refl, ← t.spilled) t.few);
    }
