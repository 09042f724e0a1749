use Rattle.scc_common.specs.Contents.{hash_in}
use Rattle.std.proofs.Common.{refl, sym, ◌∙◌, ap, subst, map, List}
use Rattle.std.specs.List.{flat_map, IsDistinct}
use Rattle.scc_array.specs.Shelf.{Shelf, shelf_entries}
use Rattle.scc_buckets.specs.Tables.{IsBuckets, overflow_in}
use Rattle.scc_buckets.proofs.Views.{settings-view, refused-view, spilled-view, lists-view, waiting-view, owed-view}
use Rattle.scc_buckets.proofs.Buckets.install.Goals as goal

pub invariant_of-self : goal.invariant_of-self
invariant_of-self g c =
    let now = sym c.replace-own.ensures.after in
    let at = settings-view c.self.inside.buckets _ c.args.self.now c.self.view_is in
    record {
      table =
          subst (λ (bs : List (Shelf g.row.E.Denot)). IsBuckets (λ e. g.H.Hashes.hash_of c.self.inside.router.hasher (g.E.Keyed.key_of e)) c.self.inside.router.skipped bs c.args.count c.args.overflowing) now
          (rw (at, hash_in) at c.requires.table);
      small_minimum = c.self.invariant.small_minimum;
      unique = subst (λ (bs : List (Shelf g.row.E.Denot)). IsDistinct g.E.Key.PartialEq.eq (map g.E.Keyed.key_of (flat_map shelf_entries bs))) now c.requires.unique;
    }

pub returns : goal.returns
returns g c =
    record {
      lists = (lists-view _ _ _ refl ∙ ap (map shelf_entries) c.replace-own.ensures.after);
      settings = (settings-view _ _ _ refl ∙ sym (settings-view c.self.inside.buckets _ c.args.self.now c.self.view_is));
      noted = (refused-view _ _ _ refl ∙ sym (refused-view c.self.inside.buckets _ c.args.self.now c.self.view_is));
      spilled = (spilled-view _ _ _ refl ∙ ap overflow_in c.replace-own.ensures.after ∙ sym c.requires.table.spilled);
      waiting = (waiting-view _ _ _ refl ∙ sym (waiting-view c.self.inside.buckets _ c.args.self.now c.self.view_is));
      owed = (owed-view _ _ _ refl ∙ sym (owed-view c.self.inside.buckets _ c.args.self.now c.self.view_is));
      were = (lists-view c.self.inside.buckets _ c.args.self.now c.self.view_is ∙ ap (map shelf_entries) (sym c.replace-own.ensures.value));
      table = (
          let at = settings-view c.self.inside.buckets _ c.args.self.now c.self.view_is in
          rw (at, c.replace-own.ensures.value, hash_in) c.self.invariant.table);
      overflowing = (c.self.invariant.table.spilled ∙ sym (spilled-view c.self.inside.buckets _ c.args.self.now c.self.view_is));
    }
