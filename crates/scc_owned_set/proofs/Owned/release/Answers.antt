use Rattle.std.proofs.lemmas.Result.{on_err_weaker, on_ok_weaker}
use Rattle.scc_buckets.proofs.Mapped.{ShrinksWhenDue-mapped}
use Rattle.scc_table.proofs.relocations.Mapped.{shrunk-mapped}
use Rattle.scc_owned_set.proofs.Sets.{waiting-keys, ReleasesOrRefuses-keys, noted-keys, shows, unique-keys}
use Rattle.scc_owned_set.proofs.Owned.release.Goals as goal

pub returns : goal.returns
returns g c =
    record {
      step = rw (← c.self.view_is) (ReleasesOrRefuses-keys c.args.reservation c.self.inside.map c.release.result c.release.new.self c.release.ensures.step);
      succeeds = rw (← c.self.view_is, (shows c.self.inside.map).settings) c.release.ensures.succeeds;
      due = rw (← c.self.view_is) (on_ok_weaker c.release.result (ShrinksWhenDue-mapped _ _ _) c.release.ensures.due);
      noted = rw (← c.self.view_is) (on_err_weaker c.release.result (noted-keys _ _) c.release.ensures.noted);
      spreads = rw (← c.self.view_is) (on_ok_weaker c.release.result (λ h. rw (shows c.release.new.self).settings (shrunk-mapped _ _ c.self.inside.map c.release.new.self h)) c.release.ensures.spreads);
      waiting = rw (← c.self.view_is) (on_err_weaker c.release.result (waiting-keys _ _) c.release.ensures.waiting);
      unique = unique-keys _ _ c.release.ensures.unique;
    }
