use Rattle.scc_buckets.proofs.Mapped.{ReachesMinimumWhenDue-mapped}
use Rattle.scc_table.proofs.relocations.Mapped.{grown-mapped}
use Rattle.scc_owned_set.proofs.Sets.{waiting-keys, ReservesOrRefuses-keys, noted-keys, on-none, on-some, shows, unique-keys}
use Rattle.scc_owned_set.proofs.Owned.reserve.Goals as goal

pub returns : goal.returns
returns g c =
    record {
      step = rw (← c.self.view_is) (ReservesOrRefuses-keys c.args.additional c.self.inside.map c.reserve.result c.reserve.new.self c.reserve.ensures.step);
      succeeds = rw (← c.self.view_is, (shows c.self.inside.map).settings) c.reserve.ensures.succeeds;
      due = rw (← c.self.view_is) (on-some c.reserve.result (ReachesMinimumWhenDue-mapped _ _ _) c.reserve.ensures.due);
      noted = rw (← c.self.view_is) (on-none c.reserve.result (noted-keys _ _) c.reserve.ensures.noted);
      spreads = rw (← c.self.view_is) (on-some c.reserve.result (λ h. rw (shows c.reserve.new.self).settings (grown-mapped _ _ c.self.inside.map c.reserve.new.self h)) c.reserve.ensures.spreads);
      waiting = rw (← c.self.view_is) (on-none c.reserve.result (waiting-keys _ _) c.reserve.ensures.waiting);
      unique = unique-keys _ _ c.reserve.ensures.unique;
    }
