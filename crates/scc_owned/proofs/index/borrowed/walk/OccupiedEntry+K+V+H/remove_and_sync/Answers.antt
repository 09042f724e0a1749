use Rattle.std.proofs.Common.{refl, ap, ◌∙◌}
use Rattle.scc_common.specs.Contents.{waiting_of}
use Rattle.scc_table.proofs.places.Entries.{back-none, left-there}
use Rattle.scc_owned.proofs.HeldEntries.{same-name}
use Rattle.scc_owned.proofs.EntrySteps.{next-past}
use Rattle.scc_owned.proofs.index.borrowed.walk.OccupiedEntry+K+V+H.remove_and_sync.Goals as goal

pub returns-in-Some : goal.returns-in-Some
returns-in-Some g c = (
  (same-name c.at.ensures.guard, λ w. refl, tt),
  record {
    next = next-past c.args.self c.at.result _ _ c.at.ensures.guard c.at.ensures.place refl c.in-Some.ensures.others c.in-Some.ensures.noted c.in-Some.ensures.next.index;
    waiting = ap (λ x. waiting_of x.now) c.at.ensures.guard ∙ c.in-Some.ensures.waiting;
    unique = rw c.at.ensures.guard c.in-Some.ensures.unique;
    last = tt;
    kept = tt;
  },
)

pub returns-in-None : goal.returns-in-None
returns-in-None g c = (
  (refl, λ _. tt, (left-there _ _ _ c.in-None.ensures.others, c.in-None.ensures.noted, c.in-None.ensures.unique, c.in-None.ensures.waiting)),
  record { next = tt; waiting = tt; unique = tt; last = back-none _ _ c.in-None.ensures.next; kept = tt },
)
