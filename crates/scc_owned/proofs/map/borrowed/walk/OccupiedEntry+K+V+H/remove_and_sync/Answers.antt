use Rattle.std.proofs.Common.{refl, ap, ◌∙◌}
use Rattle.scc_common.specs.Contents.{waiting_of}
use Rattle.scc_table.proofs.places.Entries.{back-none, left-there}
use Rattle.scc_owned.proofs.HeldEntries.{same-name, pair-is}
use Rattle.scc_owned.proofs.EntrySteps.{next-past}
use Rattle.scc_owned.proofs.map.borrowed.walk.OccupiedEntry+K+V+H.remove_and_sync.Goals as goal

pub returns-in-Some : goal.returns-in-Some
returns-in-Some g c =
    let next = rw c.in-Some.is at c.take_with_next-pair.ensures.next in (
      (same-name c.at.ensures.guard, λ w. refl, tt),
      record {
        removes = record {
          pair = pair-is c.args.self c.args.self.guard.now c.take_with_next-pair.result.0 refl c.take_with_next-pair.ensures.pair;
          next = next-past c.args.self c.at.result _ _ c.at.ensures.guard c.at.ensures.place refl c.take_with_next-pair.ensures.others c.take_with_next-pair.ensures.noted next.index;
          waiting = ap (λ x. waiting_of x.now) c.at.ensures.guard ∙ c.take_with_next-pair.ensures.waiting;
          unique = rw c.at.ensures.guard c.take_with_next-pair.ensures.unique;
          last = tt;
        };
        kept = tt;
      },
    )

pub returns-in-None : goal.returns-in-None
returns-in-None g c =
    let none = rw c.in-None.is at c.take_with_next-pair.ensures.next in (
      (refl, λ _. tt, (left-there _ _ _ c.take_with_next-pair.ensures.others, c.take_with_next-pair.ensures.noted, c.take_with_next-pair.ensures.unique, c.take_with_next-pair.ensures.waiting)),
      record {
        removes = record {
          pair = tt;
          next = tt;
          waiting = tt;
          unique = tt;
          last = (pair-is c.args.self c.args.self.guard.now c.take_with_next-pair.result.0 refl c.take_with_next-pair.ensures.pair, back-none _ _ none);
        };
        kept = tt;
      },
    )
