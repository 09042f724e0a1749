use Rattle.std.proofs.Common.{refl, sym}
use Rattle.scc_table.proofs.places.Entries.{back-none, left-there, past-there, entry_of-is}
use Rattle.scc_owned_set.proofs.entry.OccupiedEntry.remove_and_sync.Goals as goal

pub returns-in-Some : goal.returns-in-Some
returns-in-Some g c =
    let next = rw c.in-Some.is at c.take_with_next-key.ensures.next in (
      (refl, λ w. refl, tt),
      record {
        removes = record {
          key = sym (entry_of-is _ _ c.args.self.within _ c.take_with_next-key.ensures.key);
          next = record { same_set = refl; at = past-there _ _ _ _ _ c.take_with_next-key.ensures.others c.take_with_next-key.ensures.noted next.index };
          waiting = c.take_with_next-key.ensures.waiting;
          unique = c.take_with_next-key.ensures.unique;
          last = tt;
        };
        kept = tt;
      },
    )

pub returns-in-None : goal.returns-in-None
returns-in-None g c =
    let none = rw c.in-None.is at c.take_with_next-key.ensures.next in (
      (refl, λ _. tt, (left-there _ _ _ c.take_with_next-key.ensures.others, c.take_with_next-key.ensures.noted, c.take_with_next-key.ensures.unique, c.take_with_next-key.ensures.waiting)),
      record {
        removes = record {
          key = tt;
          next = tt;
          waiting = tt;
          unique = tt;
          last = (sym (entry_of-is _ _ c.args.self.within _ c.take_with_next-key.ensures.key), back-none _ _ none);
        };
        kept = tt;
      },
    )
