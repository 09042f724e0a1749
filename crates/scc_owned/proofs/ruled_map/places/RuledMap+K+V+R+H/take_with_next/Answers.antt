use Rattle.std.proofs.Common.{◌∙◌, ap, sym, Some}
use Rattle.scc_owned.proofs.ruled_map.places.RuledMap+K+V+R+H.take_with_next.Goals as goal

pub returns-clause-step : goal.returns-clause-step
returns-clause-step g c =
    let t = c.take_entry-entry.ensures in
    record {
      pair = t.pair ∙ ap Some (sym c.into_pair.ensures.pair);
      others = t.others;
      noted = t.noted;
      waiting = t.waiting;
      next = t.next;
      unique = t.unique;
    }
