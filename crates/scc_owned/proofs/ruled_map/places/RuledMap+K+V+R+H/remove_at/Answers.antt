use Rattle.std.proofs.Common.{◌∙◌, ap, sym, rules, Some}
use Rattle.scc_owned.proofs.ruled_map.places.RuledMap+K+V+R+H.remove_at.Goals as goal

pub returns-clause-step : goal.returns-clause-step
returns-clause-step g c =
    let r = c.remove_at.ensures in
    record {
      pair = rw (← c.self.view_is) (r.entry ∙ ap Some (sym c.into_pair.ensures.pair));
      others = rw (← c.self.view_is) r.others;
      array = rw (← c.self.view_is) record {
        smaller = r.smaller;
        due = λ _. r.due;
        noted = (search rules);
        relocates = λ _. record { all = r.all; fewer = r.fewer; less = r.less; waiting = r.waiting };
        waiting = (search rules);
      };
      unique = r.unique;
    }
