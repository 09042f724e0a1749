use Rattle.std.proofs.Common.{rules}
use Rattle.scc_owned.proofs.map.places.Map+K+V+H.remove_at.Goals as goal

pub returns : goal.returns
returns g c =
    record {
      pair = (search rules);
      others = rw (← c.self.view_is) c.remove_at.ensures.others;
      array = rw (← c.self.view_is) record {
        smaller = c.remove_at.ensures.smaller;
        due = λ _. c.remove_at.ensures.due;
        noted = (search rules);
        relocates = λ _. record { all = c.remove_at.ensures.all; fewer = c.remove_at.ensures.fewer; less = c.remove_at.ensures.less; waiting = c.remove_at.ensures.waiting };
        waiting = (search rules);
      };
      unique = (search rules);
    }
