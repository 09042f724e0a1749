use Rattle.std.proofs.Common.{rules}
use Rattle.scc_owned.proofs.map.places.Map+K+V+H.take_with_next.Goals as goal

pub returns : goal.returns
returns g c =
    record {
      pair = (search rules);
      others = (search rules);
      noted = (search rules);
      waiting = (search rules);
      next = (search rules);
      unique = (search rules);
    }
