use Rattle.std.proofs.Common.{rules}
use Rattle.std.specs.List.{IsDistinct}
use Rattle.scc_buckets.proofs.Buckets.insert_made_first.Goals as goal

pub returns-in-Err : goal.returns-in-Err
unfolding IsDistinct
returns-in-Err g c =
    record {
      ok = (search rules);
      err = (search rules);
      growth = (search rules);
      first = (search rules);
      noted = (search rules);
      few = (search rules);
      unique = (rw c.install_first.ensures.still tt);
    }
