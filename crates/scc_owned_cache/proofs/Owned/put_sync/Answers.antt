use Rattle.std.proofs.Common.{refl, rules}
use Rattle.scc_owned_cache.proofs.Owned.put_sync.Goals as goal

pub returns-in-Some-clause-puts : goal.returns-in-Some-clause-puts
returns-in-Some-clause-puts g c =
    record {
      step = (refl, (c.in-Some.ensures.pair, (_, c.in-Some.ensures.there)), refl);
      finds = (search rules);
      succeeds = (search rules);
      state = (search rules);
      relocates = (search rules);
      once = λ _. refl;
      unmarked = (search rules);
    }
