use Rattle.std.proofs.Common.{refl, rules}
use Rattle.scc_calls.proofs.MapCopied.{leads-cleared}
use Rattle.scc_calls.proofs.map_copied.clear.Goals as goal

pub returns : goal.returns
returns g c =
    record {
      setting = (search rules);
      ok = (leads-cleared g.K.PartialEq.eq g.V.Clone.is_clone c.args.map.now c.clear_sync.new.self c.clear_sync.ensures.holds);
      copies = (search rules);
      err = (search rules);
      refused = (search rules);
    }
