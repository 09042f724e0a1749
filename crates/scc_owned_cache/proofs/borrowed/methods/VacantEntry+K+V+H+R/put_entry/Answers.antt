use Rattle.std.proofs.Common.{refl}
use Rattle.scc_owned_cache.proofs.Entries.{same-name, put-after}
use Rattle.scc_owned_cache.proofs.borrowed.methods.VacantEntry+K+V+H+R.put_entry.Goals as goal

pub returns-in-Ok : goal.returns-in-Ok
returns-in-Ok g c = ((same-name c.at.ensures.guard, λ w. refl, tt), record { put = put-after g.K.PartialEq.eq c.args.self c.args.self.guard.now c.put_new.new.self c.args.value c.in-Ok.evicted c.at.result _ c.at.ensures.guard c.at.ensures.place c.at.ensures.rest refl c.in-Ok.ensures.step c.in-Ok.ensures.relocates c.put_new.ensures.once c.in-Ok.ensures.here.1; refused = tt; kept = tt })
