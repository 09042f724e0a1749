use Rattle.scc_owned_cache.proofs.Entries.{put-after}
use Rattle.scc_owned_cache.proofs.locked.methods.VacantEntry+K+V+H+R.put_entry.Goals as goal

pub returns-in-Ok-clause-put : goal.returns-in-Ok-clause-put
returns-in-Ok-clause-put g c = put-after g.K.PartialEq.eq c.args.self c.deref_mut.result.now c.put_new.new.self c.args.value c.in-Ok.evicted c.at.result _ c.at.ensures.guard c.at.ensures.place c.at.ensures.rest c.deref_mut.ensures.value c.in-Ok.ensures.step c.in-Ok.ensures.relocates c.put_new.ensures.once c.in-Ok.ensures.here.1
