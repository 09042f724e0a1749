use Rattle.scc_owned_cache.proofs.Entries.{map-ok, map-err, evicted-at}
use Rattle.scc_owned_cache.proofs.locked.insertions.Entry+K+V+H+R.or_default.Goals as goal

pub returns-in-Vacant-clause-entry : goal.returns-in-Vacant-clause-entry
returns-in-Vacant-clause-entry g c = rw c.in-Vacant.is (map-ok _ _ c.put_entry.result (λ o i. (c.made_with-value.result, c.made_with-value.ensures, i)) c.put_entry.ensures.put)

pub returns-in-Vacant-clause-refused : goal.returns-in-Vacant-clause-refused
returns-in-Vacant-clause-refused g c = rw c.in-Vacant.is (map-err _ _ c.put_entry.result (λ e i. (i.0, (c.made_with-value.result, c.made_with-value.ensures, i.1))) c.put_entry.ensures.refused)

pub put_entry-requires : goal.put_entry-requires
put_entry-requires g c = (rw c.in-Vacant.is at c.requires) tt c.made_with-value.result c.made_with-value.ensures

pub returns-in-Vacant-clause-evicted : goal.returns-in-Vacant-clause-evicted
returns-in-Vacant-clause-evicted g c = evicted-at g.K.PartialEq.eq g.R.Rule.holds c.args.self c.in-Vacant.entry c.in-Vacant.is c.put_entry.result c.put_entry.ensures.evicted
