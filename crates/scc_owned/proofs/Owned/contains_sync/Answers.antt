use Rattle.std.proofs.Common.{rules}
use Rattle.scc_common.specs.Contents.{entries}
use Rattle.scc_owned.proofs.Owned.contains_sync.Goals as goal

pub returns-in-Some : goal.returns-in-Some
returns-in-Some g c =
    let f = g.met.E.Stored.lawful.first (g.E.Key.PartialEq.eq c.args.k.now) (entries c.self.inside.table) _ c.in-Some.ensures.place.found in
    rw (← c.self.view_is, f.1.found) (search rules)

pub returns-in-None : goal.returns-in-None
returns-in-None g c = rw (← c.self.view_is, g.met.E.Stored.lawful.missing (g.E.Key.PartialEq.eq c.args.k.now) (entries c.self.inside.table) c.in-None.ensures.place) (search rules)
