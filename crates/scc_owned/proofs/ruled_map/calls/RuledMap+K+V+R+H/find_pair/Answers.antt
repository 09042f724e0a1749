use Rattle.std.proofs.Common.{sym, ◌∙◌}
use Rattle.scc_common.specs.Contents.{entries}
use Rattle.scc_buckets.proofs.Finds.{lookup-find}
use Rattle.scc_owned.proofs.ruled_map.calls.RuledMap+K+V+R+H.find_pair.Goals as goal

pub returns-in-Some : goal.returns-in-Some
returns-in-Some g c = rw (← c.self.view_is, c.parts.ensures.key, c.parts.ensures.value) (lookup-find (g.K.PartialEq.eq c.args.k.now) (entries c.self.inside.table) ∙ sym c.in-Some.ensures)

pub returns-in-None : goal.returns-in-None
returns-in-None g c = rw (← c.self.view_is) (lookup-find (g.K.PartialEq.eq c.args.k.now) (entries c.self.inside.table) ∙ sym c.in-None.ensures)
