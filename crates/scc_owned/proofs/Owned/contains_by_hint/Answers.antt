use Rattle.std.proofs.Common.{sym, ◌∙◌, rules}
use Rattle.scc_common.specs.Contents.{entries}
use Rattle.scc_owned.proofs.Owned.contains_by_hint.Goals as goal

pub returns-in-Some : goal.returns-in-Some
returns-in-Some g c = rw (← c.self.view_is, g.met.E.Stored.lawful.finds (g.E.Key.PartialEq.eq c.args.k.now) (entries c.self.inside.table) ∙ sym c.in-Some.ensures) (search rules)

pub returns-in-None : goal.returns-in-None
returns-in-None g c = rw (← c.self.view_is, g.met.E.Stored.lawful.finds (g.E.Key.PartialEq.eq c.args.k.now) (entries c.self.inside.table) ∙ sym c.in-None.ensures) (search rules)
