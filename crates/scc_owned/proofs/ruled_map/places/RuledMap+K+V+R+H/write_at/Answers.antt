use Rattle.std.proofs.Common.{sym, subst}
use Rattle.scc_owned.specs.MapEntries.{value_apart}
use Rattle.scc_table.specs.Places.{IsPlace}
use Rattle.scc_owned.proofs.ruled_map.places.RuledMap+K+V+R+H.write_at.Goals as goal

pub write_at-requires-clause-keeps : goal.write_at-requires-clause-keeps
write_at-requires-clause-keeps g c = λ e r w got allowed gave. subst (λ v. g.R.Rule.holds e.0 v) (sym gave.1) (c.requires.kept e (rw c.self.view_is at got))

pub returns-clause-old : goal.returns-clause-old
returns-clause-old g c = let x = c.write_at.ensures.step in rw (← c.self.view_is) (x.0, x.2, x.3.0, x.5)

pub returns-clause-unique : goal.returns-clause-unique
returns-clause-unique g c =
    let x = c.write_at.ensures.step in
    let within : IsPlace c.self.inside.table c.args.place = rw (← c.self.view_is) at c.requires.within in
    rw x.4 (value_apart g.K.PartialEq.eq c.self.inside.table c.args.place within c.write_at.ensures.unique x.1)
