use Rattle.scc_owned.specs.MapEntries.{value_apart}
use Rattle.scc_table.specs.Places.{IsPlace}
use Rattle.scc_owned.proofs.ruled_map.places.RuledMap+K+V+R+H.modify_at.Goals as goal

pub write_at-requires-clause-keeps : goal.write_at-requires-clause-keeps
write_at-requires-clause-keeps g c = λ e r w got allowed gave. c.requires.keeps e r w (rw c.self.view_is at got) allowed gave

pub returns-clause-step : goal.returns-clause-step
returns-clause-step g c = let x = c.write_at.ensures.step in rw (← c.self.view_is) (x.0, x.1, x.2, x.5, x.3, x.4)

pub returns-clause-unique : goal.returns-clause-unique
returns-clause-unique g c =
    let x = c.write_at.ensures.step in
    let within : IsPlace c.self.inside.table c.args.place = rw (← c.self.view_is) at c.requires.within in
    rw x.4 (value_apart g.K.PartialEq.eq c.self.inside.table c.args.place within c.write_at.ensures.unique x.1)
