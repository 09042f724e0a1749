use Rattle.scc_owned.proofs.IndexEntries.{version-apart}
use Rattle.scc_owned.proofs.ruled_index.places.RuledIndex+K+V+R+H.replace_at.Goals as goal

pub replace_at-old-requires-clause-within : goal.replace_at-old-requires-clause-within
replace_at-old-requires-clause-within g c = rw (← c.self.view_is) at c.requires.within

pub returns-clause-new : goal.returns-clause-new
returns-clause-new g c = rw (← c.self.view_is) (rw c.of.ensures at c.replace_at-old.ensures.new)

pub returns-clause-unique : goal.returns-clause-unique
returns-clause-unique g c =
    let within = rw (← c.self.view_is) at c.requires.within in
    let same = rw (← c.self.view_is) at c.requires.same in
    let old = c.replace_at-old.ensures.old in
    rw (c.replace_at-old.ensures.new, c.of.ensures) (version-apart g.met.K.Eq.laws c.self.inside.table c.args.place within c.replace_at-old.result c.args.version old (same c.replace_at-old.result old) c.replace_at-old.ensures.unique)
