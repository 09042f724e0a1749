use Rattle.std.proofs.Common.{rules}
use Rattle.scc_owned.proofs.ruled_index.places.RuledIndex+K+V+R+H.remove_at.Goals as goal

pub returns-clause-others : goal.returns-clause-others
returns-clause-others g c = rw (← c.self.view_is) c.remove_at-version.ensures.others

pub returns-clause-array : goal.returns-clause-array
returns-clause-array g c =
    let out = c.remove_at-version.ensures in
    record {
      smaller = rw (← c.self.view_is) out.smaller;
      due = rw (← c.self.view_is) (λ _. out.due);
      noted = (search rules);
      relocates = rw (← c.self.view_is) (λ _. record { all = out.all; fewer = out.fewer; less = out.less; waiting = out.waiting });
      waiting = (search rules);
    }
