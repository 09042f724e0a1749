use Rattle.scc_owned_set.proofs.Sets.{is-found, found-is}
use Rattle.scc_owned_set.proofs.Owned.contains_sync.Goals as goal

pub returns : goal.returns
returns g c = rw (← c.self.view_is) (λ h. is-found g.K.PartialEq.eq c.self.inside.map c.args.k.now (c.contains_sync.ensures.0 h), λ h. c.contains_sync.ensures.1 (found-is g.K.PartialEq.eq c.self.inside.map c.args.k.now h))
