use Rattle.scc_owned_set.proofs.Sets.{copied-key, refused-key}
use Rattle.scc_owned_set.proofs.Owned.cloned_key.Goals as goal

pub returns-clause-ok : goal.returns-clause-ok
returns-clause-ok g c = rw (← c.self.view_is) (copied-key g.K.PartialEq.eq g.K.Clone.is_clone c.self.inside.map c.args.k.now c.cloned_key.result c.cloned_key.ensures.ok)

pub returns-clause-err : goal.returns-clause-err
returns-clause-err g c = rw (← c.self.view_is) (refused-key g.K.PartialEq.eq g.K.Clone.is_infallible c.self.inside.map c.args.k.now c.cloned_key.result c.cloned_key.ensures.err)
