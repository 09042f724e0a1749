use Rattle.scc_owned_set.proofs.Sets.{on-key, Removes-keys, finds-keys, shrinks-found, unique-keys}
use Rattle.scc_owned_set.proofs.Owned.remove_sync.Goals as goal

pub returns-clause-step : goal.returns-clause-step
returns-clause-step g c = rw (← c.self.view_is, c.key_alone.ensures) (Removes-keys g.K.PartialEq.eq c.self.inside.map c.args.k.now c.remove_sync.result c.remove_sync.new.self c.remove_sync.ensures.step)

pub returns-clause-finds : goal.returns-clause-finds
returns-clause-finds g c = rw (← c.self.view_is, c.key_alone.ensures) (on-key c.remove_sync.result (finds-keys _ _ _ _ _) c.remove_sync.ensures.finds)

pub returns-clause-unique : goal.returns-clause-unique
returns-clause-unique g c = unique-keys _ _ c.remove_sync.ensures.unique

pub returns-clause-array : goal.returns-clause-array
returns-clause-array g c = rw (← c.self.view_is, c.key_alone.ensures) (shrinks-found _ _ c.remove_sync.result c.remove_sync.ensures.array)
