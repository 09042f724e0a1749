use Rattle.std.proofs.Common.{◌<◌, length, subst}
use Rattle.scc_table.proofs.arrays.OneBucket.{routed-own, within-own}
use Rattle.scc_table.proofs.insertions.FreeBucket.{free-bounded, free-fields, free-hashed, free-list, free-moved}
use Rattle.scc_table.proofs.Table.touch.Goals as goal

pub touch-requires-clause-within : goal.touch-requires-clause-within
touch-requires-clause-within g c = within-own c.self.invariant c.self.view_is c.requires.within

pub touch-requires-clause-slot : goal.touch-requires-clause-slot
touch-requires-clause-slot g c = subst (λ z. c.args.slot < length z) (free-list g.H.Hashes.hash_of c.self.invariant c.self.view_is _ c.requires.not_waiting) c.requires.slot

pub touch-requires-clause-routed : goal.touch-requires-clause-routed
touch-requires-clause-routed g c = routed-own c.self.invariant _ c.self.view_is c.requires.routed

pub touch-requires-clause-bounded : goal.touch-requires-clause-bounded
touch-requires-clause-bounded g c = free-bounded g.H.Hashes.hash_of c.self.invariant c.self.view_is _ c.requires.not_waiting c.requires.bounded

pub touch-requires-clause-hashed : goal.touch-requires-clause-hashed
touch-requires-clause-hashed g c = free-hashed g.H.Hashes.hash_of c.self.invariant c.self.view_is _ c.requires.not_waiting _ _ c.requires.hashed

pub invariant_of-self : goal.invariant_of-self
invariant_of-self g c = free-fields g.H.Hashes.hash_of c.self.invariant c.self.view_is _ c.requires.not_waiting c.requires.bounded c.touch.ensures.list.2 (free-moved g.H.Hashes.hash_of c.self.invariant c.self.view_is _ c.requires.not_waiting c.requires.bounded g.met.E.Key.Eq.laws c.requires.within c.touch.ensures.list c.touch.ensures.listed).unique

pub returns : goal.returns
returns g c = free-moved g.H.Hashes.hash_of c.self.invariant c.self.view_is _ c.requires.not_waiting c.requires.bounded g.met.E.Key.Eq.laws c.requires.within c.touch.ensures.list c.touch.ensures.listed
