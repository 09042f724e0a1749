use Rattle.std.proofs.Common.{ap, ◌∙◌}
use Rattle.scc_owned_set.proofs.Sets.{hash-same, waiting-keys, noted-keys, swapped-keys, missing-keys, unique-keys}
use Rattle.scc_owned_set.proofs.Owned.swap_key.Goals as goal

pub returns-clause-swapped : goal.returns-clause-swapped
returns-clause-swapped g c = rw (← c.self.view_is) (swapped-keys g.met.K.Eq.laws c.self.inside.map c.args.k c.swap_in_map.new.map c.swap_in_map.result c.swap_in_map.ensures.swapped)

pub returns-clause-missing : goal.returns-clause-missing
returns-clause-missing g c = rw (← c.self.view_is) (missing-keys g.met.K.Eq.laws c.self.inside.map c.args.k c.swap_in_map.new.map c.swap_in_map.result c.swap_in_map.ensures.missing)

pub returns-clause-unique : goal.returns-clause-unique
returns-clause-unique g c = unique-keys _ _ c.swap_in_map.ensures.unique

pub returns-clause-noted : goal.returns-clause-noted
returns-clause-noted g c = rw (← c.self.view_is) (noted-keys _ _ c.swap_in_map.ensures.noted)

pub returns-clause-waiting : goal.returns-clause-waiting
returns-clause-waiting g c = rw (← c.self.view_is) (waiting-keys _ _ c.swap_in_map.ensures.waiting)

pub swap_in_map-requires : goal.swap_in_map-requires
swap_in_map-requires g c = (rw (← c.self.view_is) at c.requires) ∙ ap (λ h. h c.args.k) (hash-same g.H.BuildHasher g.H.Hasher.Hasher g.K.Hash.hash_input c.self.inside.map)
