use Rattle.scc_table.proofs.places.Mapped.{IsPlace-from_mapped}
use Rattle.scc_owned_set.proofs.Sets.{shrinks-keys, unique-keys}
use Rattle.scc_owned_set.proofs.Places.{get-key, holds-others}
use Rattle.scc_owned_set.proofs.Owned.remove_at.Goals as goal

pub remove_at-requires : goal.remove_at-requires
remove_at-requires g c = IsPlace-from_mapped _ c.self.inside.map c.args.place (rw (← c.self.view_is) at c.requires)

pub returns-clause-key : goal.returns-clause-key
returns-clause-key g c = rw (← c.self.view_is) (get-key c.self.inside.map c.args.place _ c.remove_at.ensures.pair)

pub returns-clause-others : goal.returns-clause-others
returns-clause-others g c = rw (← c.self.view_is) (holds-others c.self.inside.map c.args.place _ c.remove_at.ensures.others)

pub returns-clause-unique : goal.returns-clause-unique
returns-clause-unique g c = unique-keys _ _ c.remove_at.ensures.unique

pub returns-clause-array : goal.returns-clause-array
returns-clause-array g c = rw (← c.self.view_is) (shrinks-keys _ _ (λ t. t) (λ t. t) c.remove_at.ensures.array)
