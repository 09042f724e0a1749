use Rattle.scc_table.proofs.places.Mapped.{IsPlace-from_mapped}
use Rattle.scc_owned_set.proofs.Sets.{waiting-keys, noted-keys, unique-keys}
use Rattle.scc_owned_set.proofs.Places.{get-key, exactly-others, follows-taken}
use Rattle.scc_owned_set.proofs.Owned.take_with_next.Goals as goal

pub take_with_next-pair-requires : goal.take_with_next-pair-requires
take_with_next-pair-requires g c = IsPlace-from_mapped _ c.self.inside.map c.args.place (rw (← c.self.view_is) at c.requires)

pub returns-clause-key : goal.returns-clause-key
returns-clause-key g c = rw (← c.self.view_is) (get-key c.self.inside.map c.args.place _ c.take_with_next-pair.ensures.pair)

pub returns-clause-others : goal.returns-clause-others
returns-clause-others g c = rw (← c.self.view_is) (exactly-others c.self.inside.map c.args.place _ c.take_with_next-pair.ensures.others)

pub returns-clause-noted : goal.returns-clause-noted
returns-clause-noted g c = rw (← c.self.view_is) (noted-keys _ _ c.take_with_next-pair.ensures.noted)

pub returns-clause-waiting : goal.returns-clause-waiting
returns-clause-waiting g c = rw (← c.self.view_is) (waiting-keys _ _ c.take_with_next-pair.ensures.waiting)

pub returns-clause-next : goal.returns-clause-next
returns-clause-next g c = rw (← c.self.view_is) (follows-taken c.self.inside.map c.args.place c.take_with_next-pair.new.self c.take_with_next-pair.result.1 c.take_with_next-pair.ensures.next)

pub returns-clause-unique : goal.returns-clause-unique
returns-clause-unique g c = unique-keys _ _ c.take_with_next-pair.ensures.unique
