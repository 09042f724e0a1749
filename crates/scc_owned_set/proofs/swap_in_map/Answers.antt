use Rattle.std.proofs.Common.{Some, sym, ap, ◌∙◌}
use Rattle.scc_common.specs.Contents.{notes_of, waiting_of}
use Rattle.scc_common.specs.Pairs.{with_pair_key}
use Rattle.scc_owned.proofs.Found.{found-equal, found-here, found-swapped, swapped-unique}
use Rattle.scc_table.proofs.places.Entries.{noted-write}
use Rattle.scc_table.proofs.relocations.AfterWrites.{waiting-write}
use Rattle.scc_owned_set.proofs.swap_in_map.Goals as goal

pub replace_key_at-requires-clause-within : goal.replace_key_at-requires-clause-within
replace_key_at-requires-clause-within g c = c.in-Some.ensures.place.within

pub replace_key_at-requires-clause-same : goal.replace_key_at-requires-clause-same
replace_key_at-requires-clause-same g c = λ p got. found-equal g.K.PartialEq.eq _ _ _ c.in-Some.ensures.place p got

pub returns-in-Some-clause-swapped : goal.returns-in-Some-clause-swapped
returns-in-Some-clause-swapped g c =
    let at = c.in-Some.ensures in
    let old = c.replace_key_at.ensures.old in (
      found-here g.K.PartialEq.eq c.args.map.now c.args.k c.in-Some.place at.place old.0 old.1 ∙ ap (λ x. Some (x, tt)) (sym old.2),
      rw c.replace_key_at.ensures.new (found-swapped g.K.PartialEq.eq _ _ _ at.place g.met.K.Eq.laws at.unique),
    )

pub returns-in-Some-clause-unique : goal.returns-in-Some-clause-unique
returns-in-Some-clause-unique g c = let at = c.in-Some.ensures in rw c.replace_key_at.ensures.new (swapped-unique g.K.PartialEq.eq _ _ _ at.place g.met.K.Eq.laws at.unique)

pub returns-in-Some-clause-noted : goal.returns-in-Some-clause-noted
returns-in-Some-clause-noted g c = ap notes_of c.replace_key_at.ensures.new ∙ noted-write with_pair_key c.args.map.now c.in-Some.place c.args.k

pub returns-in-Some-clause-waiting : goal.returns-in-Some-clause-waiting
returns-in-Some-clause-waiting g c = ap waiting_of c.replace_key_at.ensures.new ∙ waiting-write with_pair_key c.args.map.now c.in-Some.place c.args.k
