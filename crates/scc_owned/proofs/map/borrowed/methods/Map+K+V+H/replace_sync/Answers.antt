use Rattle.std.proofs.Common.{◌∙◌, sym, ap, Some}
use Rattle.scc_common.specs.Contents.{entries, notes_of, waiting_of}
use Rattle.std.specs.List.{slice_get}
use Rattle.scc_table.specs.Places.{index_of}
use Rattle.scc_table.specs.Placed.{IsPlace-with_write_at}
use Rattle.scc_common.specs.Pairs.{with_pair_key}
use Rattle.scc_owned.proofs.Found.{found-equal, found-here, found-swapped, swapped-unique}
use Rattle.scc_owned.proofs.HeldEntries.{pair-at}
use Rattle.scc_buckets.proofs.Lookups.{find-position_none}
use Rattle.scc_table.proofs.places.Entries.{key-got, noted-write}
use Rattle.scc_table.proofs.relocations.AfterWrites.{waiting-write}
use Rattle.scc_owned.proofs.map.borrowed.methods.Map+K+V+H.replace_sync.Goals as goal

pub replace_key_at-old-requires-clause-same : goal.replace_key_at-old-requires-clause-same
replace_key_at-old-requires-clause-same g c = let found = rw c.self.view_is at c.in-Some.ensures.place in λ p got. found-equal g.K.PartialEq.eq _ _ _ found p got

pub at-requires-clause-within : goal.at-requires-clause-within
at-requires-clause-within g c =
    let found = rw c.self.view_is at c.in-Some.ensures.place in
    rw c.replace_key_at-old.ensures.new (IsPlace-with_write_at with_pair_key c.args.self.now c.in-Some.place c.args.k found.within)

pub at-requires-clause-unique : goal.at-requires-clause-unique
at-requires-clause-unique g c =
    let at = rw c.self.view_is at c.in-Some.ensures in
    rw c.replace_key_at-old.ensures.new (swapped-unique g.K.PartialEq.eq _ _ _ at.place g.met.K.Eq.laws at.unique)

pub of_key-requires : goal.of_key-requires
of_key-requires g c = rw (← c.self.view_is) record { absent = c.in-None.ensures.place; hashed = c.hash-hash.ensures; unique = c.search.ensures.unique }

pub returns-in-Some-clause-step : goal.returns-in-Some-clause-step
returns-in-Some-clause-step g c =
    let m = c.args.self.now in
    let at = rw c.self.view_is at c.in-Some.ensures in
    let old = c.replace_key_at-old.ensures.old in (
      old.0.1,
      found-here g.K.PartialEq.eq m c.args.k c.in-Some.place at.place old.0 old.1 ∙ ap (λ x. Some (x, old.0.1)) (sym old.2),
      (
        pair-at c.at.result _ _ c.at.ensures.guard c.at.ensures.place (c.args.k, old.0.1) (ap (λ n. slice_get (entries n) (index_of n c.in-Some.place)) c.replace_key_at-old.ensures.new ∙ key-got m c.in-Some.place at.place.within c.args.k old.0 old.1),
        rw (ap (λ x. x.now) c.at.ensures.guard ∙ c.replace_key_at-old.ensures.new) (found-swapped g.K.PartialEq.eq _ _ _ at.place g.met.K.Eq.laws at.unique),
      ),
    )

pub returns-in-Some-clause-unique : goal.returns-in-Some-clause-unique
returns-in-Some-clause-unique g c = c.at.result.unique

pub returns-in-Some-clause-noted : goal.returns-in-Some-clause-noted
returns-in-Some-clause-noted g c = ap (λ x. notes_of x.now) c.at.ensures.guard ∙ ap notes_of c.replace_key_at-old.ensures.new ∙ noted-write with_pair_key c.args.self.now c.in-Some.place c.args.k

pub replace_key_at-old-requires-clause-within : goal.replace_key_at-old-requires-clause-within
replace_key_at-old-requires-clause-within g c = let found = rw c.self.view_is at c.in-Some.ensures.place in found.within

pub returns-in-Some-clause-waiting : goal.returns-in-Some-clause-waiting
returns-in-Some-clause-waiting g c = ap (λ x. waiting_of x.now) c.at.ensures.guard ∙ ap waiting_of c.replace_key_at-old.ensures.new ∙ waiting-write with_pair_key c.args.self.now c.in-Some.place c.args.k

pub returns-in-None-clause-step : goal.returns-in-None-clause-step
returns-in-None-clause-step g c = record {
  contents = ap (λ m. m.now) c.of_key.ensures.guard;
  found = find-position_none (g.K.PartialEq.eq c.args.k) (entries c.args.self.now) (rw c.self.view_is at c.in-None.ensures.place);
  key = c.of_key.ensures.key;
}
