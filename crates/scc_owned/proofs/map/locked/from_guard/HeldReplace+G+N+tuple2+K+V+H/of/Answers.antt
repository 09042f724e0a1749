use Rattle.std.proofs.Common.{◌∙◌, sym, ap, subst, Some}
use Rattle.scc_common.specs.Contents.{entries, notes_of, waiting_of}
use Rattle.std.specs.List.{slice_get}
use Rattle.scc_common.specs.Pairs.{with_pair_key}
use Rattle.scc_table.specs.Places.{IsPlace, index_of, with_write_at}
use Rattle.scc_table.specs.Placed.{IsPlace-with_write_at}
use Rattle.scc_table.proofs.places.Entries.{key-got, noted-write}
use Rattle.scc_table.proofs.relocations.AfterWrites.{waiting-write}
use Rattle.scc_buckets.proofs.Lookups.{find-position_none}
use Rattle.scc_owned.proofs.Found.{found-equal, found-here, found-swapped, swapped-unique}
use Rattle.scc_owned.proofs.HeldEntries.{pair-at}
use Rattle.scc_owned.proofs.map.locked.from_guard.HeldReplace+G+N+tuple2+K+V+H.of.Goals as goal

pub replace_key_at-old-requires-clause-within : goal.replace_key_at-old-requires-clause-within
replace_key_at-old-requires-clause-within g c = let found = rw c.look.ensures at c.in-Ok.ensures.found in rw c.lend.ensures.value found.within

pub replace_key_at-old-requires-clause-same : goal.replace_key_at-old-requires-clause-same
replace_key_at-old-requires-clause-same g c =
    let found = rw c.look.ensures at c.in-Ok.ensures.found in
    rw c.lend.ensures.value (λ p got. found-equal g.K.PartialEq.eq _ _ _ found p got)

pub at-requires-clause-within : goal.at-requires-clause-within
at-requires-clause-within g c =
    let found = rw c.look.ensures at c.in-Ok.ensures.found in
    subst (λ m. IsPlace m c.in-Ok.place) (sym (g.G.Guard.inner_law c.args.guard c.replace_key_at-old.new.self ∙ c.replace_key_at-old.ensures.new ∙ ap (λ m. with_write_at with_pair_key m c.in-Ok.place c.args.k) c.lend.ensures.value)) (IsPlace-with_write_at with_pair_key (g.G.Guard.inner c.args.guard) c.in-Ok.place c.args.k found.within)

pub at-requires-clause-unique : goal.at-requires-clause-unique
at-requires-clause-unique g c =
    let found = rw c.look.ensures at c.in-Ok.ensures.found in
    let unique = rw c.look.ensures at c.search_by_hint.ensures.unique in
    let is = g.G.Guard.inner_law c.args.guard c.replace_key_at-old.new.self ∙ c.replace_key_at-old.ensures.new ∙ ap (λ m. with_write_at with_pair_key m c.in-Ok.place c.args.k) c.lend.ensures.value in
    rw is (swapped-unique g.K.PartialEq.eq _ _ _ found g.met.K.Eq.laws unique)

pub returns-in-Ok-clause-step : goal.returns-in-Ok-clause-step
returns-in-Ok-clause-step g c =
    let m = g.G.Guard.inner c.args.guard in
    let found = rw c.look.ensures at c.in-Ok.ensures.found in
    let unique = rw c.look.ensures at c.search_by_hint.ensures.unique in
    let is = g.G.Guard.inner_law c.args.guard c.replace_key_at-old.new.self ∙ c.replace_key_at-old.ensures.new ∙ ap (λ m. with_write_at with_pair_key m c.in-Ok.place c.args.k) c.lend.ensures.value in
    let old = rw c.lend.ensures.value at c.replace_key_at-old.ensures.old in (
      old.0.1,
      found-here g.K.PartialEq.eq m c.args.k c.in-Ok.place found old.0 old.1 ∙ ap (λ x. Some (x, old.0.1)) (sym old.2),
      (
        pair-at c.at.result _ _ c.at.ensures.guard c.at.ensures.place (c.args.k, old.0.1) (ap (λ n. slice_get (entries n) (index_of n c.in-Ok.place)) is ∙ key-got m c.in-Ok.place found.within c.args.k old.0 old.1),
        rw (ap g.G.Guard.inner c.at.ensures.guard ∙ is) (found-swapped g.K.PartialEq.eq _ _ _ found g.met.K.Eq.laws unique),
      ),
    )

pub returns-in-Ok-clause-unique : goal.returns-in-Ok-clause-unique
returns-in-Ok-clause-unique g c = c.at.result.unique

pub returns-in-Ok-clause-noted : goal.returns-in-Ok-clause-noted
returns-in-Ok-clause-noted g c =
    let made = ap g.G.Guard.inner c.at.ensures.guard ∙ g.G.Guard.inner_law c.args.guard c.replace_key_at-old.new.self ∙ c.replace_key_at-old.ensures.new ∙ ap (λ m. with_write_at with_pair_key m c.in-Ok.place c.args.k) c.lend.ensures.value in
    ap notes_of made ∙ noted-write with_pair_key (g.G.Guard.inner c.args.guard) c.in-Ok.place c.args.k

pub returns-in-Ok-clause-waiting : goal.returns-in-Ok-clause-waiting
returns-in-Ok-clause-waiting g c =
    let made = ap g.G.Guard.inner c.at.ensures.guard ∙ g.G.Guard.inner_law c.args.guard c.replace_key_at-old.new.self ∙ c.replace_key_at-old.ensures.new ∙ ap (λ m. with_write_at with_pair_key m c.in-Ok.place c.args.k) c.lend.ensures.value in
    ap waiting_of made ∙ waiting-write with_pair_key (g.G.Guard.inner c.args.guard) c.in-Ok.place c.args.k

pub returns-in-Err-clause-step : goal.returns-in-Err-clause-step
returns-in-Err-clause-step g c = record {
  contents = ap g.G.Guard.inner c.of_key.ensures.guard;
  found = find-position_none (g.K.PartialEq.eq c.args.k) (entries (g.G.Guard.inner c.args.guard)) (rw c.look.ensures at c.in-Err.ensures.missed.1);
  key = c.of_key.ensures.key;
}
