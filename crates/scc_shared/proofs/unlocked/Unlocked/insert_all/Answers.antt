use Rattle.std.proofs.Common.{refl, rules, suc}
use Rattle.scc_table.specs.Places.{IsPlace, index_of}
use Rattle.scc_table.proofs.walks.Reach.{nearer, reached-at, reached-first}
use Rattle.scc_shared.proofs.Copying.{folds-more, folds-none}
use Rattle.scc_shared.proofs.unlocked.Unlocked.insert_all.Goals as goal

pub loop-at-init : goal.loop-at-init
loop-at-init g c =
    let start = reached-first c.args.from.now c.first_place-at.result c.first_place-at.ensures.place in
    record { within = start.1; hasher = refl; count = refl; made = folds-none _ _ _ _ start.0 }

pub loop-at-smaller : goal.loop-at-smaller
loop-at-smaller g c =
    let within : IsPlace c.args.from.now c.in-Some.place = rw c.in-Some.is at c.loop-at.invariant.within in
    let next = reached-at c.args.from.now (suc (index_of c.args.from.now c.in-Some.place)) c.next_place-at.result c.next_place-at.ensures.place in
    rw c.in-Some.is (nearer c.args.from.now c.in-Some.place c.next_place-at.result within next.0)

pub loop-at-preserved : goal.loop-at-preserved
loop-at-preserved g c =
    let next = reached-at c.args.from.now (suc (index_of c.args.from.now c.in-Some.place)) c.next_place-at.result c.next_place-at.ensures.place in
    let made = c.insert_clones.ensures.made c.if-not-insert_clones.false in
    let routed = rw (c.loop-at.invariant.hasher, c.loop-at.invariant.count) at made.4 in
    record {
      within = next.1;
      hasher = search rules;
      count = search rules;
      made = folds-more _ _ (index_of c.args.from.now c.in-Some.place) _ _ _ _ _ c.pair_at.ensures.pair next.0 (rw c.in-Some.is at c.loop-at.invariant.made) (_, _, made.0, made.1, refl, made.2, made.3, routed);
    }
