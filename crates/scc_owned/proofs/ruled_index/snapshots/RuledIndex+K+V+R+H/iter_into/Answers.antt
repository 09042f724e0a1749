use Rattle.std.proofs.Common.{◌∙◌, ◌++◌, suc, length, map, ap, sym, refl, append-nil, append_assoc}
use Rattle.std.specs.Arc.{arc_value}
use Rattle.std.proofs.lemmas.List.{map-append}
use Rattle.scc_common.specs.Contents.{entries}
use Rattle.scc_table.specs.Places.{index_of}
use Rattle.scc_buckets.proofs.Placed.{take-more}
use Rattle.scc_table.proofs.walks.Steps.{take-all}
use Rattle.scc_table.proofs.walks.Reach.{nearer, reached-at, reached-first}
use Rattle.scc_owned.proofs.RuledPairs.{keep-taken}
use Rattle.scc_owned.proofs.ruled_index.snapshots.RuledIndex+K+V+R+H.iter_into.Goals as goal

pub loop-at-init : goal.loop-at-init
loop-at-init g c =
    let start = reached-first c.args.self.now c.first_place-at.result c.first_place-at.ensures.place in
    record { within = start.1; listed = rw start.0 (sym (append-nil _)); kept = rw start.0 tt }

pub loop-at-smaller : goal.loop-at-smaller
loop-at-smaller g c =
    let m = c.args.self.now in
    let within = rw c.in-Some.is at c.loop-at.invariant.within in
    let next = reached-at m (suc (index_of m c.in-Some.place)) c.next_place-at.result c.next_place-at.ensures.place in
    rw c.in-Some.is (nearer m c.in-Some.place c.next_place-at.result within next.0)

pub loop-at-preserved : goal.loop-at-preserved
loop-at-preserved g c =
    let m = c.args.self.now in
    let got = rw c.self.view_is at c.entry_at.ensures.entry in
    let next = reached-at m (suc (index_of m c.in-Some.place)) c.next_place-at.result c.next_place-at.ensures.place in
    let listed = rw c.in-Some.is at c.loop-at.invariant.listed in
    record {
      within = next.1;
      listed = rw (next.0, take-more (entries m) (index_of m c.in-Some.place) _ got, c.in-Ok-push.ensures.items, map-append, listed, c.in-Ok.ensures.same) (append_assoc (map arc_value c.args.versions.now.items) _ _);
      kept = rw next.0 (keep-taken g.R.Rule.holds (entries m) (index_of m c.in-Some.place) _ got (rw c.in-Some.is at c.loop-at.invariant.kept) c.clone_owner.ensures.kept);
    }

pub returns-clause-all : goal.returns-clause-all
returns-clause-all g c =
    let listed = rw c.in_default.is at c.loop-at.invariant.listed in
    listed ∙ ap (λ z. map arc_value c.args.versions.now.items ++ z) (take-all (entries c.args.self.now) (length (entries c.args.self.now)) refl)

pub returns-clause-kept : goal.returns-clause-kept
returns-clause-kept g c =
    let kept = rw c.in_default.is at c.loop-at.invariant.kept in
    rw (take-all (entries c.args.self.now) (length (entries c.args.self.now)) refl) at kept

pub entry_at-requires : goal.entry_at-requires
entry_at-requires g c = rw c.self.view_is (rw c.in-Some.is at c.loop-at.invariant.within)
