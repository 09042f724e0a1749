use Rattle.std.proofs.Common.{◌≡◌, refl, length, take, suc}
use Rattle.scc_common.specs.Walks.{ended}
use Rattle.scc_common.specs.Contents.{entries}
use Rattle.scc_buckets.proofs.Placed.{drop-here, take-more}
use Rattle.scc_common.proofs.WalkLemmas.{turn-first, turn-others}
use Rattle.scc_table.specs.Places.{IsPlace, index_of}
use Rattle.scc_table.proofs.walks.Reach.{all-taken, nearer, reached-at, reached-first, split-at, walk-more, walk-ends}
use Rattle.scc_table.proofs.walk.pairs.Table+SharedVersion+K+V+H.walk_versions.Goals as goal

pub loop-at-init : goal.loop-at-init
loop-at-init g c =
    let start = reached-first c.args.self.now c.first_place-at.result c.first_place-at.ensures.place in
    record { callable = rw start.0 c.requires; within = start.1; walked = rw start.0 ended }

pub f-requires : goal.f-requires
f-requires g c =
    let m = c.args.self.now in
    let callable = rw c.in-Some.is at c.loop-at.invariant.callable in
    let here = c.version_at-version.ensures in
    turn-first _ _ (rw (drop-here (entries m) (index_of m c.in-Some.place) _ here) at callable) _ _ (let s : (c.key.result.now, c.value.result.now) ≡ c.version_at-version.result.now = rw (c.key.ensures, c.value.ensures) refl in s)

pub returns-then-not-f : goal.returns-then-not-f
returns-then-not-f g c =
    let m = c.args.self.now in
    let walked = rw c.in-Some.is at c.loop-at.invariant.walked in
    let here = c.version_at-version.ensures in
    (c.f.new.self, rw (split-at (entries m) (index_of m c.in-Some.place) _ here) (walk-ends (take (index_of m c.in-Some.place) (entries m)) _ walked record { key = _; value = _; shows = (let s : (c.key.result.now, c.value.result.now) ≡ c.version_at-version.result.now = rw (c.key.ensures, c.value.ensures) refl in s); called = c.if-not-f.ensures }))

pub loop-at-smaller : goal.loop-at-smaller
loop-at-smaller g c =
    let within : IsPlace c.args.self.now c.in-Some.place = rw c.in-Some.is at c.loop-at.invariant.within in
    let next = reached-at c.args.self.now (suc (index_of c.args.self.now c.in-Some.place)) c.next_place-at.result c.next_place-at.ensures.place in
    rw c.in-Some.is (nearer c.args.self.now c.in-Some.place c.next_place-at.result within next.0)

pub loop-at-preserved : goal.loop-at-preserved
loop-at-preserved g c =
    let m = c.args.self.now in
    let walked = rw c.in-Some.is at c.loop-at.invariant.walked in
    let callable = rw c.in-Some.is at c.loop-at.invariant.callable in
    let here = c.version_at-version.ensures in
    let next = reached-at m (suc (index_of m c.in-Some.place)) c.next_place-at.result c.next_place-at.ensures.place in
    record {
      callable = rw next.0 (turn-others _ _ (rw (drop-here (entries m) (index_of m c.in-Some.place) _ here) at callable) record { key = _; value = _; shows = (let s : (c.key.result.now, c.value.result.now) ≡ c.version_at-version.result.now = rw (c.key.ensures, c.value.ensures) refl in s); called = c.if-not-f.ensures });
      within = next.1;
      walked = rw (next.0, take-more (entries m) (index_of m c.in-Some.place) _ here) (walk-more (take (index_of m c.in-Some.place) (entries m)) walked record { key = _; value = _; shows = (let s : (c.key.result.now, c.value.result.now) ≡ c.version_at-version.result.now = rw (c.key.ensures, c.value.ensures) refl in s); called = c.if-not-f.ensures });
    }

pub returns : goal.returns
returns g c =
    let walked = rw c.in_default.is at c.loop-at.invariant.walked in
    (c.loop-at.f, rw (all-taken (entries c.args.self.now) (length (entries c.args.self.now)) refl) at walked)
