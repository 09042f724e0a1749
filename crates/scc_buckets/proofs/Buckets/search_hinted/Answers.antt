use Rattle.scc_common.specs.Contents.{hash_in}
use Rattle.std.proofs.Common.{◌≡◌, ◌∙◌, length, sym, rules, refl}
use Rattle.scc_array.specs.Shelf.{HasTag}
use Rattle.scc_array.specs.Shelves.{shelf_of}
use Rattle.scc_buckets.proofs.Arrays.{shelf-at}
use Rattle.scc_buckets.proofs.FindingLemmas.{HashOf, has_tag, missed_at, no-entries}
use Rattle.scc_buckets.proofs.Hinted.{found-hinted}
use Rattle.scc_buckets.proofs.Views.{entries-view, settings-view}
use Rattle.scc_buckets.proofs.Buckets.search_hinted.Goals as goal

pub returns-then-count-eq0-clause-place : goal.returns-then-count-eq0-clause-place
returns-then-count-eq0-clause-place g c = λ _.
    let none : length c.self.inside.buckets ≡ 0 = search rules in
    rw (no-entries c.self.inside.buckets _ c.args.self.now c.self.view_is none) refl

pub returns-then-count-eq0-clause-unique : goal.returns-then-count-eq0-clause-unique
returns-then-count-eq0-clause-unique g c = rw (entries-view c.self.inside.buckets _ c.args.self.now c.self.view_is) c.self.invariant.unique

pub returns-in-Some-clause-place : goal.returns-in-Some-clause-place
returns-in-Some-clause-place g c =
    let bs = c.self.inside.buckets in
    found-hinted g.E.Key.PartialEq.eq g.E.Keyed.key_of g.met.E.Key.Eq.laws c.args.key.now bs _ c.args.self.now c.self.view_is c.bucket-bucket.result c.in-Some.slot (search rules) (rw (entries-view bs _ c.args.self.now c.self.view_is) c.self.invariant.unique) c.in-Some.ensures

pub returns-in-Some-clause-unique : goal.returns-in-Some-clause-unique
returns-in-Some-clause-unique g c = rw (entries-view c.self.inside.buckets _ c.args.self.now c.self.view_is) c.self.invariant.unique

pub returns-in-None-clause-place : goal.returns-in-None-clause-place
returns-in-None-clause-place g c = λ hinted.
    let bs = c.self.inside.buckets in
    let i = c.bucket-bucket.result in
    let p = λ (e : g.row.E.Denot). g.E.Key.PartialEq.eq c.args.key.now (g.E.Keyed.key_of e) in
    let hash = λ (e : g.row.E.Denot). g.H.Hashes.hash_of c.self.inside.router.hasher (g.E.Keyed.key_of e) in
    let hashed = rw (settings-view bs _ c.args.self.now c.self.view_is, hash_in) at hinted in
    let same : HashOf p hash c.args.hint = record { same = λ e w. sym (hashed ∙ g.met.H.Hashes.respects_eq c.self.inside.router.hasher c.args.key.now (g.E.Keyed.key_of e) w) } in
    let tagged : HasTag p c.tag.result (shelf_of bs i) = rw c.tag.ensures (has_tag p hash c.args.hint c.self.inside.router.skipped (length bs) i (shelf_of bs i) same (c.self.invariant.table.own i (shelf_of bs i) (search rules) (shelf-at bs i (search rules)))) in
    missed_at p hash c.args.hint c.self.inside.router.skipped _ _ i bs c.self.invariant.table same (search rules) _ c.args.self.now c.self.view_is (shelf_of bs i) (search rules) (shelf-at bs i (search rules)) (c.in-None.ensures tagged)

pub returns-in-None-clause-unique : goal.returns-in-None-clause-unique
returns-in-None-clause-unique g c = rw (entries-view c.self.inside.buckets _ c.args.self.now c.self.view_is) c.self.invariant.unique
