use Rattle.scc_common.specs.Contents.{hash_in}
use Rattle.std.proofs.Common.{◌≡◌, ◌∙◌, length, sym, ap, rules}
use Rattle.std.specs.List.{find}
use Rattle.scc_array.proofs.Hinted.{passing-flat}
use Rattle.scc_array.specs.Shelf.{shelf_entries, empty_shelf, HasTag}
use Rattle.scc_array.specs.Shelves.{shelf_of}
use Rattle.scc_buckets.proofs.Arrays.{shelf-at}
use Rattle.scc_buckets.proofs.FindingLemmas.{HashOf, has_tag, no-entries}
use Rattle.scc_buckets.proofs.Finds.{find-own}
use Rattle.scc_buckets.proofs.Hinted.{find-passing}
use Rattle.scc_buckets.proofs.Views.{entries-view, settings-view}
use Rattle.scc_buckets.proofs.Buckets.find_hinted.Goals as goal

pub returns-then-count-eq0 : goal.returns-then-count-eq0
returns-then-count-eq0 g c = λ _.
    let p = λ (e : g.row.E.Denot). g.E.Key.PartialEq.eq c.args.key.now (g.E.Keyed.key_of e) in
    let none : length c.self.inside.buckets ≡ 0 = search rules in
    ap (find p) (no-entries c.self.inside.buckets _ c.args.self.now c.self.view_is none)

pub returns-in-Some : goal.returns-in-Some
returns-in-Some g c =
    let bs = c.self.inside.buckets in
    let x = c.in-Some.entry.now in
    let p = λ (e : g.row.E.Denot). g.E.Key.PartialEq.eq c.args.key.now (g.E.Keyed.key_of e) in
    let one = passing-flat p shelf_entries empty_shelf bs c.bucket-bucket.result x c.in-Some.ensures (search rules) in
    ap (find p) (entries-view bs _ c.args.self.now c.self.view_is) ∙ find-passing g.E.Key.PartialEq.eq g.E.Keyed.key_of g.met.E.Key.Eq.laws c.args.key.now _ x c.self.invariant.unique one

pub returns-in-None : goal.returns-in-None
returns-in-None g c = λ hinted.
    let bs = c.self.inside.buckets in
    let i = c.bucket-bucket.result in
    let p = λ (e : g.row.E.Denot). g.E.Key.PartialEq.eq c.args.key.now (g.E.Keyed.key_of e) in
    let hash = λ (e : g.row.E.Denot). g.H.Hashes.hash_of c.self.inside.router.hasher (g.E.Keyed.key_of e) in
    let hashed = rw (settings-view bs _ c.args.self.now c.self.view_is, hash_in) at hinted in
    let same : HashOf p hash c.args.hint = record { same = λ e w. sym (hashed ∙ g.met.H.Hashes.respects_eq c.self.inside.router.hasher c.args.key.now (g.E.Keyed.key_of e) w) } in
    let tagged : HasTag p c.tag.result (shelf_of bs i) = rw c.tag.ensures (has_tag p hash c.args.hint c.self.inside.router.skipped (length bs) i (shelf_of bs i) same (c.self.invariant.table.own i (shelf_of bs i) (search rules) (shelf-at bs i (search rules)))) in
    ap (find p) (entries-view bs _ c.args.self.now c.self.view_is) ∙ find-own p hash c.args.hint same c.self.inside.router.skipped bs (λ j l. c.self.invariant.table.own j (shelf_of bs j) l (shelf-at bs j l)) i (search rules) (search rules) ∙ c.in-None.ensures tagged
