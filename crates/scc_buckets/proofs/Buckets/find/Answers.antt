use Rattle.scc_common.specs.Contents.{hash_in}
use Rattle.std.proofs.Common.{◌≡◌, ◌∙◌, sym, ap, rules, length, refl}
use Rattle.std.specs.List.{find}
use Rattle.scc_buckets.proofs.FindingLemmas.{HashOf, has_tag, no-entries}
use Rattle.scc_buckets.proofs.Finds.{find-own}
use Rattle.scc_buckets.proofs.Views.{entries-view, settings-view}
use Rattle.scc_array.specs.Shelves.{shelf_of}
use Rattle.scc_buckets.proofs.Arrays.{shelf-at}
use Rattle.scc_buckets.proofs.Buckets.find.Goals as goal

pub returns-then-count-eq0 : goal.returns-then-count-eq0
returns-then-count-eq0 g c =
    let none : length c.self.inside.buckets ≡ 0 = search rules in
    rw (no-entries c.self.inside.buckets _ c.args.self.now c.self.view_is none) refl

pub find-requires-clause-tagged : goal.find-requires-clause-tagged
find-requires-clause-tagged g c =
    let bs = c.self.inside.buckets in
    let i = c.bucket-bucket.result in
    let hash = λ (e : g.row.E.Denot). g.H.Hashes.hash_of c.self.inside.router.hasher (g.E.Keyed.key_of e) in
    let hashed = rw (settings-view bs _ c.args.self.now c.self.view_is, hash_in) at c.requires in
    rw c.tag.ensures (has_tag _ hash c.args.hash c.self.inside.router.skipped (length bs) i (shelf_of bs i)
    (record { same = λ e w. sym (hashed ∙ g.met.H.Hashes.respects_eq c.self.inside.router.hasher c.args.key.now (g.E.Keyed.key_of e) w) })
    (c.self.invariant.table.own i (shelf_of bs i) (search rules) (shelf-at bs i (search rules))))

pub returns : goal.returns
returns g c =
    let bs = c.self.inside.buckets in
    let i = c.bucket-bucket.result in
    let p = λ (e : g.row.E.Denot). g.E.Key.PartialEq.eq c.args.key.now (g.E.Keyed.key_of e) in
    let hash = λ (e : g.row.E.Denot). g.H.Hashes.hash_of c.self.inside.router.hasher (g.E.Keyed.key_of e) in
    let hashed = rw (settings-view bs _ c.args.self.now c.self.view_is, hash_in) at c.requires in
    let same : HashOf p hash c.args.hash = record { same = λ e w. sym (hashed ∙ g.met.H.Hashes.respects_eq c.self.inside.router.hasher c.args.key.now (g.E.Keyed.key_of e) w) } in
    c.find.ensures ∙ sym (ap (find p) (entries-view bs _ c.args.self.now c.self.view_is) ∙ find-own p hash c.args.hash same c.self.inside.router.skipped bs (λ j l. c.self.invariant.table.own j (shelf_of bs j) l (shelf-at bs j l)) i (search rules) (search rules))
