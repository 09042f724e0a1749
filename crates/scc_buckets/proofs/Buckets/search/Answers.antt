use Rattle.scc_common.specs.Contents.{hash_in}
use Rattle.std.proofs.Common.{◌≡◌, ◌∙◌, sym, rules, length, refl}
use Rattle.scc_buckets.proofs.Bounds.{routed-view}
use Rattle.scc_buckets.proofs.FindingLemmas.{has_tag, found_at, missed_at, no-entries}
use Rattle.scc_buckets.proofs.Views.{entries-view, settings-view}
use Rattle.scc_array.specs.Shelves.{shelf_of}
use Rattle.scc_buckets.proofs.Arrays.{shelf-at}
use Rattle.scc_buckets.proofs.Buckets.search.Goals as goal

pub returns-then-count-eq0-clause-place : goal.returns-then-count-eq0-clause-place
returns-then-count-eq0-clause-place g c =
    let none : length c.self.inside.buckets ≡ 0 = search rules in
    rw (no-entries c.self.inside.buckets _ c.args.self.now c.self.view_is none) refl

pub returns-then-count-eq0-clause-unique : goal.returns-then-count-eq0-clause-unique
returns-then-count-eq0-clause-unique g c = rw (entries-view c.self.inside.buckets _ c.args.self.now c.self.view_is) c.self.invariant.unique

-- an entry with the searched key has the searched hash
pub search-requires-clause-tagged : goal.search-requires-clause-tagged
search-requires-clause-tagged g c =
    let hashed = rw (settings-view c.self.inside.buckets _ c.args.self.now c.self.view_is, hash_in) at c.requires in
    rw c.tag.ensures (has_tag _ (λ e. g.H.Hashes.hash_of c.self.inside.router.hasher (g.E.Keyed.key_of e)) c.args.hash c.self.inside.router.skipped (length c.self.inside.buckets) c.bucket-bucket.result (shelf_of c.self.inside.buckets c.bucket-bucket.result)
    (record { same = λ e w. sym (hashed ∙ g.met.H.Hashes.respects_eq c.self.inside.router.hasher c.args.key.now (g.E.Keyed.key_of e) w) })
    (c.self.invariant.table.own c.bucket-bucket.result (shelf_of c.self.inside.buckets c.bucket-bucket.result) (search rules) (shelf-at c.self.inside.buckets c.bucket-bucket.result (search rules))))

pub returns-in-Some-clause-place : goal.returns-in-Some-clause-place
returns-in-Some-clause-place g c =
    let hashed = rw (settings-view c.self.inside.buckets _ c.args.self.now c.self.view_is, hash_in) at c.requires in
    found_at _ (λ e. g.H.Hashes.hash_of c.self.inside.router.hasher (g.E.Keyed.key_of e)) c.args.hash c.self.inside.router.skipped _ _ c.bucket-bucket.result c.self.inside.buckets c.self.invariant.table
    (record { same = λ e w. sym (hashed ∙ g.met.H.Hashes.respects_eq c.self.inside.router.hasher c.args.key.now (g.E.Keyed.key_of e) w) })
    (search rules) _ c.args.self.now c.self.view_is (shelf_of c.self.inside.buckets c.bucket-bucket.result) (search rules) (shelf-at c.self.inside.buckets c.bucket-bucket.result (search rules)) c.in-Some.slot c.in-Some.ensures

pub returns-in-Some-clause-unique : goal.returns-in-Some-clause-unique
returns-in-Some-clause-unique g c = rw (entries-view c.self.inside.buckets _ c.args.self.now c.self.view_is) c.self.invariant.unique

pub returns-in-None-clause-place : goal.returns-in-None-clause-place
returns-in-None-clause-place g c =
    let hashed = rw (settings-view c.self.inside.buckets _ c.args.self.now c.self.view_is, hash_in) at c.requires in
    missed_at _ (λ e. g.H.Hashes.hash_of c.self.inside.router.hasher (g.E.Keyed.key_of e)) c.args.hash c.self.inside.router.skipped _ _ c.bucket-bucket.result c.self.inside.buckets c.self.invariant.table
    (record { same = λ e w. sym (hashed ∙ g.met.H.Hashes.respects_eq c.self.inside.router.hasher c.args.key.now (g.E.Keyed.key_of e) w) })
    (search rules) _ c.args.self.now c.self.view_is (shelf_of c.self.inside.buckets c.bucket-bucket.result) (search rules) (shelf-at c.self.inside.buckets c.bucket-bucket.result (search rules)) (sym c.in-None.ensures)

pub returns-in-None-clause-unique : goal.returns-in-None-clause-unique
returns-in-None-clause-unique g c = rw (entries-view c.self.inside.buckets _ c.args.self.now c.self.view_is) c.self.invariant.unique

pub returns-then-count-eq0-clause-routed : goal.returns-then-count-eq0-clause-routed
returns-then-count-eq0-clause-routed g c =
    rw (settings-view c.self.inside.buckets _ c.args.self.now c.self.view_is, hash_in)
    (routed-view (λ e. g.H.Hashes.hash_of c.self.inside.router.hasher (g.E.Keyed.key_of e)) _ _ c.self.inside.buckets _ c.args.self.now c.self.view_is c.self.invariant.table)

pub returns-in-Some-clause-routed : goal.returns-in-Some-clause-routed
returns-in-Some-clause-routed g c =
    rw (settings-view c.self.inside.buckets _ c.args.self.now c.self.view_is, hash_in)
    (routed-view (λ e. g.H.Hashes.hash_of c.self.inside.router.hasher (g.E.Keyed.key_of e)) _ _ c.self.inside.buckets _ c.args.self.now c.self.view_is c.self.invariant.table)

pub returns-in-None-clause-routed : goal.returns-in-None-clause-routed
returns-in-None-clause-routed g c =
    rw (settings-view c.self.inside.buckets _ c.args.self.now c.self.view_is, hash_in)
    (routed-view (λ e. g.H.Hashes.hash_of c.self.inside.router.hasher (g.E.Keyed.key_of e)) _ _ c.self.inside.buckets _ c.args.self.now c.self.view_is c.self.invariant.table)
