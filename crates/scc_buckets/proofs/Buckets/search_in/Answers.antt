use Rattle.scc_common.specs.Contents.{hash_in}
use Rattle.std.proofs.Common.{◌<◌, ◌∙◌, sym, rules, length}
use Rattle.scc_buckets.proofs.Bounds.{routed-view}
use Rattle.scc_buckets.proofs.FindingLemmas.{has_tag, missed_at}
use Rattle.scc_buckets.proofs.Views.{count-view, list-view, settings-view}
use Rattle.scc_array.specs.Shelves.{shelf_of}
use Rattle.scc_buckets.proofs.Arrays.{shelf-at}
use Rattle.scc_buckets.proofs.Buckets.search_in.Goals as goal

pub search-requires-clause-bucket : goal.search-requires-clause-bucket
search-requires-clause-bucket g c =
    let l = rw (count-view c.self.inside.buckets _ c.args.self.now c.self.view_is) at c.requires.within in
    search rules

pub search-requires-clause-tagged : goal.search-requires-clause-tagged
search-requires-clause-tagged g c =
    let bs = c.self.inside.buckets in
    let l : c.args.bucket < length bs = rw (count-view bs _ c.args.self.now c.self.view_is) at c.requires.within in
    let hashed = rw (settings-view bs _ c.args.self.now c.self.view_is, hash_in) at c.requires.hashed in
    rw c.tag.ensures (has_tag _ (λ e. g.H.Hashes.hash_of c.self.inside.router.hasher (g.E.Keyed.key_of e)) c.args.hash c.self.inside.router.skipped (length bs) c.args.bucket (shelf_of c.self.inside.buckets c.args.bucket)
    (record { same = λ e w. sym (hashed ∙ g.met.H.Hashes.respects_eq c.self.inside.router.hasher c.args.key.now (g.E.Keyed.key_of e) w) })
    (c.self.invariant.table.own c.args.bucket (shelf_of c.self.inside.buckets c.args.bucket) l (shelf-at c.self.inside.buckets c.args.bucket l)))

pub returns-clause-place : goal.returns-clause-place
returns-clause-place g c =
    let bs = c.self.inside.buckets in
    let l : c.args.bucket < length bs = rw (count-view bs _ c.args.self.now c.self.view_is) at c.requires.within in
    rw (list-view bs _ c.args.self.now c.self.view_is c.args.bucket (shelf_of c.self.inside.buckets c.args.bucket) l (shelf-at c.self.inside.buckets c.args.bucket l)) c.search.ensures

pub returns-clause-missed : goal.returns-clause-missed
returns-clause-missed g c =
    let bs = c.self.inside.buckets in
    let l : c.args.bucket < length bs = rw (count-view bs _ c.args.self.now c.self.view_is) at c.requires.within in
    let hashed = rw (settings-view bs _ c.args.self.now c.self.view_is, hash_in) at c.requires.hashed in
    λ none.
    missed_at _ (λ e. g.H.Hashes.hash_of c.self.inside.router.hasher (g.E.Keyed.key_of e)) c.args.hash c.self.inside.router.skipped _ _ c.args.bucket bs c.self.invariant.table
    (record { same = λ e w. sym (hashed ∙ g.met.H.Hashes.respects_eq c.self.inside.router.hasher c.args.key.now (g.E.Keyed.key_of e) w) })
    (rw (settings-view bs _ c.args.self.now c.self.view_is, count-view bs _ c.args.self.now c.self.view_is) at c.requires.routed) _ c.args.self.now c.self.view_is (shelf_of c.self.inside.buckets c.args.bucket) l (shelf-at c.self.inside.buckets c.args.bucket l) (sym c.search.ensures ∙ none)

pub returns-clause-routed : goal.returns-clause-routed
returns-clause-routed g c =
    rw (settings-view c.self.inside.buckets _ c.args.self.now c.self.view_is, hash_in)
    (routed-view (λ e. g.H.Hashes.hash_of c.self.inside.router.hasher (g.E.Keyed.key_of e)) _ _ c.self.inside.buckets _ c.args.self.now c.self.view_is c.self.invariant.table)
