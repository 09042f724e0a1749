use Rattle.scc_common.specs.Contents.{hash_in}
use Rattle.std.proofs.Common.{◌≡◌, ◌∙◌, sym, ap, rules, length, refl}
use Rattle.std.specs.List.{find, position}
use Rattle.std.proofs.lemmas.Option.{IfSome_then}
use Rattle.scc_array.specs.Shelves.{shelf_of}
use Rattle.scc_buckets.proofs.Arrays.{shelf-at}
use Rattle.scc_buckets.proofs.FindingLemmas.{HashOf, has_tag, no-entries}
use Rattle.scc_buckets.proofs.Finds.{find-own}
use Rattle.scc_buckets.proofs.UpdatingLemmas.{updated-first, updated-table, updated-unique}
use Rattle.scc_buckets.proofs.Views.{entries-view, settings-view}
use Rattle.scc_buckets.proofs.Buckets.write.Goals as goal

pub returns-then-count-eq0-clause-step : goal.returns-then-count-eq0-clause-step
returns-then-count-eq0-clause-step g c =
    let p = λ (e : g.row.E.Denot). g.E.Key.PartialEq.eq c.args.key.now (g.E.Keyed.key_of e) in
    let none : length c.self.inside.buckets ≡ 0 = search rules in
    (ap (position p) (no-entries c.self.inside.buckets _ c.args.self.now c.self.view_is none), refl)

pub write-requires-clause-tagged : goal.write-requires-clause-tagged
write-requires-clause-tagged g c =
    let bs = c.self.inside.buckets in
    let i = c.bucket-bucket.result in
    let hash = λ (e : g.row.E.Denot). g.H.Hashes.hash_of c.self.inside.router.hasher (g.E.Keyed.key_of e) in
    let hashed = rw (settings-view bs _ c.args.self.now c.self.view_is, hash_in) at c.requires.hashed in
    rw c.tag.ensures (has_tag _ hash c.args.hash c.self.inside.router.skipped (length bs) i (shelf_of bs i)
    (record { same = λ e w. sym (hashed ∙ g.met.H.Hashes.respects_eq c.self.inside.router.hasher c.args.key.now (g.E.Keyed.key_of e) w) })
    (c.self.invariant.table.own i (shelf_of bs i) (search rules) (shelf-at bs i (search rules))))

pub write-requires-clause-takes : goal.write-requires-clause-takes
write-requires-clause-takes g c = λ e found allowed.
    let bs = c.self.inside.buckets in
    let i = c.bucket-bucket.result in
    let p = λ (x : g.row.E.Denot). g.E.Key.PartialEq.eq c.args.key.now (g.E.Keyed.key_of x) in
    let hash = λ (x : g.row.E.Denot). g.H.Hashes.hash_of c.self.inside.router.hasher (g.E.Keyed.key_of x) in
    let hashed = rw (settings-view bs _ c.args.self.now c.self.view_is, hash_in) at c.requires.hashed in
    let same : HashOf p hash c.args.hash = record { same = λ x w. sym (hashed ∙ g.met.H.Hashes.respects_eq c.self.inside.router.hasher c.args.key.now (g.E.Keyed.key_of x) w) } in
    c.requires.takes e (ap (find p) (entries-view bs _ c.args.self.now c.self.view_is) ∙ find-own p hash c.args.hash same c.self.inside.router.skipped bs (λ j l. c.self.invariant.table.own j (shelf_of bs j) l (shelf-at bs j l)) i (search rules) (search rules) ∙ found) allowed

pub write-requires-clause-keeps : goal.write-requires-clause-keeps
write-requires-clause-keeps g c = λ e r w found allowed written.
    let bs = c.self.inside.buckets in
    let i = c.bucket-bucket.result in
    let p = λ (x : g.row.E.Denot). g.E.Key.PartialEq.eq c.args.key.now (g.E.Keyed.key_of x) in
    let hash = λ (x : g.row.E.Denot). g.H.Hashes.hash_of c.self.inside.router.hasher (g.E.Keyed.key_of x) in
    let hashed = rw (settings-view bs _ c.args.self.now c.self.view_is, hash_in) at c.requires.hashed in
    let same : HashOf p hash c.args.hash = record { same = λ x w. sym (hashed ∙ g.met.H.Hashes.respects_eq c.self.inside.router.hasher c.args.key.now (g.E.Keyed.key_of x) w) } in
    c.requires.keeps e r w (ap (find p) (entries-view bs _ c.args.self.now c.self.view_is) ∙ find-own p hash c.args.hash same c.self.inside.router.skipped bs (λ j l. c.self.invariant.table.own j (shelf_of bs j) l (shelf-at bs j l)) i (search rules) (search rules) ∙ found) allowed written

pub invariant_of-self : goal.invariant_of-self
invariant_of-self g c =
    let t = c.self.inside in
    let bs = t.buckets in
    let i = c.bucket-bucket.result in
    let p = λ (x : g.row.E.Denot). g.E.Key.PartialEq.eq c.args.key.now (g.E.Keyed.key_of x) in
    let hash = λ (x : g.row.E.Denot). g.H.Hashes.hash_of t.router.hasher (g.E.Keyed.key_of x) in
    let hashed = rw (settings-view bs _ c.args.self.now c.self.view_is, hash_in) at c.requires.hashed in
    let same : HashOf p hash c.args.hash = record { same = λ x w. sym (hashed ∙ g.met.H.Hashes.respects_eq t.router.hasher c.args.key.now (g.E.Keyed.key_of x) w) } in
    let put = g.E.Valued.with_value in
    let laws = g.met.E.Key.Eq.laws in
    let keeps = g.met.E.Valued.value_keeps_key in
    record {
      table = updated-table (λ (x : g.row.E.Denot). g.W.Writer.gives c.args.w (g.E.Keyed.key_of x) (g.E.Valued.value_of x)) g.E.Keyed.key_of put p hash c.args.hash t.router.skipped t.length t.overflowing i bs c.write.new.self c.self.invariant.table same (search rules) (search rules) _ c.args.self.now c.self.view_is (λ e w. ap (λ k. g.H.Hashes.hash_of t.router.hasher k) (keeps e w)) c.write.result c.write.ensures.step;
      small_minimum = c.self.invariant.small_minimum;
      unique = updated-unique (λ (x : g.row.E.Denot). g.W.Writer.gives c.args.w (g.E.Keyed.key_of x) (g.E.Valued.value_of x)) g.E.Keyed.key_of put p hash c.args.hash t.router.skipped t.length t.overflowing i bs c.write.new.self c.self.invariant.table same (search rules) (search rules) _ c.args.self.now c.self.view_is laws (λ e w. ap (λ k. g.E.Key.PartialEq.eq k (g.E.Keyed.key_of e)) (keeps e w) ∙ laws.refl (g.E.Keyed.key_of e)) c.self.invariant.unique c.write.result c.write.ensures.step;
    }

pub returns-clause-step : goal.returns-clause-step
returns-clause-step g c =
    let t = c.self.inside in
    let bs = t.buckets in
    let i = c.bucket-bucket.result in
    let p = λ (x : g.row.E.Denot). g.E.Key.PartialEq.eq c.args.key.now (g.E.Keyed.key_of x) in
    let hash = λ (x : g.row.E.Denot). g.H.Hashes.hash_of t.router.hasher (g.E.Keyed.key_of x) in
    let hashed = rw (settings-view bs _ c.args.self.now c.self.view_is, hash_in) at c.requires.hashed in
    let same : HashOf p hash c.args.hash = record { same = λ x w. sym (hashed ∙ g.met.H.Hashes.respects_eq t.router.hasher c.args.key.now (g.E.Keyed.key_of x) w) } in
    updated-first (λ (x : g.row.E.Denot). g.W.Writer.gives c.args.w (g.E.Keyed.key_of x) (g.E.Valued.value_of x)) g.E.Keyed.key_of g.E.Valued.with_value p hash c.args.hash t.router.skipped t.length t.overflowing i bs c.write.new.self c.self.invariant.table same (search rules) (search rules) _ c.args.self.now c.self.view_is c.write.result c.write.ensures.step

pub returns-clause-allowed : goal.returns-clause-allowed
returns-clause-allowed g c =
    let bs = c.self.inside.buckets in
    let i = c.bucket-bucket.result in
    let p = λ (x : g.row.E.Denot). g.E.Key.PartialEq.eq c.args.key.now (g.E.Keyed.key_of x) in
    let hash = λ (x : g.row.E.Denot). g.H.Hashes.hash_of c.self.inside.router.hasher (g.E.Keyed.key_of x) in
    let hashed = rw (settings-view bs _ c.args.self.now c.self.view_is, hash_in) at c.requires.hashed in
    let same : HashOf p hash c.args.hash = record { same = λ x w. sym (hashed ∙ g.met.H.Hashes.respects_eq c.self.inside.router.hasher c.args.key.now (g.E.Keyed.key_of x) w) } in
    IfSome_then c.write.result c.write.ensures.allowed (λ _ f. (f.0, ap (find p) (entries-view bs _ c.args.self.now c.self.view_is) ∙ find-own p hash c.args.hash same c.self.inside.router.skipped bs (λ j l. c.self.invariant.table.own j (shelf_of bs j) l (shelf-at bs j l)) i (search rules) (search rules) ∙ f.1, f.2))
