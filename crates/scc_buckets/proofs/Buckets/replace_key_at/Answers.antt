use Rattle.std.proofs.Common.{◌<◌, length, ap, ◌∙◌, rules}
use Rattle.scc_buckets.proofs.Spots.{place-get}
use Rattle.scc_buckets.proofs.Views.{count-view, list-view}
use Rattle.scc_buckets.proofs.WritingTables.{written-table, written-view, written-unique}
use Rattle.scc_array.specs.Shelves.{shelf_of}
use Rattle.scc_buckets.proofs.Arrays.{shelf-at}
use Rattle.scc_buckets.proofs.Buckets.replace_key_at.Goals as goal

pub replace_key_at-requires-clause-bucket : goal.replace_key_at-requires-clause-bucket
replace_key_at-requires-clause-bucket g c =
    let t = c.self.inside in
    let bs = t.buckets in
    let count = count-view bs _ c.args.self.now c.self.view_is in
    let l : c.args.place.bucket < length bs = rw count at c.requires.within.bucket in
    search rules

pub replace_key_at-requires-clause-slot : goal.replace_key_at-requires-clause-slot
replace_key_at-requires-clause-slot g c =
    let t = c.self.inside in
    let bs = t.buckets in
    let count = count-view bs _ c.args.self.now c.self.view_is in
    let l : c.args.place.bucket < length bs = rw count at c.requires.within.bucket in
    let b = (shelf_of c.self.inside.buckets c.args.place.bucket) in
    let here = list-view bs _ c.args.self.now c.self.view_is c.args.place.bucket b l (shelf-at c.self.inside.buckets c.args.place.bucket l) in
    rw here at c.requires.within.slot

pub invariant_of-self : goal.invariant_of-self
invariant_of-self g c =
    let t = c.self.inside in
    let bs = t.buckets in
    let count = count-view bs _ c.args.self.now c.self.view_is in
    let l : c.args.place.bucket < length bs = rw count at c.requires.within.bucket in
    let b = (shelf_of c.self.inside.buckets c.args.place.bucket) in
    let here = list-view bs _ c.args.self.now c.self.view_is c.args.place.bucket b l (shelf-at c.self.inside.buckets c.args.place.bucket l) in
    let x = c.replace_key_at.ensures.old in
    let got = place-get c.args.self.now c.args.place c.requires.within x.0 (rw here x.1) in
    let equal = c.requires.same x.0 got in
    let new = g.met.E.Valued.key_is x.0 c.args.key in
    rw c.replace_key_at.ensures.new record {
      table = written-table g.E.Valued.with_key (λ e. g.H.Hashes.hash_of c.self.inside.router.hasher (g.E.Keyed.key_of e)) t.router.skipped t.length t.overflowing c.args.place bs c.self.invariant.table _ c.args.self.now c.self.view_is b l (shelf-at c.self.inside.buckets c.args.place.bucket l) x.0 x.1 c.args.key (ap (g.H.Hashes.hash_of t.router.hasher) new ∙ g.met.H.Hashes.respects_eq t.router.hasher c.args.key (g.E.Keyed.key_of x.0) equal);
      small_minimum = c.self.invariant.small_minimum;
      unique = written-unique g.E.Valued.with_key (λ e. g.H.Hashes.hash_of c.self.inside.router.hasher (g.E.Keyed.key_of e)) t.router.skipped t.length t.overflowing c.args.place bs c.self.invariant.table _ c.args.self.now c.self.view_is b l (shelf-at c.self.inside.buckets c.args.place.bucket l) x.0 x.1 c.args.key c.requires.within (rw here x.1) g.met.E.Key.Eq.laws g.E.Keyed.key_of (ap (λ k. g.E.Key.PartialEq.eq k (g.E.Keyed.key_of x.0)) new ∙ equal) c.self.invariant.unique;
    }

pub returns-clause-old : goal.returns-clause-old
returns-clause-old g c =
    let t = c.self.inside in
    let bs = t.buckets in
    let count = count-view bs _ c.args.self.now c.self.view_is in
    let l : c.args.place.bucket < length bs = rw count at c.requires.within.bucket in
    let b = (shelf_of c.self.inside.buckets c.args.place.bucket) in
    let here = list-view bs _ c.args.self.now c.self.view_is c.args.place.bucket b l (shelf-at c.self.inside.buckets c.args.place.bucket l) in
    let x = c.replace_key_at.ensures.old in
    (x.0, place-get c.args.self.now c.args.place c.requires.within x.0 (rw here x.1), x.2)

pub returns-clause-new : goal.returns-clause-new
returns-clause-new g c =
    let t = c.self.inside in
    let bs = t.buckets in
    let count = count-view bs _ c.args.self.now c.self.view_is in
    let l : c.args.place.bucket < length bs = rw count at c.requires.within.bucket in
    let b = (shelf_of c.self.inside.buckets c.args.place.bucket) in
    let here = list-view bs _ c.args.self.now c.self.view_is c.args.place.bucket b l (shelf-at c.self.inside.buckets c.args.place.bucket l) in
    let x = c.replace_key_at.ensures.old in
    rw c.replace_key_at.ensures.new (written-view g.E.Valued.with_key (λ e. g.H.Hashes.hash_of c.self.inside.router.hasher (g.E.Keyed.key_of e)) t.router.skipped t.length t.overflowing c.args.place bs c.self.invariant.table _ c.args.self.now c.self.view_is b l (shelf-at c.self.inside.buckets c.args.place.bucket l) x.0 x.1 c.args.key)

pub replace_key_at-requires-clause-same : goal.replace_key_at-requires-clause-same
replace_key_at-requires-clause-same g c = λ e at.
    let t = c.self.inside in
    let bs = t.buckets in
    let count = count-view bs _ c.args.self.now c.self.view_is in
    let l : c.args.place.bucket < length bs = rw count at c.requires.within.bucket in
    let b = (shelf_of c.self.inside.buckets c.args.place.bucket) in
    let here = list-view bs _ c.args.self.now c.self.view_is c.args.place.bucket b l (shelf-at c.self.inside.buckets c.args.place.bucket l) in
    c.requires.same e (place-get c.args.self.now c.args.place c.requires.within e (rw here at))
