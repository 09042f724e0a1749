use Rattle.std.proofs.Common.{◌<◌, length, refl, ap, ◌∙◌, rules}
use Rattle.scc_buckets.proofs.Spots.{place-get}
use Rattle.scc_buckets.proofs.Views.{count-view, list-view}
use Rattle.scc_buckets.proofs.WritingTables.{written-table, written-view, written-unique}
use Rattle.scc_array.specs.Shelves.{shelf_of}
use Rattle.scc_buckets.proofs.Arrays.{shelf-at}
use Rattle.scc_buckets.proofs.Buckets.write_at.Goals as goal

pub write_at-requires-clause-bucket : goal.write_at-requires-clause-bucket
write_at-requires-clause-bucket g c =
    let t = c.self.inside in
    let bs = t.buckets in
    let count = count-view bs _ c.args.self.now c.self.view_is in
    let l : c.args.place.bucket < length bs = rw count at c.requires.within.bucket in
    search rules

pub write_at-requires-clause-slot : goal.write_at-requires-clause-slot
write_at-requires-clause-slot g c =
    let t = c.self.inside in
    let bs = t.buckets in
    let count = count-view bs _ c.args.self.now c.self.view_is in
    let l : c.args.place.bucket < length bs = rw count at c.requires.within.bucket in
    let b = (shelf_of c.self.inside.buckets c.args.place.bucket) in
    let here = list-view bs _ c.args.self.now c.self.view_is c.args.place.bucket b l (shelf-at c.self.inside.buckets c.args.place.bucket l) in
    rw here at c.requires.within.slot

pub write_at-requires-clause-takes : goal.write_at-requires-clause-takes
write_at-requires-clause-takes g c = λ e at allowed.
    let t = c.self.inside in
    let bs = t.buckets in
    let count = count-view bs _ c.args.self.now c.self.view_is in
    let l : c.args.place.bucket < length bs = rw count at c.requires.within.bucket in
    let b = (shelf_of c.self.inside.buckets c.args.place.bucket) in
    let here = list-view bs _ c.args.self.now c.self.view_is c.args.place.bucket b l (shelf-at c.self.inside.buckets c.args.place.bucket l) in
    c.requires.takes e (place-get c.args.self.now c.args.place c.requires.within e (rw here at)) allowed

pub write_at-requires-clause-keeps : goal.write_at-requires-clause-keeps
write_at-requires-clause-keeps g c = λ e r w at allowed written.
    let t = c.self.inside in
    let bs = t.buckets in
    let count = count-view bs _ c.args.self.now c.self.view_is in
    let l : c.args.place.bucket < length bs = rw count at c.requires.within.bucket in
    let b = (shelf_of c.self.inside.buckets c.args.place.bucket) in
    let here = list-view bs _ c.args.self.now c.self.view_is c.args.place.bucket b l (shelf-at c.self.inside.buckets c.args.place.bucket l) in
    c.requires.keeps e r w (place-get c.args.self.now c.args.place c.requires.within e (rw here at)) allowed written

pub invariant_of-self : goal.invariant_of-self
invariant_of-self g c =
    let t = c.self.inside in
    let bs = t.buckets in
    let count = count-view bs _ c.args.self.now c.self.view_is in
    let l : c.args.place.bucket < length bs = rw count at c.requires.within.bucket in
    let b = (shelf_of c.self.inside.buckets c.args.place.bucket) in
    let here = list-view bs _ c.args.self.now c.self.view_is c.args.place.bucket b l (shelf-at c.self.inside.buckets c.args.place.bucket l) in
    let x = c.write_at.ensures in
    let same = g.met.E.Valued.value_keeps_key x.0 x.1 in
    rw x.4 record {
      table = written-table g.E.Valued.with_value (λ e. g.H.Hashes.hash_of c.self.inside.router.hasher (g.E.Keyed.key_of e)) t.router.skipped t.length t.overflowing c.args.place bs c.self.invariant.table _ c.args.self.now c.self.view_is b l (shelf-at c.self.inside.buckets c.args.place.bucket l) x.0 x.2 x.1 (ap (λ k. g.H.Hashes.hash_of t.router.hasher k) same);
      small_minimum = c.self.invariant.small_minimum;
      unique = written-unique g.E.Valued.with_value (λ e. g.H.Hashes.hash_of c.self.inside.router.hasher (g.E.Keyed.key_of e)) t.router.skipped t.length t.overflowing c.args.place bs c.self.invariant.table _ c.args.self.now c.self.view_is b l (shelf-at c.self.inside.buckets c.args.place.bucket l) x.0 x.2 x.1 c.requires.within (rw here x.2) g.met.E.Key.Eq.laws g.E.Keyed.key_of (ap (λ k. g.E.Key.PartialEq.eq k (g.E.Keyed.key_of x.0)) same ∙ g.met.E.Key.Eq.laws.refl (g.E.Keyed.key_of x.0)) c.self.invariant.unique;
    }

pub returns : goal.returns
returns g c =
    let t = c.self.inside in
    let bs = t.buckets in
    let count = count-view bs _ c.args.self.now c.self.view_is in
    let l : c.args.place.bucket < length bs = rw count at c.requires.within.bucket in
    let b = (shelf_of c.self.inside.buckets c.args.place.bucket) in
    let here = list-view bs _ c.args.self.now c.self.view_is c.args.place.bucket b l (shelf-at c.self.inside.buckets c.args.place.bucket l) in
    let x = c.write_at.ensures in
    (x.0, x.1, place-get c.args.self.now c.args.place c.requires.within x.0 (rw here x.2), x.3, rw x.4 (written-view g.E.Valued.with_value (λ e. g.H.Hashes.hash_of c.self.inside.router.hasher (g.E.Keyed.key_of e)) t.router.skipped t.length t.overflowing c.args.place bs c.self.invariant.table _ c.args.self.now c.self.view_is b l (shelf-at c.self.inside.buckets c.args.place.bucket l) x.0 x.2 x.1), x.5)
