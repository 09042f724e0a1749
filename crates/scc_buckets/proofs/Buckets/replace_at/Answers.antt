use Rattle.std.proofs.Common.{◌<◌, length, rules}
use Rattle.scc_array.specs.ShelfWrites.{put_whole}
use Rattle.scc_buckets.proofs.Spots.{place-get}
use Rattle.scc_buckets.proofs.Views.{count-view, list-view}
use Rattle.scc_buckets.proofs.WritingTables.{written-table, written-view, written-unique}
use Rattle.scc_array.specs.Shelves.{shelf_of}
use Rattle.scc_buckets.proofs.Arrays.{shelf-at}
use Rattle.scc_buckets.proofs.Buckets.replace_at.Goals as goal

pub replace_at-requires-clause-bucket : goal.replace_at-requires-clause-bucket
replace_at-requires-clause-bucket g c =
    let t = c.self.inside in
    let bs = t.buckets in
    let count = count-view bs _ c.args.self.now c.self.view_is in
    let l : c.args.place.bucket < length bs = rw count at c.requires.within.bucket in
    search rules

pub replace_at-requires-clause-slot : goal.replace_at-requires-clause-slot
replace_at-requires-clause-slot g c =
    let t = c.self.inside in
    let bs = t.buckets in
    let count = count-view bs _ c.args.self.now c.self.view_is in
    let l : c.args.place.bucket < length bs = rw count at c.requires.within.bucket in
    let b = (shelf_of c.self.inside.buckets c.args.place.bucket) in
    let here = list-view bs _ c.args.self.now c.self.view_is c.args.place.bucket b l (shelf-at c.self.inside.buckets c.args.place.bucket l) in
    rw here at c.requires.within.slot

pub invariant_of-self : goal.invariant_of-self
invariant_of-self g c =
    let t = c.self.inside in
    let bs = t.buckets in
    let count = count-view bs _ c.args.self.now c.self.view_is in
    let l : c.args.place.bucket < length bs = rw count at c.requires.within.bucket in
    let b = (shelf_of c.self.inside.buckets c.args.place.bucket) in
    let here = list-view bs _ c.args.self.now c.self.view_is c.args.place.bucket b l (shelf-at c.self.inside.buckets c.args.place.bucket l) in
    let x = c.replace_at.ensures.old in
    let got = place-get c.args.self.now c.args.place c.requires.within c.replace_at.result (rw here x) in
    let equal = c.requires.same c.replace_at.result got in
    rw c.replace_at.ensures.new record {
      table = written-table put_whole (λ e. g.H.Hashes.hash_of c.self.inside.router.hasher (g.E.Keyed.key_of e)) t.router.skipped t.length t.overflowing c.args.place bs c.self.invariant.table _ c.args.self.now c.self.view_is b l (shelf-at c.self.inside.buckets c.args.place.bucket l) c.replace_at.result x c.args.entry (g.met.H.Hashes.respects_eq t.router.hasher (g.E.Keyed.key_of c.args.entry) (g.E.Keyed.key_of c.replace_at.result) equal);
      small_minimum = c.self.invariant.small_minimum;
      unique = written-unique put_whole (λ e. g.H.Hashes.hash_of c.self.inside.router.hasher (g.E.Keyed.key_of e)) t.router.skipped t.length t.overflowing c.args.place bs c.self.invariant.table _ c.args.self.now c.self.view_is b l (shelf-at c.self.inside.buckets c.args.place.bucket l) c.replace_at.result x c.args.entry c.requires.within (rw here x) g.met.E.Key.Eq.laws g.E.Keyed.key_of equal c.self.invariant.unique;
    }

pub returns-clause-old : goal.returns-clause-old
returns-clause-old g c =
    let t = c.self.inside in
    let bs = t.buckets in
    let count = count-view bs _ c.args.self.now c.self.view_is in
    let l : c.args.place.bucket < length bs = rw count at c.requires.within.bucket in
    let b = (shelf_of c.self.inside.buckets c.args.place.bucket) in
    let here = list-view bs _ c.args.self.now c.self.view_is c.args.place.bucket b l (shelf-at c.self.inside.buckets c.args.place.bucket l) in
    let x = c.replace_at.ensures.old in
    place-get c.args.self.now c.args.place c.requires.within c.replace_at.result (rw here x)

pub returns-clause-new : goal.returns-clause-new
returns-clause-new g c =
    let t = c.self.inside in
    let bs = t.buckets in
    let count = count-view bs _ c.args.self.now c.self.view_is in
    let l : c.args.place.bucket < length bs = rw count at c.requires.within.bucket in
    let b = (shelf_of c.self.inside.buckets c.args.place.bucket) in
    let here = list-view bs _ c.args.self.now c.self.view_is c.args.place.bucket b l (shelf-at c.self.inside.buckets c.args.place.bucket l) in
    let x = c.replace_at.ensures.old in
    rw c.replace_at.ensures.new (written-view put_whole (λ e. g.H.Hashes.hash_of c.self.inside.router.hasher (g.E.Keyed.key_of e)) t.router.skipped t.length t.overflowing c.args.place bs c.self.invariant.table _ c.args.self.now c.self.view_is b l (shelf-at c.self.inside.buckets c.args.place.bucket l) c.replace_at.result x c.args.entry)
