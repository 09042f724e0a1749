use Rattle.std.proofs.Common.{◌<◌, length, refl, ap, ◌∙◌, rules}
use Rattle.scc_buckets.proofs.Spots.{place-get}
use Rattle.scc_buckets.proofs.Views.{count-view, list-view}
use Rattle.scc_buckets.proofs.WritingTables.{written-table, written-view, written-unique}
use Rattle.scc_array.specs.Shelves.{shelf_of}
use Rattle.scc_buckets.proofs.Arrays.{shelf-at}
use Rattle.scc_buckets.proofs.Buckets.parts_mut_at.Goals as goal

pub parts_mut_at-requires-clause-bucket : goal.parts_mut_at-requires-clause-bucket
parts_mut_at-requires-clause-bucket g c =
    let t = c.self.inside in
    let bs = t.buckets in
    let count = count-view bs _ c.args.self.now c.self.view_is in
    let l : c.args.place.bucket < length bs = rw count at c.requires.bucket in
    search rules

pub parts_mut_at-requires-clause-slot : goal.parts_mut_at-requires-clause-slot
parts_mut_at-requires-clause-slot g c =
    let t = c.self.inside in
    let bs = t.buckets in
    let count = count-view bs _ c.args.self.now c.self.view_is in
    let l : c.args.place.bucket < length bs = rw count at c.requires.bucket in
    let b = (shelf_of c.self.inside.buckets c.args.place.bucket) in
    let here = list-view bs _ c.args.self.now c.self.view_is c.args.place.bucket b l (shelf-at c.self.inside.buckets c.args.place.bucket l) in
    rw here at c.requires.slot

pub invariant_of-self-lent : goal.invariant_of-self-lent
invariant_of-self-lent g c = λ w.
    let t = c.self.inside in
    let bs = t.buckets in
    let count = count-view bs _ c.args.self.now c.self.view_is in
    let l : c.args.place.bucket < length bs = rw count at c.requires.bucket in
    let b = (shelf_of c.self.inside.buckets c.args.place.bucket) in
    let here = list-view bs _ c.args.self.now c.self.view_is c.args.place.bucket b l (shelf-at c.self.inside.buckets c.args.place.bucket l) in
    let x = c.parts_mut_at.ensures.parts in
    let same = g.met.E.Valued.value_keeps_key x.0 w in
    record {
      table = written-table g.E.Valued.with_value (λ e. g.H.Hashes.hash_of c.self.inside.router.hasher (g.E.Keyed.key_of e)) t.router.skipped t.length t.overflowing c.args.place bs c.self.invariant.table _ c.args.self.now c.self.view_is b l (shelf-at c.self.inside.buckets c.args.place.bucket l) x.0 x.1 w (ap (λ k. g.H.Hashes.hash_of t.router.hasher k) same);
      small_minimum = c.self.invariant.small_minimum;
      unique = written-unique g.E.Valued.with_value (λ e. g.H.Hashes.hash_of c.self.inside.router.hasher (g.E.Keyed.key_of e)) t.router.skipped t.length t.overflowing c.args.place bs c.self.invariant.table _ c.args.self.now c.self.view_is b l (shelf-at c.self.inside.buckets c.args.place.bucket l) x.0 x.1 w c.requires (rw here x.1) g.met.E.Key.Eq.laws g.E.Keyed.key_of (ap (λ k. g.E.Key.PartialEq.eq k (g.E.Keyed.key_of x.0)) same ∙ g.met.E.Key.Eq.laws.refl (g.E.Keyed.key_of x.0)) c.self.invariant.unique;
    }

pub returns : goal.returns
returns g c =
    let t = c.self.inside in
    let bs = t.buckets in
    let count = count-view bs _ c.args.self.now c.self.view_is in
    let l : c.args.place.bucket < length bs = rw count at c.requires.bucket in
    let b = (shelf_of c.self.inside.buckets c.args.place.bucket) in
    let here = list-view bs _ c.args.self.now c.self.view_is c.args.place.bucket b l (shelf-at c.self.inside.buckets c.args.place.bucket l) in
    let x = c.parts_mut_at.ensures.parts in
    ((refl, λ w. written-view g.E.Valued.with_value (λ e. g.H.Hashes.hash_of c.self.inside.router.hasher (g.E.Keyed.key_of e)) t.router.skipped t.length t.overflowing c.args.place bs c.self.invariant.table _ c.args.self.now c.self.view_is b l (shelf-at c.self.inside.buckets c.args.place.bucket l) x.0 x.1 w), record { writes_back = tt; parts = (x.0, place-get c.args.self.now c.args.place c.requires x.0 (rw here x.1), c.parts_mut_at.ensures.parts.2, c.parts_mut_at.ensures.parts.3) })
