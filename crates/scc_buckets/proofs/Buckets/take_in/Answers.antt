use Rattle.std.proofs.Common.{◌≡◌, ◌<◌, ◌≤◌, ap, rules, arith, length, refl, sym, ◌∙◌}
use Rattle.scc_common.specs.Contents.{entries}
use Rattle.scc_array.specs.Shelf.{shelf_entries}
use Rattle.scc_buckets.proofs.Bounds.{gone, removed-list, removed-short}
use Rattle.scc_buckets.proofs.Inserts.{read-again}
use Rattle.scc_buckets.proofs.OneList.{taken-from-list}
use Rattle.scc_buckets.proofs.Removes.{at-least-one, removed-table, removed-exactly, removed-unique, removed-unique-flat}
use Rattle.scc_buckets.proofs.Spots.{place-get}
use Rattle.scc_buckets.proofs.Standing.{taken-index, taken-list}
use Rattle.scc_buckets.proofs.Views.{entries-view, count-view, list-view, refused-view}
use Rattle.scc_array.specs.Shelves.{shelf_of}
use Rattle.scc_buckets.proofs.Arrays.{shelf-at, put-is, put-own}
use Rattle.scc_buckets.proofs.Buckets.take_in.Goals as goal

pub is_overflow-in_overflow-requires-clause-bucket : goal.is_overflow-in_overflow-requires-clause-bucket
is_overflow-in_overflow-requires-clause-bucket g c =
    let t = c.self.inside in
    let bs = t.buckets in
    let count = count-view bs _ c.args.self.now c.self.view_is in
    let l : c.args.place.bucket < length bs = rw count at c.requires.bucket in
    search rules

pub is_overflow-in_overflow-requires-clause-slot : goal.is_overflow-in_overflow-requires-clause-slot
is_overflow-in_overflow-requires-clause-slot g c =
    let t = c.self.inside in
    let bs = t.buckets in
    let count = count-view bs _ c.args.self.now c.self.view_is in
    let l : c.args.place.bucket < length bs = rw count at c.requires.bucket in
    let b = (shelf_of c.self.inside.buckets c.args.place.bucket) in
    let lk : c.args.place.slot < length (shelf_entries b) = rw (list-view bs _ c.args.self.now c.self.view_is c.args.place.bucket b l (shelf-at c.self.inside.buckets c.args.place.bucket l)) at c.requires.slot in
    lk

pub remove_at-entry-requires-clause-bucket : goal.remove_at-entry-requires-clause-bucket
remove_at-entry-requires-clause-bucket g c =
    let t = c.self.inside in
    let bs = t.buckets in
    let count = count-view bs _ c.args.self.now c.self.view_is in
    let l : c.args.place.bucket < length bs = rw count at c.requires.bucket in
    search rules

pub remove_at-entry-requires-clause-slot : goal.remove_at-entry-requires-clause-slot
remove_at-entry-requires-clause-slot g c =
    let t = c.self.inside in
    let bs = t.buckets in
    let count = count-view bs _ c.args.self.now c.self.view_is in
    let l : c.args.place.bucket < length bs = rw count at c.requires.bucket in
    let b = (shelf_of c.self.inside.buckets c.args.place.bucket) in
    let lk : c.args.place.slot < length (shelf_entries b) = rw (list-view bs _ c.args.self.now c.self.view_is c.args.place.bucket b l (shelf-at c.self.inside.buckets c.args.place.bucket l)) at c.requires.slot in
    lk

pub overflow_sub-self : goal.overflow_sub-self
overflow_sub-self g c =
    let t = c.self.inside in
    let bs = t.buckets in
    let count = count-view bs _ c.args.self.now c.self.view_is in
    let l : c.args.place.bucket < length bs = rw count at c.requires.bucket in
    let b = (shelf_of c.self.inside.buckets c.args.place.bucket) in
    let lk : c.args.place.slot < length (shelf_entries b) = rw (list-view bs _ c.args.self.now c.self.view_is c.args.place.bucket b l (shelf-at c.self.inside.buckets c.args.place.bucket l)) at c.requires.slot in
    at-least-one (λ e. g.H.Hashes.hash_of c.self.inside.router.hasher (g.E.Keyed.key_of e)) t.router.skipped t.length t.overflowing c.args.place bs c.self.invariant.table _ c.args.self.now c.self.view_is b l (shelf-at c.self.inside.buckets c.args.place.bucket l) lk (shelf_of c.remove_at-entry.new.self c.args.place.bucket) (put-is c.self.inside.buckets c.args.place.bucket l c.remove_at-entry.new.self _ c.remove_at-entry.ensures.others)

pub overflow_sub-self-2 : goal.overflow_sub-self-2
overflow_sub-self-2 g c =
    let t = c.self.inside in
    let bs = t.buckets in
    let count = count-view bs _ c.args.self.now c.self.view_is in
    let l : c.args.place.bucket < length bs = rw count at c.requires.bucket in
    let b = (shelf_of c.self.inside.buckets c.args.place.bucket) in
    let lk : c.args.place.slot < length (shelf_entries b) = rw (list-view bs _ c.args.self.now c.self.view_is c.args.place.bucket b l (shelf-at c.self.inside.buckets c.args.place.bucket l)) at c.requires.slot in
    let same : (shelf_of c.self.inside.buckets c.args.place.bucket) ≡ b = read-again bs c.args.place.bucket (shelf_of c.self.inside.buckets c.args.place.bucket) b l (shelf-at c.self.inside.buckets c.args.place.bucket l) (shelf-at c.self.inside.buckets c.args.place.bucket l) in
    let slots : length (shelf_of c.self.inside.buckets c.args.place.bucket).slots ≡ length b.slots = ap (λ x. length x.slots) same in
    let lower : c.args.place.slot < length b.slots → c.one_if.result ≡ 0 = λ q. let r : c.args.place.slot < length (shelf_of c.self.inside.buckets c.args.place.bucket).slots = omega arith in search rules in
    let upper : length b.slots ≤ c.args.place.slot → c.one_if.result ≡ 1 = λ q. let r : length (shelf_of c.self.inside.buckets c.args.place.bucket).slots ≤ c.args.place.slot = omega arith in search rules in
    (removed-table (λ e. g.H.Hashes.hash_of c.self.inside.router.hasher (g.E.Keyed.key_of e)) t.router.skipped t.length t.overflowing c.args.place bs c.self.invariant.table _ c.args.self.now c.self.view_is b l (shelf-at c.self.inside.buckets c.args.place.bucket l) lk (shelf_of c.remove_at-entry.new.self c.args.place.bucket) (put-is c.self.inside.buckets c.args.place.bucket l c.remove_at-entry.new.self _ c.remove_at-entry.ensures.others) c.one_if.result lower upper).1

pub invariant_of-self : goal.invariant_of-self
invariant_of-self g c =
    let t = c.self.inside in
    let bs = t.buckets in
    let count = count-view bs _ c.args.self.now c.self.view_is in
    let l : c.args.place.bucket < length bs = rw count at c.requires.bucket in
    let b = (shelf_of c.self.inside.buckets c.args.place.bucket) in
    let lk : c.args.place.slot < length (shelf_entries b) = rw (list-view bs _ c.args.self.now c.self.view_is c.args.place.bucket b l (shelf-at c.self.inside.buckets c.args.place.bucket l)) at c.requires.slot in
    let same : (shelf_of c.self.inside.buckets c.args.place.bucket) ≡ b = read-again bs c.args.place.bucket (shelf_of c.self.inside.buckets c.args.place.bucket) b l (shelf-at c.self.inside.buckets c.args.place.bucket l) (shelf-at c.self.inside.buckets c.args.place.bucket l) in
    let slots : length (shelf_of c.self.inside.buckets c.args.place.bucket).slots ≡ length b.slots = ap (λ x. length x.slots) same in
    let lower : c.args.place.slot < length b.slots → c.one_if.result ≡ 0 = λ q. let r : c.args.place.slot < length (shelf_of c.self.inside.buckets c.args.place.bucket).slots = omega arith in search rules in
    let upper : length b.slots ≤ c.args.place.slot → c.one_if.result ≡ 1 = λ q. let r : length (shelf_of c.self.inside.buckets c.args.place.bucket).slots ≤ c.args.place.slot = omega arith in search rules in
    let got = place-get c.args.self.now c.args.place c.requires c.remove_at-entry.result
    (rw (list-view bs _ c.args.self.now c.self.view_is c.args.place.bucket b l (shelf-at c.self.inside.buckets c.args.place.bucket l)) c.remove_at-entry.ensures.entry) in
    rw (put-own c.self.inside.buckets c.args.place.bucket l c.remove_at-entry.new.self _ c.remove_at-entry.ensures.others) record {
      table = (removed-table (λ e. g.H.Hashes.hash_of c.self.inside.router.hasher (g.E.Keyed.key_of e)) t.router.skipped t.length t.overflowing c.args.place bs c.self.invariant.table _ c.args.self.now c.self.view_is b l (shelf-at c.self.inside.buckets c.args.place.bucket l) lk (shelf_of c.remove_at-entry.new.self c.args.place.bucket) (put-is c.self.inside.buckets c.args.place.bucket l c.remove_at-entry.new.self _ c.remove_at-entry.ensures.others) c.one_if.result lower upper).0;
      small_minimum = c.self.invariant.small_minimum;
      unique = removed-unique-flat (λ e. g.H.Hashes.hash_of c.self.inside.router.hasher (g.E.Keyed.key_of e)) t.router.skipped t.length t.overflowing c.args.place bs c.self.invariant.table _ c.args.self.now c.self.view_is b l (shelf-at c.self.inside.buckets c.args.place.bucket l) lk (shelf_of c.remove_at-entry.new.self c.args.place.bucket) (put-is c.self.inside.buckets c.args.place.bucket l c.remove_at-entry.new.self _ c.remove_at-entry.ensures.others) g.met.E.Key.Eq.laws g.E.Keyed.key_of c.remove_at-entry.result got c.self.invariant.unique;
    }

pub returns : goal.returns
returns g c =
    let t = c.self.inside in
    let bs = t.buckets in
    let count = count-view bs _ c.args.self.now c.self.view_is in
    let l : c.args.place.bucket < length bs = rw count at c.requires.bucket in
    let b = (shelf_of c.self.inside.buckets c.args.place.bucket) in
    let lk : c.args.place.slot < length (shelf_entries b) = rw (list-view bs _ c.args.self.now c.self.view_is c.args.place.bucket b l (shelf-at c.self.inside.buckets c.args.place.bucket l)) at c.requires.slot in
    let got = place-get c.args.self.now c.args.place c.requires c.remove_at-entry.result
    (rw (list-view bs _ c.args.self.now c.self.view_is c.args.place.bucket b l (shelf-at c.self.inside.buckets c.args.place.bucket l)) c.remove_at-entry.ensures.entry) in
    record {
      entry = got;
      follows = (rw (put-own c.self.inside.buckets c.args.place.bucket l c.remove_at-entry.new.self _ c.remove_at-entry.ensures.others) (taken-index c.args.place bs _ c.args.self.now c.self.view_is b l lk (shelf_of c.remove_at-entry.new.self c.args.place.bucket) (put-is c.self.inside.buckets c.args.place.bucket l c.remove_at-entry.new.self _ c.remove_at-entry.ensures.others)));
      list = (rw (put-own c.self.inside.buckets c.args.place.bucket l c.remove_at-entry.new.self _ c.remove_at-entry.ensures.others) (taken-list c.args.place bs _ c.args.self.now c.self.view_is b l lk (shelf_of c.remove_at-entry.new.self c.args.place.bucket) (put-is c.self.inside.buckets c.args.place.bucket l c.remove_at-entry.new.self _ c.remove_at-entry.ensures.others)));
      others = (rw (put-own c.self.inside.buckets c.args.place.bucket l c.remove_at-entry.new.self _ c.remove_at-entry.ensures.others) (removed-exactly (λ e. g.H.Hashes.hash_of c.self.inside.router.hasher (g.E.Keyed.key_of e)) t.router.skipped t.length t.overflowing c.args.place bs c.self.invariant.table _ c.args.self.now c.self.view_is b l (shelf-at c.self.inside.buckets c.args.place.bucket l) lk (shelf_of c.remove_at-entry.new.self c.args.place.bucket) (put-is c.self.inside.buckets c.args.place.bucket l c.remove_at-entry.new.self _ c.remove_at-entry.ensures.others)));
      noted = (refused-view _ _ _ refl ∙ sym (refused-view c.self.inside.buckets _ c.args.self.now c.self.view_is));
      listed = (rw (list-view bs _ c.args.self.now c.self.view_is c.args.place.bucket b l (shelf-at c.self.inside.buckets c.args.place.bucket l)) c.remove_at-entry.ensures.entry);
      gone = (
          let others = removed-exactly (λ e. g.H.Hashes.hash_of c.self.inside.router.hasher (g.E.Keyed.key_of e)) c.self.inside.router.skipped c.self.inside.length c.self.inside.overflowing c.args.place bs c.self.invariant.table _ c.args.self.now c.self.view_is b l (shelf-at c.self.inside.buckets c.args.place.bucket l) lk (shelf_of c.remove_at-entry.new.self c.args.place.bucket) (put-is c.self.inside.buckets c.args.place.bucket l c.remove_at-entry.new.self _ c.remove_at-entry.ensures.others) in
          rw (put-own c.self.inside.buckets c.args.place.bucket l c.remove_at-entry.new.self _ c.remove_at-entry.ensures.others) (rw others.exact (gone g.met.E.Key.Eq.laws g.E.Keyed.key_of (entries c.args.self.now) _ c.remove_at-entry.result got (rw (entries-view bs _ c.args.self.now c.self.view_is) c.self.invariant.unique))));
      short = (rw (put-own c.self.inside.buckets c.args.place.bucket l c.remove_at-entry.new.self _ c.remove_at-entry.ensures.others) (λ bounded. removed-short bs _ c.args.self.now c.self.view_is c.args.place.bucket b l (shelf-at c.self.inside.buckets c.args.place.bucket l) bounded (shelf_of c.remove_at-entry.new.self c.args.place.bucket) c.args.place.slot lk (put-is c.self.inside.buckets c.args.place.bucket l c.remove_at-entry.new.self _ c.remove_at-entry.ensures.others) (c.self.invariant.table.own c.args.place.bucket b l (shelf-at c.self.inside.buckets c.args.place.bucket l)).within));
      lists = (
          let here = list-view bs _ c.args.self.now c.self.view_is c.args.place.bucket b l (shelf-at c.self.inside.buckets c.args.place.bucket l) in
          rw (put-own c.self.inside.buckets c.args.place.bucket l c.remove_at-entry.new.self _ c.remove_at-entry.ensures.others) (λ bounded. removed-list bs _ c.args.self.now c.self.view_is c.args.place.bucket b l (shelf-at c.self.inside.buckets c.args.place.bucket l) bounded (shelf_of c.remove_at-entry.new.self c.args.place.bucket) c.args.place.slot lk (put-is c.self.inside.buckets c.args.place.bucket l c.remove_at-entry.new.self _ c.remove_at-entry.ensures.others)));
      exact = (rw (put-own c.self.inside.buckets c.args.place.bucket l c.remove_at-entry.new.self _ c.remove_at-entry.ensures.others) (taken-from-list bs _ c.args.self.now c.self.view_is c.args.place.bucket b l (shelf-at c.self.inside.buckets c.args.place.bucket l) (shelf_of c.remove_at-entry.new.self c.args.place.bucket) c.args.place.slot lk (put-is c.self.inside.buckets c.args.place.bucket l c.remove_at-entry.new.self _ c.remove_at-entry.ensures.others)));
      unique = (rw (put-own c.self.inside.buckets c.args.place.bucket l c.remove_at-entry.new.self _ c.remove_at-entry.ensures.others) (removed-unique (λ e. g.H.Hashes.hash_of c.self.inside.router.hasher (g.E.Keyed.key_of e)) t.router.skipped t.length t.overflowing c.args.place bs c.self.invariant.table _ c.args.self.now c.self.view_is b l (shelf-at c.self.inside.buckets c.args.place.bucket l) lk (shelf_of c.remove_at-entry.new.self c.args.place.bucket) (put-is c.self.inside.buckets c.args.place.bucket l c.remove_at-entry.new.self _ c.remove_at-entry.ensures.others) g.met.E.Key.Eq.laws g.E.Keyed.key_of c.remove_at-entry.result got c.self.invariant.unique));
    }
