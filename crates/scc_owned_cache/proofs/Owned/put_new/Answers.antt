use Rattle.std.proofs.Common.{◌∙◌, ℕ, ◌≤◌, ◌<◌, ◌*◌, Bool, refl, sym, ap, subst, arith}
use Rattle.std.specs.List.{position}
use Rattle.std.specs.List.Sorted.{IsPermutation}
use Rattle.scc_buckets.specs.Bounded.{IsListed}
use Rattle.scc_table.specs.Bounded.{GrowsBelow}
use Rattle.scc_table.specs.Relocates.{left_after}
use Rattle.scc_table.proofs.arrays.SameParts.{count-same, entries-same, pending-same}
use Rattle.scc_table.proofs.relocations.Targets.{targets-same}
use Rattle.scc_common.specs.Contents.{entries, bucket_count, lists_of, pending_of, settings_of}
use Rattle.scc_common.specs.Hashing.{hash_of}
use Rattle.scc_common.specs.Routing.{bucket_number}
use Rattle.scc_buckets.proofs.Resizes.{absent-permuted, rests-resizes}
use Rattle.scc_owned_cache.proofs.Caching.{at-spot, grown-within, missing-grown, once-grown, put-place, puts-count, puts-pair, puts-refused, state-after}
use Rattle.scc_owned_cache.specs.Caches.{Cached, IsCacheState}
use Rattle.scc_owned_cache.specs.ListSteps.{PutsPair}
use Rattle.scc_owned_cache.proofs.Kept.{evicts}
use Rattle.scc_owned_cache.proofs.LookUps.{finds-put}
use Rattle.scc_owned_cache.proofs.Relocations.{put-relocates}
use Rattle.scc_owned_cache.proofs.Owned.put_new.Goals as goal

pub put_within-evicted-requires-clause-new : goal.put_within-evicted-requires-clause-new
put_within-evicted-requires-clause-new g c =
    let m = c.bucket_for_new.new.self in
    let u = c.drop_mark.new.self in
    let r = c.drop_mark.ensures in
    let n = count-same m u r.lists in
    let hashed = rw (← c.self.view_is) at c.requires.hashed in
    let lacking = rw (← c.self.view_is) at c.requires.lacking in
    rw c.new.ensures (record {
      within = omega (arith, c.in-Ok.ensures.finds.within, n);
      routed = c.in-Ok.ensures.finds.routed ∙ ap (λ s. bucket_number s.skipped (bucket_count m) c.args.hash) (sym r.settings) ∙ ap (λ k. bucket_number (settings_of u).skipped k c.args.hash) (sym n);
      hashed = hashed ∙ ap (λ s. hash_of g.H.BuildHasher g.H.Hasher.Hasher s.hasher (g.K.Hash.hash_input c.args.k)) (sym (r.settings ∙ (rests-resizes c.self.inside.table c.bucket_for_new.new.self c.bucket_for_new.ensures.finds.rests).settings));
      absent =
          ap (position (λ (e : g.row.K.Denot × g.row.V.Denot). g.K.PartialEq.eq c.args.k e.0)) (entries-same m u r.lists)
          ∙ absent-permuted (λ e. g.K.PartialEq.eq c.args.k e.0) (entries c.self.inside.table) (entries m) (rests-resizes c.self.inside.table c.bucket_for_new.new.self c.bucket_for_new.ensures.finds.rests).same lacking.all;
    })

pub invariant_of-self : goal.invariant_of-self
invariant_of-self g c =
    let h = c.self.invariant in
    let m = c.bucket_for_new.new.self in
    let u = c.drop_mark.new.self in
    let n = count-same m u c.drop_mark.ensures.lists in
    let put = puts-count u c.put_within-evicted.new.self _ _ c.put_within-evicted.result.0 c.put_within-evicted.ensures.step in
    let within = grown-within _ c.self.inside.table m c.self.inside.maximum _ (c.in-Ok.ensures.grows c.self.invariant.lists) h.power h.least h.within h.minimum in
    state-after g.K.PartialEq.eq _ _ c.self.inside.table c.put_within-evicted.new.self c.self.inside.maximum h c.put_within-evicted.ensures.listed c.put_within-evicted.ensures.unique (put.1 ∙ c.drop_mark.ensures.settings ∙ (rests-resizes c.self.inside.table c.bucket_for_new.new.self c.bucket_for_new.ensures.finds.rests).settings) (subst (λ n. 32 * n ≤ c.self.inside.maximum) (sym (put.0 ∙ n)) within)

pub returns-in-Ok-clause-step : goal.returns-in-Ok-clause-step
returns-in-Ok-clause-step g c =
    let t = c.self.inside.table in
    let m = c.bucket_for_new.new.self in
    let u = c.drop_mark.new.self in
    let d = c.put_within-evicted.new.self in
    let r = c.drop_mark.ensures in
    let f : g.row.K.Denot → ℕ = (λ k. hash_of g.H.BuildHasher g.H.Hasher.Hasher (settings_of t).hasher (g.K.Hash.hash_input k)) in
    let number : ℕ → g.row.K.Denot → ℕ = λ n k. bucket_number (settings_of t).skipped n (f k) in
    let hashed = rw (← c.self.view_is) at c.requires.hashed in
    let lacking = rw (← c.self.view_is) at c.requires.lacking in
    let grows = subst (λ h. GrowsBelow (λ e. f e.0) c.self.inside.maximum (bucket_number (settings_of t).skipped (bucket_count t) h) t m) hashed (c.in-Ok.ensures.grows c.self.invariant.lists) in
    let listed = subst (λ s. IsListed (λ e. hash_of g.H.BuildHasher g.H.Hasher.Hasher s.hasher (g.K.Hash.hash_input e.0)) m) (rests-resizes c.self.inside.table c.bucket_for_new.new.self c.bucket_for_new.ensures.finds.rests).settings (c.bucket_for_new.ensures.listed c.self.invariant.lists) in
    let gone = ap (position (λ (e : g.row.K.Denot × g.row.V.Denot). g.K.PartialEq.eq c.args.k e.0)) (entries-same m u r.lists) ∙ absent-permuted (λ e. g.K.PartialEq.eq c.args.k e.0) (entries t) (entries m) (rests-resizes c.self.inside.table c.bucket_for_new.new.self c.bucket_for_new.ensures.finds.rests).same lacking.all in
    let later = missing-grown g.K.PartialEq.eq number u c.args.k gone in
    let same = count-same m u r.lists in
    let routed = c.in-Ok.ensures.finds.routed ∙ ap (λ s. bucket_number s.skipped (bucket_count m) c.args.hash) (rests-resizes c.self.inside.table c.bucket_for_new.new.self c.bucket_for_new.ensures.finds.rests).settings ∙ ap (bucket_number (settings_of t).skipped (bucket_count m)) hashed ∙ ap (λ n. number n c.args.k) (sym same) in
    let put = puts-count u d _ _ c.put_within-evicted.result.0 c.put_within-evicted.ensures.step in
    rw (c.pair_out.ensures.same, ← c.self.view_is) (
      record { contents = m; maximum = c.self.inside.maximum },
      record { grows = grows; listed = listed; settings = (rests-resizes c.self.inside.table c.bucket_for_new.new.self c.bucket_for_new.ensures.finds.rests).settings; maximum = refl },
      record {
        lists = subst (λ ls. PutsPair number g.K.PartialEq.eq (c.args.k, c.args.v) c.put_within-evicted.result.0 ls (lists_of d)) r.lists (puts-pair g.K.PartialEq.eq number u d _ (c.args.k, c.args.v) c.put_within-evicted.result.0 later routed (omega (arith, c.in-Ok.ensures.finds.within, same)) (rw c.new.ensures at c.put_within-evicted.ensures.step));
        settings = put.1 ∙ r.settings;
        refused = puts-refused g.K.PartialEq.eq u d _ _ c.put_within-evicted.result.0 c.put_within-evicted.ensures.step ∙ r.noted;
        maximum = refl;
      },
    )

pub returns-in-Ok-clause-here : goal.returns-in-Ok-clause-here
returns-in-Ok-clause-here g c =
    let u = c.drop_mark.new.self in
    let n = count-same c.bucket_for_new.new.self u c.drop_mark.ensures.lists in
    let l : c.in-Ok.bucket < bucket_count u = omega (arith, c.in-Ok.ensures.finds.within) in
    at-spot c.put_within-evicted.new.self (record { bucket = c.in-Ok.bucket; slot = c.put_within-evicted.result.1 }) (c.args.k, c.args.v)
    (put-place u c.put_within-evicted.new.self c.in-Ok.bucket (c.args.k, c.args.v) c.put_within-evicted.result.0 (rw c.new.ensures at c.put_within-evicted.ensures.step) l c.put_within-evicted.result.1 c.put_within-evicted.ensures.slot) c.put_within-evicted.ensures.not_waiting

pub returns-in-Ok-clause-state : goal.returns-in-Ok-clause-state
returns-in-Ok-clause-state g c =
    let h = c.self.invariant in
    let m = c.bucket_for_new.new.self in
    let u = c.drop_mark.new.self in
    let n = count-same m u c.drop_mark.ensures.lists in
    let put = puts-count u c.put_within-evicted.new.self _ _ c.put_within-evicted.result.0 c.put_within-evicted.ensures.step in
    let within = grown-within _ c.self.inside.table m c.self.inside.maximum _ (c.in-Ok.ensures.grows c.self.invariant.lists) h.power h.least h.within h.minimum in
    state-after g.K.PartialEq.eq _ _ c.self.inside.table c.put_within-evicted.new.self c.self.inside.maximum h c.put_within-evicted.ensures.listed c.put_within-evicted.ensures.unique (put.1 ∙ c.drop_mark.ensures.settings ∙ (rests-resizes c.self.inside.table c.bucket_for_new.new.self c.bucket_for_new.ensures.finds.rests).settings) (subst (λ n. 32 * n ≤ c.self.inside.maximum) (sym (put.0 ∙ n)) within)

pub returns-in-Ok-clause-relocates : goal.returns-in-Ok-clause-relocates
returns-in-Ok-clause-relocates g c =
    let t = c.self.inside.table in
    let m = c.bucket_for_new.new.self in
    let u = c.drop_mark.new.self in
    let d = c.put_within-evicted.new.self in
    let w = c.bucket_for_new.ensures.finds in
    let listed = c.bucket_for_new.ensures.listed c.self.invariant.lists in
    let settings = (rests-resizes c.self.inside.table c.bucket_for_new.new.self c.bucket_for_new.ensures.finds.rests).settings in
    let x = c.put_within-evicted.ensures in
    let hashed = rw (← c.self.view_is) at c.requires.hashed in
    let routed = c.in-Ok.ensures.finds.routed ∙ ap (λ s. bucket_number s.skipped (bucket_count m) c.args.hash) settings ∙ ap (bucket_number (settings_of t).skipped (bucket_count m)) hashed in
    let put = puts-count u d _ _ c.put_within-evicted.result.0 x.step in
    let same = count-same m u c.drop_mark.ensures.lists in
    let pending = pending-same m u c.drop_mark.ensures.waiting in
    let targets = targets-same m u c.drop_mark.ensures.waiting in
    rw (← c.self.view_is) (put-relocates _ c.in-Ok.bucket t m d routed (put.0 ∙ same) c.in-Ok.ensures.finds.within listed.lawful w.not_waiting w.waiting w.all x.not_waiting (x.exact ∙ ap (left_after c.in-Ok.bucket) targets) (λ two. let z : 2 ≤ pending_of u = omega arith in x.count z ∙ pending))

pub returns-in-Ok-clause-once : goal.returns-in-Ok-clause-once
returns-in-Ok-clause-once g c =
    let t = c.self.inside.table in
    let m = c.bucket_for_new.new.self in
    let u = c.drop_mark.new.self in
    let d = c.put_within-evicted.new.self in
    let f : g.row.K.Denot → ℕ = (λ k. hash_of g.H.BuildHasher g.H.Hasher.Hasher (settings_of t).hasher (g.K.Hash.hash_input k)) in
    let hashed = rw (← c.self.view_is) at c.requires.hashed in
    let grows = subst (λ h. GrowsBelow (λ e. f e.0) c.self.inside.maximum (bucket_number (settings_of t).skipped (bucket_count t) h) t m) hashed (c.in-Ok.ensures.grows c.self.invariant.lists) in
    let put = puts-count u d _ _ c.put_within-evicted.result.0 c.put_within-evicted.ensures.step in
    let same = count-same m u c.drop_mark.ensures.lists in
    rw (← c.self.view_is) (λ ready. put.0 ∙ same ∙ once-grown _ t m c.self.inside.maximum _ grows ready)

pub returns-in-Ok-clause-unmarked : goal.returns-in-Ok-clause-unmarked
returns-in-Ok-clause-unmarked g c =
    let refused = puts-refused g.K.PartialEq.eq c.drop_mark.new.self c.put_within-evicted.new.self _ _ c.put_within-evicted.result.0 c.put_within-evicted.ensures.step ∙ c.drop_mark.ensures.noted in
    ap (λ (x : Bool × Bool). x.1) refused

pub returns-in-Err-clause-refused : goal.returns-in-Err-clause-refused
returns-in-Err-clause-refused g c =
    rw (← c.self.view_is) (refl, c.in-Err.ensures.finds.none, ap (λ x. let r : Cached _ _ = record { contents = x; maximum = c.self.inside.maximum } in r) c.in-Err.ensures.finds.same)

pub returns-in-Err-clause-state : goal.returns-in-Err-clause-state
returns-in-Err-clause-state g c =
    subst (λ x. IsCacheState g.K.PartialEq.eq (λ k. hash_of g.H.BuildHasher g.H.Hasher.Hasher (settings_of x).hasher (g.K.Hash.hash_input k)) (record { contents = x; maximum = c.self.inside.maximum })) (sym c.in-Err.ensures.finds.same) c.self.invariant

pub returns-in-Err-clause-once : goal.returns-in-Err-clause-once
returns-in-Err-clause-once g c = rw (← c.self.view_is) (λ _. ap bucket_count c.in-Err.ensures.finds.same)

pub returns-in-Ok-clause-finds : goal.returns-in-Ok-clause-finds
returns-in-Ok-clause-finds g c =
    let t = c.self.inside.table in
    let m = c.bucket_for_new.new.self in
    let u = c.drop_mark.new.self in
    let d = c.put_within-evicted.new.self in
    let lists = c.drop_mark.ensures.lists in
    let n = count-same m u lists in
    let perm = subst (λ es. IsPermutation (entries t) es) (sym (entries-same m u lists)) (rests-resizes c.self.inside.table c.bucket_for_new.new.self c.bucket_for_new.ensures.finds.rests).same in
    rw (c.pair_out.ensures.same, ← c.self.view_is) (finds-put g.met.K.Eq.laws t u d c.in-Ok.bucket (c.args.k, c.args.v) c.put_within-evicted.result.0 (omega (arith, c.in-Ok.ensures.finds.within, n)) perm c.self.invariant.unique (rw c.new.ensures at c.put_within-evicted.ensures.step) c.put_within-evicted.ensures.unique)

pub returns-in-Ok-clause-evicted : goal.returns-in-Ok-clause-evicted
returns-in-Ok-clause-evicted g c = evicts g.K.PartialEq.eq g.R.Rule.holds _ _ _ (c.args.k, c.args.v) c.pair_out.result (returns-in-Ok-clause-step g c) c.pair_out.ensures.kept
