use Rattle.std.proofs.Common.{◌∙◌, ℕ, ◌≤◌, ◌*◌, refl, sym, ap, subst}
use Rattle.std.specs.List.{count_by}
use Rattle.scc_buckets.specs.Bounded.{IsListed}
use Rattle.scc_common.specs.Contents.{bucket_count, settings_of}
use Rattle.scc_common.specs.Hashing.{hash_of}
use Rattle.scc_common.specs.Routing.{bucket_number}
use Rattle.scc_table.specs.Bounded.{GrowsBelow, IsPreparedBelow}
use Rattle.scc_table.proofs.relocations.OneByOne.{pending-is}
use Rattle.scc_table.proofs.resizes.Installation.{count-up}
use Rattle.scc_owned_cache.proofs.Caching.{grown-within, missing-made, state-after}
use Rattle.scc_owned_cache.specs.CacheSteps.{IsAbsent}
use Rattle.scc_owned_cache.specs.Caches.{Cached}
use Rattle.scc_owned_cache.proofs.Owned.find_or_make_room.Goals as goal
use Rattle.scc_owned_cache.proofs.Owned.find_or_make_room.Goals.{in-Ok, in-Err}

pub invariant_of-self : goal.invariant_of-self
invariant_of-self g c =
    let h = c.self.invariant in
    let t = c.self.inside.table in
    let d = c.prepare.new.self in
    let m = c.self.inside.maximum in
    let r = c.prepare.ensures in
    let within : 32 * bucket_count d ≤ m = elim c.match-prepare.branch as (λ _. 32 * bucket_count d ≤ m) [
      | in-Ok w ↦ grown-within _ t d m _ (w.in-Ok.ensures.grows c.self.invariant.lists) h.power h.least h.within h.minimum
      | in-Err w ↦ subst (λ z. 32 * bucket_count z ≤ m) (sym w.in-Err.ensures.same) h.within
    ] in
    state-after g.K.PartialEq.eq _ _ t d m h (r.listed h.lists) r.unique r.settings within

pub returns-in-Some-clause-room : goal.returns-in-Some-clause-room
returns-in-Some-clause-room g c =
    let there = c.in-Some.ensures.there in
    record {
      present = (λ p there. (refl, refl));
      ok = (λ absent. absurd (let z = sym absent ∙ there.first in cc));
      err = tt;
      same = tt;
      settings = rw (← c.self.view_is) refl;
      maximum = rw (← c.self.view_is) refl;
    }

pub returns-after-prepare-clause-room : goal.returns-after-prepare-clause-room
returns-after-prepare-clause-room g c =
    let t = c.self.inside.table in
    let d = c.prepare.new.self in
    let m = c.self.inside.maximum in
    let r = c.prepare.ensures in
    let f : g.row.K.Denot → ℕ = (λ k. hash_of g.H.BuildHasher g.H.Hasher.Hasher (settings_of t).hasher (g.K.Hash.hash_input k)) in
    let listed = subst (λ s. IsListed (λ e. hash_of g.H.BuildHasher g.H.Hasher.Hasher s.hasher (g.K.Hash.hash_input e.0)) d) r.settings (r.listed c.self.invariant.lists) in
    record {
      present = (λ p (i, at). absurd (let z = sym c.in-None.ensures.absent ∙ at.first in cc));
      ok = (elim c.match-prepare.branch [
        | in-Ok w ↦ λ absent. rw (w.result-is, ← c.self.view_is) record {
          grows = record {
            grows = subst (λ h. GrowsBelow (λ e. f e.0) m (bucket_number (settings_of t).skipped (bucket_count t) h) t d) c.hash-hash.ensures (w.in-Ok.ensures.grows c.self.invariant.lists);
            listed = listed;
            settings = r.settings;
            maximum = refl;
          };
          ready = subst (λ h. IsPreparedBelow m (bucket_number (settings_of d).skipped (bucket_count d) h) d) c.hash-hash.ensures w.in-Ok.ensures.ready;
          marked = r.marked;
          first = λ none. pending-is d ∙ ap (count_by (λ x. x)) (r.first none);
          waiting = r.waiting;
          all = λ some other. pending-is d ∙ ap (count_by (λ x. x)) (r.all some other) ∙ count-up (bucket_count d);
        }
        | in-Err w ↦ λ absent. rw w.result-is tt
      ]);
      err = (elim c.match-prepare.branch [
        | in-Ok w ↦ rw w.result-is tt
        | in-Err w ↦ rw w.result-is (c.in-None.ensures.absent, rw (← c.self.view_is) w.in-Err.ensures.err)
      ]);
      same = (elim c.match-prepare.branch [
        | in-Ok w ↦ rw w.result-is tt
        | in-Err w ↦ rw (w.result-is, ← c.self.view_is) (ap (λ x. let z : Cached _ _ = record { contents = x; maximum = m } in z) w.in-Err.ensures.same)
      ]);
      settings = rw (← c.self.view_is) c.prepare.ensures.settings;
      maximum = rw (← c.self.view_is) refl;
    }

pub returns-in-Some-clause-found : goal.returns-in-Some-clause-found
returns-in-Some-clause-found g c = c.in-Some.ensures

pub returns-after-prepare-clause-found : goal.returns-after-prepare-clause-found
returns-after-prepare-clause-found g c =
    let t = c.self.inside.table in
    let d = c.prepare.new.self in
    let k = c.args.k.now in
    let f : g.row.K.Denot → ℕ = (λ k. hash_of g.H.BuildHasher g.H.Hasher.Hasher (settings_of t).hasher (g.K.Hash.hash_input k)) in
    elim c.match-prepare.branch [
      | in-Ok w ↦
          let lacking = rw (← c.self.view_is) at c.in-None.ensures.all in
          let missing = missing-made g.K.PartialEq.eq f t d k c.self.inside.maximum _ (w.in-Ok.ensures.grows c.self.invariant.lists) w.in-Ok.ensures.ready.0 lacking in
          rw w.result-is (subst (λ s. IsAbsent (λ k. hash_of g.H.BuildHasher g.H.Hasher.Hasher s.hasher (g.K.Hash.hash_input k)) g.K.PartialEq.eq d k) (sym c.prepare.ensures.settings) missing)
      | in-Err w ↦ rw w.result-is tt
    ]

pub returns-after-prepare-clause-state : goal.returns-after-prepare-clause-state
returns-after-prepare-clause-state g c =
    let h = c.self.invariant in
    let t = c.self.inside.table in
    let d = c.prepare.new.self in
    let m = c.self.inside.maximum in
    let r = c.prepare.ensures in
    let within : 32 * bucket_count d ≤ m = elim c.match-prepare.branch as (λ _. 32 * bucket_count d ≤ m) [
      | in-Ok w ↦ grown-within _ t d m _ (w.in-Ok.ensures.grows c.self.invariant.lists) h.power h.least h.within h.minimum
      | in-Err w ↦ subst (λ z. 32 * bucket_count z ≤ m) (sym w.in-Err.ensures.same) h.within
    ] in
    state-after g.K.PartialEq.eq _ _ t d m h (r.listed h.lists) r.unique r.settings within
