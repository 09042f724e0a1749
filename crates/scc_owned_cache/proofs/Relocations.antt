-- Which buckets wait after a write, after a removal, and after a shrink that was tried.
use Rattle.std.proofs.Common.{◌≡◌, ◌≢◌, ◌==◌, ℕ, ◌+◌, ◌<◌, ◌≤◌, inl, inr, Bool, Option, None, Some, true, false, not, [], length, replicate, refl, sym, ap, ◌∙◌, subst, arith}
use Rattle.std.specs.Prelude.{OnSome, MatchOption}
use Rattle.std.specs.List.{count_by, filter, position, range_with_len}
use Rattle.scc_buckets.specs.Bounded.{MayShrinkWithin, ShrinksBounded, stays_wide, denied_narrow, narrows}
use Rattle.scc_common.specs.Contents.{Contents, Settings, entries, bucket_count, lists_of, pending_of, notes_of, settings_of, waiting_of}
use Rattle.scc_common.specs.Routing.{bucket_number}
use Rattle.scc_common.specs.Sizes.{IsLawful}
use Rattle.scc_buckets.specs.Writes as writes
use Rattle.scc_buckets.specs.declared.place.Place.{Place}
use Rattle.scc_buckets.proofs.Bounds.{keeps-count, keeps-entries}
use Rattle.scc_table.specs.Relocates.{Spreads, left_after}
use Rattle.scc_table.specs.TwoArrays.{pending_targets, waits_at}
use Rattle.scc_table.proofs.relocations.OneByOne.{pending-is}
use Rattle.scc_table.proofs.insertions.Places.{none-left}
use Rattle.scc_table.proofs.resizes.Installation.{count-up}
use Rattle.scc_table.proofs.arrays.SameParts.{count-same, pending-same}
use Rattle.scc_table.proofs.relocations.Targets.{targets-all, targets-length, targets-same, targets-without}
use Rattle.scc_owned_cache.specs.CacheSteps.{ChangesLists, IsLacking, IsLastAt, list_number}
use Rattle.scc_owned_cache.specs.Caches.{Cached}
use Rattle.scc_owned_cache.specs.Lends.{with_key_at, with_value_at}
use Rattle.scc_owned_cache.specs.ListSteps.{Refreshes}
use Rattle.scc_owned_cache.specs.Relocations.{RelocatesNoneWithin, RelocatesOne, RelocatesTwoWithin}

module _ {K V S : Type 0} (c : Cached (K × V) S) (p : Place) where
  -- a write leaves the waiting buckets as they are
  pub waiting-written : (v : V) → waiting_of (with_value_at c p v).contents ≡ waiting_of c.contents
  unfolding writes.with_write_at_spot waiting_of
  waiting-written v = refl

  pub waiting-keyed : (k : K) → waiting_of (with_key_at c p k).contents ≡ waiting_of c.contents
  unfolding writes.with_write_at_spot waiting_of
  waiting-keyed k = refl

module _ {E S : Type 0} (hash : E → ℕ) where
  -- if d has the entries, the settings and the number of buckets of b, and b may shrink to n, d may shrink to n
  narrow-same : (b d : Contents E S) (n : ℕ) → entries d ≡ entries b → settings_of d ≡ settings_of b → bucket_count d ≡ bucket_count b → MayShrinkWithin hash b n → MayShrinkWithin hash d n
  narrow-same b d n all settings count m = record {
    array = m.array;
    smaller = rw (ap (λ s. s.asked + s.reserved) settings, all, count) m.smaller;
    short = rw (settings, all) m.short;
  }

  -- a change without a resize that kept the array and the waiting buckets relocates no bucket
  pub kept-none : (a b : Contents E S) → bucket_count b ≡ bucket_count a → waiting_of b ≡ waiting_of a → RelocatesNoneWithin hash a b
  kept-none a b count waiting = record { all = λ ne. absurd (ne count); less = λ e. omega (arith, pending-same a b waiting); waiting = λ e undue. waiting }

  pub none-after : (a b d : Contents E S) → bucket_count b ≡ bucket_count a → waiting_of b ≡ waiting_of a → RelocatesNoneWithin hash b d → RelocatesNoneWithin hash a d
  none-after a b d count waiting r = record {
    all = λ ne. r.all (λ e. ne (e ∙ count));
    less = λ e. let z = r.less (e ∙ sym count) in omega (arith, pending-same a b waiting);
    waiting = λ e undue. r.waiting (e ∙ sym count) undue ∙ waiting;
  }

  -- a change that kept the array and the waiting buckets relocates no bucket, if a shrink was tried after the change
  pub shrunk-none : (a b d : Contents E S) → bucket_count b ≡ bucket_count a → waiting_of b ≡ waiting_of a → ShrinksBounded hash b d → Spreads ((n : ℕ) × MayShrinkWithin hash b n) b d → RelocatesNoneWithin hash a d
  shrunk-none a b d count waiting shrinks s = record {
    all = λ ne. s.all (λ e. ne (e ∙ count));
    less = λ e. let z = s.less (e ∙ sym count) in omega (arith, pending-same a b waiting);
    waiting = λ e undue. waits shrinks (λ m. s.waiting m ∙ waiting) (e ∙ sym count) undue;
  }
    where
      waits : ShrinksBounded hash b d → ((((n : ℕ) × MayShrinkWithin hash b n) → ⊥) → waiting_of d ≡ waiting_of a) → bucket_count d ≡ bucket_count b → ((n : ℕ) → MayShrinkWithin hash d n → ⊥) → waiting_of d ≡ waiting_of a
      waits (stays_wide none e) f same undue = f (λ m. none m.0 m.1)
      waits (denied_narrow n small up marked keeps) f same undue = f (λ m. undue m.0 (narrow-same b d m.0 (keeps-entries b d keeps) keeps.settings (keeps-count b d keeps) m.1))
      waits (narrows small least down marked moved) f same undue = absurd (let z = small.fewer in omega arith)

module _ {E S : Type 0} (h : ℕ) where
  -- a get in a bucket that doesn't wait leaves the waiting buckets as they are
  pub not_waiting-one : (c d : Contents E S) → waiting_of d ≡ waiting_of c → waits_at (waiting_of c) (bucket_number (settings_of c).skipped (bucket_count c) h) ≡ false → RelocatesOne h c d
  not_waiting-one c d same down =
      let i = bucket_number (settings_of c).skipped (bucket_count c) h in
      record { not_waiting = ap (λ w. waits_at w i) same ∙ down; targets = targets-same c d same ∙ sym (targets-without i c down) }

  -- a write after the get leaves the waiting buckets as they are
  pub written-one : (c d w : Contents E S) → RelocatesOne h c d → waiting_of w ≡ waiting_of d → RelocatesOne h c w
  written-one c d w r same = record { not_waiting = ap (λ x. waits_at x (bucket_number (settings_of c).skipped (bucket_count c) h)) same ∙ r.not_waiting; targets = targets-same d w same ∙ r.targets }

  -- after a get in a bucket that was relocated first, this bucket doesn't wait, and the other waiting buckets still do
  pub relocated-one : (c b d : Contents E S) (i : ℕ) → i ≡ bucket_number (settings_of c).skipped (bucket_count c) h → pending_targets b ≡ filter (λ t. not (t == i)) (pending_targets c) → waits_at (waiting_of b) i ≡ false → waiting_of d ≡ waiting_of b → RelocatesOne h c d
  relocated-one c b d i at targets down same = record {
    not_waiting = ap (λ j. waits_at (waiting_of d) j) (sym at) ∙ ap (λ w. waits_at w i) same ∙ down;
    targets = targets-same b d same ∙ targets ∙ ap (λ j. filter (λ t. not (t == j)) (pending_targets c)) at;
  }

-- the waiting buckets after a put: m is the cache after the growth, if one was due, and i is the bucket of the key
module _ {E S : Type 0} (hash i : ℕ) (c m d : Contents E S) (at : i ≡ bucket_number (settings_of c).skipped (bucket_count m) hash) (count : bucket_count d ≡ bucket_count m) (some : i < bucket_count m) (lawful : IsLawful (bucket_count m)) where
  pub put-relocates : (bucket_count c ≡ 0 → waiting_of m ≡ []) → (0 < bucket_count c → bucket_count m ≡ bucket_count c → waiting_of m ≡ waiting_of c) → (0 < bucket_count c → bucket_count m ≢ bucket_count c → waiting_of m ≡ replicate (bucket_count m) true)
      → waits_at (waiting_of d) i ≡ false → pending_targets d ≡ left_after i (pending_targets m) → (2 ≤ pending_of m → pending_of d + 2 ≡ pending_of m) → RelocatesTwoWithin hash c d
  put-relocates first waiting all not_waiting exact two = record {
    not_waiting = ap (waits_at (waiting_of d)) (sym (at ∙ ap (λ n. bucket_number (settings_of c).skipped n hash) (sym count))) ∙ not_waiting;
    exact = λ one same.
        let stay : bucket_count m ≡ bucket_count c = sym count ∙ same in
        exact ∙ ap (left_after i) (targets-same c m (waiting one stay)) ∙ ap (λ j. left_after j (pending_targets c)) (at ∙ ap (λ n. bucket_number (settings_of c).skipped n hash) stay);
    grown = λ one other.
        let pending = pending-is m ∙ ap (count_by (λ w. w)) (all one (λ e. other (count ∙ e))) ∙ count-up (bucket_count m) in
        let least : 2 ≤ bucket_count m = elim lawful [ inl z ↦ absurd (omega arith) | inr z ↦ z.least ] in
        let both = two (omega arith) in
        omega arith;
    spread = λ one other.
        let every = targets-all (bucket_count m) m (all one (λ e. other (count ∙ e))) in
        exact ∙ ap (left_after i) (every ∙ ap (range_with_len 0) (sym count)) ∙ ap (λ j. left_after j (range_with_len 0 (bucket_count d))) (at ∙ ap (λ n. bucket_number (settings_of c).skipped n hash) (sym count));
    first = λ zero.
        let none : pending_of m ≡ 0 = pending-is m ∙ ap (count_by (λ w. w)) (first zero) in
        let same : pending_targets d ≡ pending_targets m = exact ∙ sym (none-left i m (pending_targets m) none refl) in
        let l = ap length same in
        omega (arith, targets-length d, targets-length m);
  }

pub any-some : {X P : Type 0} (o : Option X) → P → OnSome o P
any-some None p = tt
any-some (Some x) p = p

-- the result of a get in a bucket that was relocated first: a is the cache before the relocation, b the cache after it
module _ {K V S : Type 0} (hash : Settings S → K → ℕ) (eq : K → K → Bool) (a b d : Cached (K × V) S) (k : K) (lists : lists_of b.contents ≡ lists_of a.contents) (settings : settings_of b.contents ≡ settings_of a.contents) (refused : notes_of b.contents ≡ notes_of a.contents) (maximum : b.maximum ≡ a.maximum) where
  changes-from : (p : K × V) → ChangesLists (Refreshes (list_number (hash (settings_of b.contents)) b.contents) eq k p) b d → ChangesLists (Refreshes (list_number (hash (settings_of a.contents)) a.contents) eq k p) a d
  changes-from p c = record {
    lists =
        subst (λ s. Refreshes (λ n j. bucket_number s.skipped n (hash s j)) eq k p (lists_of a.contents) (lists_of d.contents)) settings
        (subst (λ ls. Refreshes (λ n j. bucket_number (settings_of b.contents).skipped n (hash (settings_of b.contents) j)) eq k p ls (lists_of d.contents)) lists c.lists);
    settings = c.settings ∙ settings;
    refused = c.refused ∙ refused;
    maximum = c.maximum ∙ maximum;
  }

  pub refreshed-from : (position (λ p. eq k p.0) (entries b.contents) ≡ None → ⊥) → (o : Option Place) → MatchOption o (IsLacking (hash (settings_of b.contents)) eq b.contents k × (d ≡ b)) (IsLastAt (hash (settings_of b.contents)) eq b k d)
      → MatchOption o (IsLacking (hash (settings_of a.contents)) eq a.contents k × (d ≡ a)) (IsLastAt (hash (settings_of a.contents)) eq a k d)
  refreshed-from there None h = absurd (there h.0.all)
  refreshed-from there (Some place) h = record {
    within = h.within;
    pair = h.pair;
    here = h.here;
    changes = changes-from h.pair h.changes;
    bucket = h.bucket ∙ ap (λ s. bucket_number s.skipped (bucket_count b.contents) (hash s k)) settings ∙ ap (λ n. bucket_number (settings_of a.contents).skipped n (hash (settings_of a.contents) k)) (count-same a.contents b.contents lists);
    last = h.last;
  }
