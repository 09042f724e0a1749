-- Waiting buckets of contents whose entries are mapped by a function.
use Rattle.std.proofs.Common.{◌≡◌, ◌∙◌, ℕ, zero, suc, List, [], ◌∷◌, length, map, refl, sym, ap}
use Rattle.std.specs.List.{filter, range_with_len, slice_index_or}
use Rattle.std.proofs.lemmas.List.{length-map}
use Rattle.scc_common.specs.Contents.{Contents, owed_of, list_of, waiting_of}
use Rattle.scc_common.specs.Mapped.{mapped}
use Rattle.scc_buckets.proofs.Mapped.{bucket_count-mapped, length-mapped, pending_of-mapped, settings_of-mapped}
use Rattle.scc_table.specs.Relocates.{AreMovedFrom, AreShort, IsBelowMinimum, IsShrinkDue, Spreads}
use Rattle.scc_table.specs.Relocations.{Relocates, RelocatesNone, RelocatesTwo}
use Rattle.scc_table.specs.TwoArrays.{pending_targets, waits_at}

lengths-map : {E F : Type 0} (f : E → F) (ls : List (List E)) (i : ℕ) → length (slice_index_or (map (λ l. map f l) ls) i []) ≡ length (slice_index_or ls i [])
lengths-map f [] i = refl
lengths-map f (l ∷ ls) zero = length-map l f
lengths-map f (l ∷ ls) (suc i) = lengths-map f ls i

module _ {E F S : Type 0} (f : E → F) where
  pub waiting_of-mapped : (c : Contents E S) → waiting_of (mapped f c) ≡ waiting_of c
  unfolding mapped waiting_of
  waiting_of-mapped c = refl

  owed_of-mapped : (c : Contents E S) → owed_of (mapped f c) ≡ owed_of c
  unfolding mapped owed_of
  owed_of-mapped c = refl

  length-list-mapped : (c : Contents E S) (i : ℕ) → length (list_of (mapped f c) i) ≡ length (list_of c i)
  unfolding mapped list_of
  length-list-mapped c i = lengths-map f c.lists i

  AreShort-from_mapped : (c : Contents E S) → AreShort (mapped f c) → AreShort c
  AreShort-from_mapped c h = record { short = λ i w. let l = h.short i (rw (waiting_of-mapped c) w) in rw (length-list-mapped c i) at l }

  targets-mapped : (c : Contents E S) → pending_targets (mapped f c) ≡ pending_targets c
  targets-mapped c = ap (λ ws. filter (waits_at ws) (range_with_len 0 (length ws))) (waiting_of-mapped c)

  AreMovedFrom-mapped : (ts : List ℕ) (n : ℕ) (c : Contents E S) → AreMovedFrom ts n c → AreMovedFrom ts n (mapped f c)
  AreMovedFrom-mapped ts n c h = record {
    kept = h.kept;
    left = targets-mapped c ∙ h.left;
    long = λ k i l. rw (length-list-mapped c (slice_index_or h.kept k i)) (h.long k i l);
  }

  pub Relocates-mapped : (c d : Contents E S) → Relocates c d → Relocates (mapped f c) (mapped f d)
  Relocates-mapped c d h = record {
    fewer = rw (bucket_count-mapped f c, bucket_count-mapped f d, waiting_of-mapped c, waiting_of-mapped d) h.fewer;
    less = rw (bucket_count-mapped f c, bucket_count-mapped f d, pending_of-mapped f c, pending_of-mapped f d) h.less;
    most = rw (bucket_count-mapped f c, bucket_count-mapped f d, pending_of-mapped f c, pending_of-mapped f d) h.most;
    grown = rw (bucket_count-mapped f c, bucket_count-mapped f d, pending_of-mapped f d) h.grown;
    array = rw (bucket_count-mapped f c, pending_of-mapped f d) h.array;
  }

  pub RelocatesTwo-mapped : (hash : ℕ) (c d : Contents E S) → RelocatesTwo hash c d → RelocatesTwo hash (mapped f c) (mapped f d)
  RelocatesTwo-mapped hash c d h = record {
    not_waiting = rw (waiting_of-mapped d, settings_of-mapped f c, bucket_count-mapped f d) h.not_waiting;
    exact = λ a z short.
        let e = h.exact (rw (bucket_count-mapped f c) at a) (rw (bucket_count-mapped f c, bucket_count-mapped f d) at z) (AreShort-from_mapped c short) in
        rw (waiting_of-mapped c, waiting_of-mapped d, settings_of-mapped f c, bucket_count-mapped f c) e;
    moved = λ a z.
        let m = h.moved (rw (bucket_count-mapped f c) at a) (rw (bucket_count-mapped f c, bucket_count-mapped f d) at z) in
        rw (waiting_of-mapped c, settings_of-mapped f c, bucket_count-mapped f c) (AreMovedFrom-mapped _ _ d m);
    drained = λ a ne.
        let m = h.drained (rw (bucket_count-mapped f c) at a) (λ e. ne (bucket_count-mapped f d ∙ e ∙ sym (bucket_count-mapped f c))) in
        rw (settings_of-mapped f c, bucket_count-mapped f d) (AreMovedFrom-mapped _ _ d m);
  }

  pub RelocatesNone-mapped : (c d : Contents E S) → RelocatesNone c d → RelocatesNone (mapped f c) (mapped f d)
  RelocatesNone-mapped c d h = record {
    all = rw (bucket_count-mapped f c, bucket_count-mapped f d, pending_of-mapped f d) h.all;
    fewer = λ e i w. rw (waiting_of-mapped c) (h.fewer (rw (bucket_count-mapped f c, bucket_count-mapped f d) at e) i (rw (waiting_of-mapped d) at w));
    less = rw (bucket_count-mapped f c, bucket_count-mapped f d, pending_of-mapped f c, pending_of-mapped f d) h.less;
    waiting = λ none. rw (waiting_of-mapped c, waiting_of-mapped d) (h.waiting (λ n s. none n (rw (settings_of-mapped f c, length-mapped f d, bucket_count-mapped f c) s)));
  }

  IsBelowMinimum-mapped : (minimum : ℕ) (c : Contents E S) → IsBelowMinimum minimum c → IsBelowMinimum minimum (mapped f c)
  IsBelowMinimum-mapped minimum c h = record { array = rw (bucket_count-mapped f c) h.array; fewer = rw (bucket_count-mapped f c) h.fewer }

  IsShrinkDue-mapped : (minimum : ℕ) (c : Contents E S) → IsShrinkDue minimum c → IsShrinkDue minimum (mapped f c)
  IsShrinkDue-mapped minimum c h = record { buckets = h.buckets; smaller = rw (length-mapped f c, bucket_count-mapped f c) h.smaller }

  Spreads-mapped : (due here : Type 0) (c d : Contents E S) → (due → here) → Spreads due c d → Spreads here (mapped f c) (mapped f d)
  Spreads-mapped due here c d turn h = record {
    all = rw (bucket_count-mapped f c, bucket_count-mapped f d, pending_of-mapped f d) h.all;
    fewer = rw (bucket_count-mapped f c, bucket_count-mapped f d, waiting_of-mapped c, waiting_of-mapped d) h.fewer;
    less = rw (bucket_count-mapped f c, bucket_count-mapped f d, pending_of-mapped f c, pending_of-mapped f d) h.less;
    waiting = λ no. rw (waiting_of-mapped c, waiting_of-mapped d) (h.waiting (λ is. no (turn is)));
    owed = λ no. rw (owed_of-mapped c, owed_of-mapped d) (h.owed (λ is. no (turn is)));
  }

  pub grown-mapped : (minimum : ℕ) (c d : Contents E S) → Spreads (IsBelowMinimum minimum c) c d → Spreads (IsBelowMinimum minimum (mapped f c)) (mapped f c) (mapped f d)
  grown-mapped minimum c d h = Spreads-mapped (IsBelowMinimum minimum c) (IsBelowMinimum minimum (mapped f c)) c d (IsBelowMinimum-mapped minimum c) h

  pub shrunk-mapped : (minimum : ℕ) (c d : Contents E S) → Spreads (IsShrinkDue minimum c) c d → Spreads (IsShrinkDue minimum (mapped f c)) (mapped f c) (mapped f d)
  shrunk-mapped minimum c d h = Spreads-mapped (IsShrinkDue minimum c) (IsShrinkDue minimum (mapped f c)) c d (IsShrinkDue-mapped minimum c) h
