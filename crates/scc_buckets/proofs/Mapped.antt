-- Facts about contents hold of the mapped contents too.
use Rattle.std.proofs.Common.{◌≡◌, ℕ, zero, suc, Bool, ◌==◌, ◌+◌, inl, inr, cond, List, [], ◌∷◌, ◌++◌, length, map, take, refl, sym, ap, ◌∙◌}
use Rattle.std.specs.Prelude.{count_by}
use Rattle.std.specs.List.{flat_map, fold, slice_index_or}
use Rattle.std.proofs.lemmas.List.{length-map, map-append}
use Rattle.std.proofs.lemmas.List.Sorted.{IsPermutation-map}
use Rattle.scc_common.specs.Contents.{Contents, Settings, entries, bucket_count, settings_of, notes_of, pending_of, list_of, HasRoomBy, bucket_of}
use Rattle.scc_common.specs.Mapped.{mapped}
use Rattle.scc_buckets.specs.Places.{IsSpot, index_of_spot}
use Rattle.scc_buckets.specs.Standing.{StandsAtSpot}
use Rattle.scc_buckets.specs.declared.place.Place.{Place}
use Rattle.scc_common.specs.Steps.{Holds, HoldsExactly, HoldsWith, IsUnchanged, KeepsSize, Rests, Grows, Reserves, Releases, FirstArrayWhenDue, GrowsWhenDue, IsBelowMinimumOf, IsGrowthDue, IsShrinkDueFor, ShrinksWhenDue, ReachesMinimumWhenDue}

joined-map : {E F : Type 0} (f : E → F) (ls : List (List E)) → flat_map (λ l. l) (map (λ l. map f l) ls) ≡ map f (flat_map (λ l. l) ls)
joined-map f [] = refl
joined-map f (l ∷ ls) = ap (λ m. map f l ++ m) (joined-map f ls) ∙ sym (map-append f l (flat_map (λ l. l) ls))

fold-map : {A E F : Type 0} (g : A → F → A) (f : E → F) (a : A) (es : List E) → fold g a (map f es) ≡ fold (λ b e. g b (f e)) a es
fold-map g f a [] = refl
fold-map g f a (e ∷ es) = fold-map g f (g a (f e)) es

counted-map : {E F K : Type 0} (f : E → F) (key : F → K) (p : K → Bool) (es : List E) → count_by (λ x. p (key x)) (map f es) ≡ count_by (λ e. p (key (f e))) es
counted-map f key p es = fold-map (λ n x. n + cond (p (key x)) 1 0) f 0 es

take-map : {E F : Type 0} (f : E → F) (n : ℕ) (es : List E) → take n (map f es) ≡ map f (take n es)
take-map f zero es = refl
take-map f (suc n) [] = refl
take-map f (suc n) (e ∷ es) = ap (λ l. f e ∷ l) (take-map f n es)

list-map : {E F : Type 0} (f : E → F) (ls : List (List E)) (i : ℕ) → slice_index_or (map (λ l. map f l) ls) i [] ≡ map f (slice_index_or ls i [])
list-map f [] i = refl
list-map f (l ∷ ls) zero = refl
list-map f (l ∷ ls) (suc i) = list-map f ls i

module _ {E F S : Type 0} (f : E → F) where
  pub entries-mapped : (c : Contents E S) → entries (mapped f c) ≡ map f (entries c)
  unfolding mapped entries
  entries-mapped c = joined-map f c.lists

  pub bucket_count-mapped : (c : Contents E S) → bucket_count (mapped f c) ≡ bucket_count c
  unfolding mapped bucket_count
  bucket_count-mapped c = length-map c.lists (λ l. map f l)

  pub settings_of-mapped : (c : Contents E S) → settings_of (mapped f c) ≡ settings_of c
  unfolding mapped settings_of
  settings_of-mapped c = refl

  pub notes_of-mapped : (c : Contents E S) → notes_of (mapped f c) ≡ notes_of c
  unfolding mapped notes_of
  notes_of-mapped c = refl

  pub pending_of-mapped : (c : Contents E S) → pending_of (mapped f c) ≡ pending_of c
  unfolding mapped pending_of
  pending_of-mapped c = refl

  list_of-mapped : (c : Contents E S) (i : ℕ) → list_of (mapped f c) i ≡ map f (list_of c i)
  unfolding mapped list_of
  list_of-mapped c i = list-map f c.lists i

  -- a place of the contents is a place of the mapped contents, with as many entries before it
  pub index_of-mapped : (c : Contents E S) (p : Place) → index_of_spot (mapped f c) p ≡ index_of_spot c p
  unfolding mapped index_of_spot
  index_of-mapped c p =
      ap (λ n. n + p.slot) (ap length (ap (λ (ls : List (List F)). flat_map (λ l. l) ls) (take-map (λ l. map f l) p.bucket c.lists) ∙ joined-map f (take p.bucket c.lists)) ∙ length-map (flat_map (λ l. l) (take p.bucket c.lists)) f)

  length-list_of-mapped : (c : Contents E S) (i : ℕ) → length (list_of (mapped f c) i) ≡ length (list_of c i)
  length-list_of-mapped c i = ap length (list_of-mapped c i) ∙ length-map (list_of c i) f

  pub IsPlace-mapped : (c : Contents E S) (p : Place) → IsSpot c p → IsSpot (mapped f c) p
  IsPlace-mapped c p h = record { bucket = rw (bucket_count-mapped c) h.bucket; slot = rw (length-list_of-mapped c p.bucket) h.slot }

  pub IsPlace-from_mapped : (c : Contents E S) (p : Place) → IsSpot (mapped f c) p → IsSpot c p
  IsPlace-from_mapped c p h = record { bucket = rw (bucket_count-mapped c) at h.bucket; slot = rw (length-list_of-mapped c p.bucket) at h.slot }

  pub StandsAt-mapped : (c : Contents E S) (i : ℕ) (p : Place) → StandsAtSpot c i p → StandsAtSpot (mapped f c) i p
  StandsAt-mapped c i p h = record { within = IsPlace-mapped c p h.within; index = index_of-mapped c p ∙ h.index }

  pub length-mapped : (c : Contents E S) → length (entries (mapped f c)) ≡ length (entries c)
  length-mapped c = ap length (entries-mapped c) ∙ length-map (entries c) f

  pub HoldsExactly-mapped : (c : Contents E S) (es : List E) (d : Contents E S) → HoldsExactly c es d → HoldsExactly (mapped f c) (map f es) (mapped f d)
  HoldsExactly-mapped c es d h = record {
    exact = entries-mapped d ∙ ap (λ l. map f l) h.exact;
    buckets = bucket_count-mapped d ∙ h.buckets ∙ sym (bucket_count-mapped c);
    settings = settings_of-mapped d ∙ h.settings ∙ sym (settings_of-mapped c);
  }

  pub IsUnchanged-mapped : (c d : Contents E S) → IsUnchanged c d → IsUnchanged (mapped f c) (mapped f d)
  IsUnchanged-mapped c d h = rw (entries-mapped c) (HoldsExactly-mapped c (entries c) d h)

  KeepsSize-mapped : (c d : Contents E S) → KeepsSize c d → KeepsSize (mapped f c) (mapped f d)
  KeepsSize-mapped c d h = record {
    lawful = rw (bucket_count-mapped c, bucket_count-mapped d) h.lawful;
    minimum = rw (bucket_count-mapped c, bucket_count-mapped d, settings_of-mapped c) h.minimum;
  }

  pub Holds-mapped : (c : Contents E S) (es : List E) (d : Contents E S) → Holds c es d → Holds (mapped f c) (map f es) (mapped f d)
  Holds-mapped c es d h = record {
    same = rw (entries-mapped d) (IsPermutation-map f es (entries d) h.same);
    size = KeepsSize-mapped c d h.size;
    settings = settings_of-mapped d ∙ h.settings ∙ sym (settings_of-mapped c);
  }

  pub Rests-mapped : (c d : Contents E S) → Rests c d → Rests (mapped f c) (mapped f d)
  Rests-mapped c d (inl h) = inl (IsUnchanged-mapped c d h)
  Rests-mapped c d (inr h) = inr (rw (bucket_count-mapped c, bucket_count-mapped d) h.0, rw (entries-mapped c) (Holds-mapped c (entries c) d h.1))

  pub Grows-mapped : (c d : Contents E S) → Grows c d → Grows (mapped f c) (mapped f d)
  Grows-mapped c d h = record {
    first = rw (bucket_count-mapped c, bucket_count-mapped d, settings_of-mapped c) h.first;
    half = rw (bucket_count-mapped c, bucket_count-mapped d, length-mapped c) h.half;
    below = rw (bucket_count-mapped c, bucket_count-mapped d) h.below;
    doubled = rw (bucket_count-mapped c, bucket_count-mapped d) h.doubled;
    not_waiting = λ some ne. pending_of-mapped c ∙ h.not_waiting (rw (bucket_count-mapped c) at some) (rw (bucket_count-mapped c, bucket_count-mapped d) at ne);
  }

  pub FirstArrayWhenDue-mapped : (c d : Contents E S) → FirstArrayWhenDue c d → FirstArrayWhenDue (mapped f c) (mapped f d)
  FirstArrayWhenDue-mapped c d h = record { made = rw (bucket_count-mapped c, bucket_count-mapped d, settings_of-mapped c) h.made }

  IsShrinkDueFor-mapped : (c d : Contents E S) (m n : ℕ) → IsShrinkDueFor c d m n → IsShrinkDueFor (mapped f c) (mapped f d) m n
  IsShrinkDueFor-mapped c d m n due = record {
    least = rw (settings_of-mapped d) due.least;
    fitting = rw (length-mapped d) due.fitting;
    few = rw (bucket_count-mapped c, length-mapped d) due.few;
    smaller = rw (bucket_count-mapped c) due.smaller;
  }

  IsShrinkDueFor-from_mapped : (c d : Contents E S) (m n : ℕ) → IsShrinkDueFor (mapped f c) (mapped f d) m n → IsShrinkDueFor c d m n
  IsShrinkDueFor-from_mapped c d m n due = record {
    least = rw (settings_of-mapped d) at due.least;
    fitting = rw (length-mapped d) at due.fitting;
    few = rw (bucket_count-mapped c, length-mapped d) at due.few;
    smaller = rw (bucket_count-mapped c) at due.smaller;
  }

  pub ShrinksWhenDue-mapped : (c d : Contents E S) → ShrinksWhenDue c d → ShrinksWhenDue (mapped f c) (mapped f d)
  ShrinksWhenDue-mapped c d h = record {
    still = λ none. notes_of-mapped d ∙ h.still (λ m n due. none m n (IsShrinkDueFor-mapped c d m n due)) ∙ sym (notes_of-mapped c);
    shrunk = λ ne. notes_of-mapped d ∙ h.shrunk (rw (bucket_count-mapped c, bucket_count-mapped d) at ne);
    size = rw (bucket_count-mapped c, bucket_count-mapped d, settings_of-mapped d, length-mapped d) h.size;
    denied = λ m n due same. notes_of-mapped d ∙ h.denied m n (IsShrinkDueFor-from_mapped c d m n due) (rw (bucket_count-mapped c, bucket_count-mapped d) at same);
  }

  IsBelowMinimumOf-mapped : (c d : Contents E S) (m : ℕ) → IsBelowMinimumOf c d m → IsBelowMinimumOf (mapped f c) (mapped f d) m
  IsBelowMinimumOf-mapped c d m due = record {
    least = rw (settings_of-mapped d) due.least;
    array = rw (bucket_count-mapped c) due.array;
    fewer = rw (bucket_count-mapped c) due.fewer;
  }

  IsBelowMinimumOf-from_mapped : (c d : Contents E S) (m : ℕ) → IsBelowMinimumOf (mapped f c) (mapped f d) m → IsBelowMinimumOf c d m
  IsBelowMinimumOf-from_mapped c d m due = record {
    least = rw (settings_of-mapped d) at due.least;
    array = rw (bucket_count-mapped c) at due.array;
    fewer = rw (bucket_count-mapped c) at due.fewer;
  }

  pub ReachesMinimumWhenDue-mapped : (c d : Contents E S) → ReachesMinimumWhenDue c d → ReachesMinimumWhenDue (mapped f c) (mapped f d)
  ReachesMinimumWhenDue-mapped c d h = record {
    still = λ none. notes_of-mapped d ∙ h.still (λ m due. none m (IsBelowMinimumOf-mapped c d m due)) ∙ sym (notes_of-mapped c);
    grown = λ ne. notes_of-mapped d ∙ h.grown (rw (bucket_count-mapped c, bucket_count-mapped d) at ne);
    size = rw (bucket_count-mapped c, bucket_count-mapped d, settings_of-mapped d) h.size;
    denied = λ m due same. notes_of-mapped d ∙ h.denied m (IsBelowMinimumOf-from_mapped c d m due) (rw (bucket_count-mapped c, bucket_count-mapped d) at same);
  }

  HoldsWith-mapped : (c : Contents E S) (s : Settings S) (d : Contents E S) → HoldsWith c s d → HoldsWith (mapped f c) s (mapped f d)
  HoldsWith-mapped c s d h = record {
    same = rw (entries-mapped c, entries-mapped d) (IsPermutation-map f (entries c) (entries d) h.same);
    lawful = rw (bucket_count-mapped c, bucket_count-mapped d) h.lawful;
    minimum = rw (bucket_count-mapped c, bucket_count-mapped d) h.minimum;
    settings = settings_of-mapped d ∙ h.settings;
  }

  pub Reserves-mapped : (n : ℕ) (c d : Contents E S) → Reserves n c d → Reserves n (mapped f c) (mapped f d)
  Reserves-mapped n c d h = record {
    holds = rw (settings_of-mapped c) (HoldsWith-mapped c _ d h.holds);
    more = rw (bucket_count-mapped c, bucket_count-mapped d) h.more;
    size = rw (bucket_count-mapped c, bucket_count-mapped d, settings_of-mapped d) h.size;
  }

  pub Releases-mapped : (n : ℕ) (c d : Contents E S) → Releases n c d → Releases n (mapped f c) (mapped f d)
  Releases-mapped n c d h = record {
    holds = rw (settings_of-mapped c) (HoldsWith-mapped c _ d h.holds);
    smaller = rw (bucket_count-mapped c, bucket_count-mapped d, settings_of-mapped d, length-mapped d) h.smaller;
  }

  module _ {K : Type 0} (key : F → K) where
    pub HasRoomBy-mapped : (hash : K → ℕ) (c : Contents E S) (k : K) → HasRoomBy hash (λ e. key (f e)) c k → HasRoomBy hash key (mapped f c) k
    HasRoomBy-mapped hash c k h =
        rw (bucket_count-mapped c, settings_of-mapped c, entries-mapped c, counted-map f key (λ q. bucket_of hash c q == bucket_of hash c k) (entries c)) h

    pub HasRoomBy-from_mapped : (hash : K → ℕ) (c : Contents E S) (k : K) → HasRoomBy hash key (mapped f c) k → HasRoomBy hash (λ e. key (f e)) c k
    HasRoomBy-from_mapped hash c k h =
        rw (bucket_count-mapped c, settings_of-mapped c, entries-mapped c, counted-map f key (λ q. bucket_of hash c q == bucket_of hash c k) (entries c)) at h

    pub IsGrowthDue-mapped : (hash : K → ℕ) (c : Contents E S) (k : K) → IsGrowthDue hash (λ e. key (f e)) c (hash k) → IsGrowthDue hash key (mapped f c) (hash k)
    IsGrowthDue-mapped hash c k due = record {
      array = rw (bucket_count-mapped c) due.array;
      not_waiting = pending_of-mapped c ∙ due.not_waiting;
      full = λ room. due.full (HasRoomBy-from_mapped hash c k room);
      half = rw (bucket_count-mapped c, length-mapped c) due.half;
      below = rw (bucket_count-mapped c) due.below;
    }

    pub IsGrowthDue-from_mapped : (hash : K → ℕ) (c : Contents E S) (k : K) → IsGrowthDue hash key (mapped f c) (hash k) → IsGrowthDue hash (λ e. key (f e)) c (hash k)
    IsGrowthDue-from_mapped hash c k due = record {
      array = rw (bucket_count-mapped c) at due.array;
      not_waiting = sym (pending_of-mapped c) ∙ due.not_waiting;
      full = λ room. due.full (HasRoomBy-mapped hash c k room);
      half = rw (bucket_count-mapped c, length-mapped c) at due.half;
      below = rw (bucket_count-mapped c) at due.below;
    }

    pub GrowsWhenDue-mapped : (hash : K → ℕ) (c : Contents E S) (k : K) (d : Contents E S) → GrowsWhenDue hash (λ e. key (f e)) c k d → GrowsWhenDue hash key (mapped f c) k (mapped f d)
    GrowsWhenDue-mapped hash c k d h = record {
      still = λ none. notes_of-mapped d ∙ h.still (λ due. none (IsGrowthDue-mapped hash c k due)) ∙ sym (notes_of-mapped c);
      grown = λ some ne. notes_of-mapped d ∙ h.grown (rw (bucket_count-mapped c) at some) (rw (bucket_count-mapped c, bucket_count-mapped d) at ne);
      denied = λ due same. notes_of-mapped d ∙ h.denied (IsGrowthDue-from_mapped hash c k due) (rw (bucket_count-mapped c, bucket_count-mapped d) at same);
    }
