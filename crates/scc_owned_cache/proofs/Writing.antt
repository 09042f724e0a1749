-- Writes into the lists of a cache.
use Rattle.std.proofs.Common.{◌≡◌, ◌≢◌, ℕ, zero, suc, ◌⊎◌, inl, inr, Bool, List, [], ◌∷◌, ◌++◌, length, map, set, get_or, refl, sym, ap, ◌∙◌, subst, arith, length-set, get_or-set_same, get_or-set_other, Some, None}
use Rattle.std.specs.List.{IsDistinct, flat_map, slice_get}
use Rattle.std.proofs.lemmas.List.{map-append}
use native.Mathlib.Decide.{dec_lt}
use Rattle.scc_buckets.specs.Bounded.{IsListed}
use Rattle.scc_common.specs.Contents.{Contents, Settings, entries, bucket_count, settings_of, overflow_of, list_of}
use Rattle.scc_common.specs.Pairs.{IsUnique, with_pair_key, with_pair_value}
use Rattle.scc_buckets.specs.Places.{IsSpot, index_of_spot}
use Rattle.scc_array.specs.ShelfWrites.{write_at, length-write_at}
use Rattle.scc_buckets.specs.Writes.{with_write_at_spot}
use Rattle.scc_buckets.specs.declared.place.Place.{Place}
use Rattle.scc_table.specs.Places as places
use Rattle.scc_table.specs.Places.{spot_of}
use Rattle.scc_buckets.proofs.Spots.{place-get}
use Rattle.scc_owned_cache.specs.Caches.{Cached, IsCacheState}
use Rattle.scc_owned_cache.specs.Lends.{with_value_at, with_key_at}
use Rattle.scc_owned_cache.proofs.Caching.{there}

by_same : {P : Type 0} (i j : ℕ) → (i ≡ j → P) → (i ≢ j → P) → P
by_same i j f g = elim (dec_lt i j) [
  | yes l ↦ g (λ e. absurd (omega arith))
  | no l ↦ elim (dec_lt j i) [ yes m ↦ g (λ e. absurd (omega arith)) | no m ↦ f (omega arith) ]
]

-- a write replaces the old element by the new element
pub write-set : {E X : Type 0} (put : E → X → E) (es : List E) (i : ℕ) (w : X) (e : E) → slice_get es i ≡ Some e → write_at put es i w ≡ set es i (put e w)
write-set put [] zero w e got = refl
write-set put [] (suc i) w e got = refl
write-set put (x ∷ es) zero w e got = let s : x ≡ e = cc in ap (λ y. put y w ∷ es) s
write-set put (x ∷ es) (suc i) w e got = ap (λ l. x ∷ l) (write-set put es i w e got)

-- an element of a list after a write was there before the write, or is the written element
pub written-from : {E X : Type 0} (put : E → X → E) (es : List E) (i j : ℕ) (w : X) (e : E) → slice_get (write_at put es i w) j ≡ Some e → (o : E) × (slice_get es j ≡ Some o) × ((e ≡ o) ⊎ ((e ≡ put o w) × (j ≡ i)))
written-from put [] i j w e got = absurd (none-of j e got)
  where
    none-of : {Y : Type 0} (j : ℕ) (e : Y) → slice_get [] j ≡ Some e → ⊥
    none-of zero e got = let n : None ≡ Some e = got in cc
    none-of (suc j) e got = let n : None ≡ Some e = got in cc
written-from put (x ∷ es) zero zero w e got = let s : put x w ≡ e = cc in (x, refl, inr (sym s, refl))
written-from put (x ∷ es) zero (suc j) w e got = (e, got, inl refl)
written-from put (x ∷ es) (suc i) zero w e got = (e, got, inl refl)
written-from put (x ∷ es) (suc i) (suc j) w e got =
    let r = written-from put es i j w e got in
    (r.0, r.1, elim r.2 [ inl s ↦ inl s | inr s ↦ inr (s.0, ap suc s.1) ])

-- if a write keeps the `key` of each element, it keeps the keys of all lists
keys-list : {E X Y : Type 0} (put : E → X → E) (key : E → Y) → ((e : E) (w : X) → key (put e w) ≡ key e) → (es : List E) (i : ℕ) (w : X) → map key (write_at put es i w) ≡ map key es
keys-list put key h [] i w = refl
keys-list put key h (e ∷ es) zero w = ap (λ y. y ∷ map key es) (h e w)
keys-list put key h (e ∷ es) (suc i) w = ap (λ l. key e ∷ l) (keys-list put key h es i w)

pub keys-lists : {E X Y : Type 0} (put : E → X → E) (key : E → Y) → ((e : E) (w : X) → key (put e w) ≡ key e) → (ls : List (List E)) (b i : ℕ) (w : X)
    → map key (flat_map (λ l. l) (set ls b (write_at put (get_or ls b []) i w))) ≡ map key (flat_map (λ l. l) ls)
keys-lists put key h [] zero i w = refl
keys-lists put key h [] (suc b) i w = refl
keys-lists put key h (l ∷ ls) zero i w = map-append key (write_at put l i w) (flat_map (λ l. l) ls) ∙ ap (λ z. z ++ map key (flat_map (λ l. l) ls)) (keys-list put key h l i w) ∙ sym (map-append key l (flat_map (λ l. l) ls))
keys-lists put key h (l ∷ ls) (suc b) i w =
    map-append key l (flat_map (λ l. l) (set ls b (write_at put (get_or ls b []) i w))) ∙ ap (λ z. map key l ++ z) (keys-lists put key h ls b i w) ∙ sym (map-append key l (flat_map (λ l. l) ls))

module _ {E S X : Type 0} (put : E → X → E) (c : Contents E S) (p : Place) (within : IsSpot c p) (w : X) where
  pub get-listed : (e : E) → slice_get (entries c) (index_of_spot c p) ≡ Some e → slice_get (list_of c p.bucket) p.slot ≡ Some e
  get-listed e got =
      let t = there (list_of c p.bucket) p.slot within.slot in
      let s : Some t.0 ≡ Some e = sym (place-get c p within t.0 t.1) ∙ got in
      t.1 ∙ s

  pub written-list : list_of (with_write_at_spot put c p w) p.bucket ≡ write_at put (list_of c p.bucket) p.slot w
  unfolding list_of with_write_at_spot bucket_count
  written-list = get_or-set_same c.lists p.bucket (write_at put (get_or c.lists p.bucket []) p.slot w) [] within.bucket

  pub other-list : (i : ℕ) → i ≢ p.bucket → list_of (with_write_at_spot put c p w) i ≡ list_of c i
  unfolding list_of with_write_at_spot
  other-list i ne = get_or-set_other c.lists p.bucket i (write_at put (get_or c.lists p.bucket []) p.slot w) [] ne

  pub written-count : bucket_count (with_write_at_spot put c p w) ≡ bucket_count c
  unfolding bucket_count with_write_at_spot
  written-count = length-set c.lists p.bucket (write_at put (list_of c p.bucket) p.slot w)

  pub written-settings : settings_of (with_write_at_spot put c p w) ≡ settings_of c
  unfolding settings_of with_write_at_spot
  written-settings = refl

  pub written-spilled : overflow_of (with_write_at_spot put c p w) ≡ overflow_of c
  unfolding overflow_of with_write_at_spot
  written-spilled = refl

  pub listed-written : (hash : E → ℕ) → ((e : E) → slice_get (list_of c p.bucket) p.slot ≡ Some e → hash (put e w) ≡ hash e) → IsListed hash c → IsListed hash (with_write_at_spot put c p w)
  listed-written hash same h = record {
    lawful = rw written-count h.lawful;
    bounded = written-spilled ∙ h.bounded;
    short = λ i. by_same i p.bucket
        (λ e.
        let n : length (list_of (with_write_at_spot put c p w) i) ≡ length (list_of c p.bucket) = ap (λ j. length (list_of (with_write_at_spot put c p w) j)) e ∙ ap length written-list ∙ length-write_at put (list_of c p.bucket) p.slot w in
        let s = h.short p.bucket in
        omega arith)
        (λ ne. rw (other-list i ne) (h.short i));
    routed = λ i j e got. by_same i p.bucket
        (λ s.
        let here : slice_get (write_at put (list_of c p.bucket) p.slot w) j ≡ Some e = ap (λ l. slice_get l j) (sym written-list) ∙ ap (λ k. slice_get (list_of (with_write_at_spot put c p w) k) j) (sym s) ∙ got in
        let o = written-from put (list_of c p.bucket) p.slot j w e here in
        let before = h.routed p.bucket j o.0 o.1 in
        let alike : hash e ≡ hash o.0 = elim o.2 [ inl q ↦ ap hash q | inr q ↦ ap hash q.0 ∙ same o.0 (ap (slice_get (list_of c p.bucket)) (sym q.1) ∙ o.1) ] in
        rw (written-settings, written-count, alike) (before ∙ sym s))
        (λ ne. rw (written-settings, written-count) (h.routed i j e (ap (λ l. slice_get l j) (sym (other-list i ne)) ∙ got)));
  }

module _ {K V S : Type 0} (eq : K → K → Bool) (hash : K → ℕ) (c : Cached (K × V) S) (p : Place) (within : places.IsPlace c.contents p) (h : IsCacheState eq hash c) where
  value-unique : (v : V) → IsUnique eq (with_write_at_spot with_pair_value c.contents (spot_of c.contents p) v)
  unfolding entries with_write_at_spot list_of
  value-unique v = subst (λ ks. IsDistinct eq ks) (sym (keys-lists with_pair_value (λ (q : K × V). q.0) (λ e w. refl) c.contents.lists (spot_of c.contents p).bucket (spot_of c.contents p).slot v)) h.unique

  -- after a write of a value, a cache still meets `IsCacheState`
  pub value-state : (v : V) → IsCacheState eq hash (with_value_at c p v)
  value-state v = record {
    lists = listed-written with_pair_value c.contents (spot_of c.contents p) within v (λ q. hash q.0) (λ e got. refl) h.lists;
    unique = value-unique v;
    within = rw (written-count with_pair_value c.contents (spot_of c.contents p) within v) h.within;
    power = h.power;
    least = h.least;
    most = h.most;
    minimum = rw (written-settings with_pair_value c.contents (spot_of c.contents p) within v) h.minimum;
  }

  -- after a write of a key over an equal key, a cache still meets `IsCacheState`
  pub key-state : (k : K) → ((q : K × V) → slice_get (list_of c.contents (spot_of c.contents p).bucket) (spot_of c.contents p).slot ≡ Some q → hash k ≡ hash q.0) → IsUnique eq (with_write_at_spot with_pair_key c.contents (spot_of c.contents p) k) → IsCacheState eq hash (with_key_at c p k)
  key-state k same unique = record {
    lists = listed-written with_pair_key c.contents (spot_of c.contents p) within k (λ q. hash q.0) same h.lists;
    unique = unique;
    within = rw (written-count with_pair_key c.contents (spot_of c.contents p) within k) h.within;
    power = h.power;
    least = h.least;
    most = h.most;
    minimum = rw (written-settings with_pair_key c.contents (spot_of c.contents p) within k) h.minimum;
  }

-- `value-state` and `key-state` for the hash of the cache's own hasher
module _ {K V S : Type 0} (eq : K → K → Bool) (hash : Settings S → K → ℕ) (c : Cached (K × V) S) (p : Place) (within : places.IsPlace c.contents p) (h : IsCacheState eq (hash (settings_of c.contents)) c) where
  pub value-state-by : (v : V) → IsCacheState eq (hash (settings_of (with_value_at c p v).contents)) (with_value_at c p v)
  value-state-by v = rw (written-settings with_pair_value c.contents (spot_of c.contents p) within v) (value-state eq (hash (settings_of c.contents)) c p within h v)

  pub key-state-by : (k : K) (d : Contents (K × V) S) → d ≡ with_write_at_spot with_pair_key c.contents (spot_of c.contents p) k → ((q : K × V) → slice_get (list_of c.contents (spot_of c.contents p).bucket) (spot_of c.contents p).slot ≡ Some q → hash (settings_of c.contents) k ≡ hash (settings_of c.contents) q.0) → IsUnique eq d
      → IsCacheState eq (hash (settings_of d)) (record { contents = d; maximum = c.maximum })
  key-state-by k d e same unique =
      let u = subst (λ z. IsUnique eq z) e unique in
      subst (λ z. IsCacheState eq (hash (settings_of z)) (record { contents = z; maximum = c.maximum })) (sym e) (rw (written-settings with_pair_key c.contents (spot_of c.contents p) within k) (key-state eq (hash (settings_of c.contents)) c p within h k same u))

  pub value-state-after : (v : V) (d : Contents (K × V) S) → d ≡ (with_value_at c p v).contents → IsCacheState eq (hash (settings_of d)) (record { contents = d; maximum = c.maximum })
  value-state-after v d made = subst (λ z. IsCacheState eq (hash (settings_of z)) (record { contents = z; maximum = c.maximum })) (sym made) (value-state-by v)
