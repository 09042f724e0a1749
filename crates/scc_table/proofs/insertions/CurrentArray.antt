-- An entry is inserted into the current array of two arrays, into a bucket that doesn't wait.
use Rattle.std.proofs.Common.{Result, Ok, Err, ◌≡◌, ◌==◌, ◌≢◌, ℕ, zero, suc, ◌+◌, ◌^◌, ◌<◌, ◌≤◌, ◌⊎◌, inl, inr, Bool, true, false, cond, List, [], ◌∷◌, length, map, set, get_or, Some, None, refl, sym, ap, ◌∙◌, subst, arith, get_or-set_other, eq-eqb}
use Rattle.std.specs.Cmp.{IsEquivalence}
use Rattle.std.specs.List.{filter, flat_map, count_by, insert, position, slice_get, IsDistinct}
use Rattle.std.proofs.lemmas.List.{get_or_default, get_or_past}
use native.Mathlib.Decide.{dec_lt}
use Rattle.scc_array.specs.Shelf.{Shelf, shelf_entries}
use Rattle.scc_array.proofs.ListsLemmas.{get-index}
use Rattle.scc_common.specs.Contents.{Contents, entries, bucket_count, list_of, lists_of, settings_of, overflow_of, owed_of, bucket_of, HasRoomBy, IsRouted}
use Rattle.scc_buckets.specs.Insertions.{IsNewIn}
use Rattle.scc_buckets.specs.OneList.{HasSameLists, IsPutIn}
use Rattle.scc_common.specs.Routing.{bucket_number}
use Rattle.scc_buckets.specs.declared.place.Place.{Place}
use Rattle.scc_buckets.proofs.Inserts.{unique-inserted}
use Rattle.scc_buckets.proofs.PairSplits.{by_answer}
use Rattle.scc_draining.specs.Moves.{AreMultiples, AreOwn}
use Rattle.scc_draining.specs.Drainings.{Draining}
use Rattle.scc_table.specs.TwoArrays.{IsTable, owed_in, joined, target_by, together, TwoArrays, waits_at}
use Rattle.scc_table.proofs.arrays.OneArray.{spilled-together}
use Rattle.scc_table.proofs.insertions.OneList.{absent-sub, count-sub, count-whole, one-sub, put-count, put-permuted}
use Rattle.scc_table.proofs.arrays.JoinedLists.{owed-together, lists-together, refused-together, settings-together}
use Rattle.scc_table.proofs.arrays.Notes.{lists-kept, target-kept}
use Rattle.scc_table.proofs.places.OldSpots.{own-list}
use Rattle.std.specs.Prelude.{IfOk, OnErr}
use Rattle.scc_table.proofs.arrays.SameParts.{count-same, entries-same}
use Rattle.scc_table.proofs.relocations.Fields.{count-is, list-is}
use Rattle.scc_draining.proofs.Sublists.{Sub, flat-sub}
use Rattle.scc_table.proofs.arrays.Views.{count-seen, refused-seen, settings-seen, spilled-seen}

-- if the list of a bucket that doesn't wait becomes l, its joined list becomes l
joined-set : {E : Type 0} (f : E → ℕ) (a : ℕ) (ws : List Bool) (ls : List (List E)) (es : List E) (i : ℕ) (l : List E) → waits_at ws i ≡ false → joined f a ws (set ls i l) es ≡ set (joined f a ws ls es) i l
joined-set f a [] ls es i l down = refl
joined-set f a (w ∷ ws) [] es i l down = refl
joined-set f a (w ∷ ws) (x ∷ ls) es zero l down = ap (λ (v : Bool). cond v (filter (λ e. f e == a) es) l ∷ joined f (suc a) ws ls es) down
joined-set f a (w ∷ ws) (x ∷ ls) es (suc i) l down = ap (λ z. cond w (filter (λ e. f e == a) es) x ∷ z) (joined-set f (suc a) ws ls es i l down)

all-entries : {E S : Type 0} (c : Contents E S) → entries c ≡ flat_map (λ l. l) (lists_of c)
unfolding entries lists_of
all-entries c = refl

module _ {E K S : Type 0} (key : E → K) (hash : K → ℕ) (c : Contents E S) (ws : List Bool) (olds : List (Shelf E)) (arrays : TwoArrays (λ e. hash (key e)) c ws olds) (d : Contents E S) (view : together (λ e. hash (key e)) c ws olds ≡ d) where
  counts : bucket_count d ≡ bucket_count c
  counts = count-seen (λ e. hash (key e)) c ws olds d view arrays.flags

  settings : settings_of d ≡ settings_of c
  settings = settings-seen (λ e. hash (key e)) c ws olds d view

  pub own-seen : (i : ℕ) → i < bucket_count c → waits_at ws i ≡ false → list_of d i ≡ list_of c i
  own-seen i l down = ap (λ z. list_of z i) (sym view) ∙ own-list (λ e. hash (key e)) c ws olds arrays i l down

  own-parts : (k : ℕ) → (get_or (lists_of c) k [] ≡ get_or (lists_of d) k []) ⊎ (get_or (lists_of c) k [] ≡ [])
  own-parts k = elim (dec_lt k (bucket_count c)) [
    | yes l ↦ by_answer {P = (get_or (lists_of c) k [] ≡ get_or (lists_of d) k []) ⊎ (get_or (lists_of c) k [] ≡ [])} (waits_at ws k) (λ q. inr (sym (list-is c k) ∙ arrays.bare k q)) (λ q. inl (sym (list-is c k) ∙ sym (own-seen k l q) ∙ list-is d k))
    | no l ↦ inr (get_or_past (lists_of c) k [] (omega (arith, count-is c)))
  ]

  -- the entries of the current array are a sublist of all entries
  pub own-sub : Sub (entries c) (entries d)
  own-sub =
      let n : length (lists_of c) ≡ length (lists_of d) = sym (count-is c) ∙ sym counts ∙ count-is d in
      subst (λ z. Sub z (entries d)) (sym (all-entries c)) (subst (Sub (flat_map (λ l. l) (lists_of c))) (sym (all-entries d)) (flat-sub (lists_of c) (lists_of d) n own-parts))

  pub absent-own : (p : E → Bool) → position p (entries d) ≡ None → position p (entries c) ≡ None
  absent-own p h = absent-sub p own-sub h

  same-bucket : (k : K) → bucket_of hash d k ≡ bucket_of hash c k
  same-bucket k = ap (λ s. bucket_number s.skipped (bucket_count d) (hash k)) settings ∙ ap (λ n. bucket_number (settings_of c).skipped n (hash k)) counts

  passes : (k : K) → (e : E) → (bucket_of hash d (key e) == bucket_of hash d k) ≡ (bucket_of hash c (key e) == bucket_of hash c k)
  passes k e = ap (λ n. n == bucket_of hash d k) (same-bucket (key e)) ∙ ap (λ n. bucket_of hash c (key e) == n) (same-bucket k)

  -- if a key has room in both arrays together, it has room in the current array
  pub room-own : (k : K) → HasRoomBy hash key d k → HasRoomBy hash key c k
  room-own k h =
      let less = count-sub (λ e. bucket_of hash c (key e) == bucket_of hash c k) own-sub in
      let same : count_by (λ e. bucket_of hash d (key e) == bucket_of hash d k) (entries d) ≡ count_by (λ e. bucket_of hash c (key e) == bucket_of hash c k) (entries d) =
      ap (λ s. count_by (λ e. bucket_number s.skipped (bucket_count d) (hash (key e)) == bucket_number s.skipped (bucket_count d) (hash k)) (entries d)) settings
      ∙ ap (λ n. count_by (λ e. bucket_number (settings_of c).skipped n (hash (key e)) == bucket_number (settings_of c).skipped n (hash k)) (entries d)) counts in
      let few = h.1 in
      (omega (arith, h.0, counts), omega arith)

  -- if the list of a key's bucket has 32 entries or more, the key has no room
  pub long-full : IsRouted (λ e. hash (key e)) c → (k : K) (i : ℕ) → i < bucket_count c → waits_at ws i ≡ false → i ≡ bucket_number (settings_of c).skipped (bucket_count c) (hash k) → 32 ≤ length (list_of c i) → HasRoomBy hash key d k → ⊥
  long-full routed k i l down at long h =
      let r = room-own k h in
      let p : E → Bool = λ e. bucket_of hash c (key e) == bucket_of hash c k in
      let whole : count_by p (list_of c i) ≡ length (list_of c i) = count-whole p (list_of c i) (λ j e q.
      let x = get_or (list_of c i) j e in
      let got : slice_get (list_of c i) j ≡ Some x = get-index (list_of c i) j x q (get_or_default (list_of c i) j e x q) in
      eq-eqb _ _ (routed.routed i j x got ∙ at)) in
      let part : Sub (list_of c i) (entries c) = subst (λ z. Sub z (entries c)) (sym (list-is c i)) (subst (Sub (get_or (lists_of c) i [])) (sym (all-entries c)) (one-sub (lists_of c) i (omega (arith, count-is c)))) in
      let less = count-sub p part in
      let few = r.1 in
      omega arith

  module _ (e : E) (i : ℕ) (b : Contents E S) (p : Place) (put : IsPutIn c i e b p) (l : i < bucket_count c) (down : waits_at ws i ≡ false) where
    same-target : target_by (λ x. hash (key x)) b ≡ target_by (λ x. hash (key x)) c
    same-target = target-kept (λ x. hash (key x)) c b (ap (λ s. s.skipped) put.settings) (put-count c i e b p put l)

    -- the entry is inserted into the list of bucket i in both arrays together, too
    pub put-together : IsPutIn d i e (together (λ x. hash (key x)) b ws olds) p
    put-together =
        let h : E → ℕ = λ x. hash (key x) in
        let es = flat_map shelf_entries olds in
        let own = own-seen i l down in
        let n : List E = insert (list_of c i) p.slot e in
        record {
          bucket = put.bucket;
          slot = subst (λ z. p.slot ≤ length z) (sym own) put.slot;
          lists =
              lists-together h b ws olds ∙ ap (λ f. joined f 0 ws (lists_of b) es) same-target ∙ ap (λ z. joined (target_by h c) 0 ws z es) put.lists ∙ joined-set (target_by h c) 0 ws (lists_of c) es i n down
              ∙ ap (λ z. set z i n) (sym (lists-together h c ws olds) ∙ ap lists_of view) ∙ ap (λ z. set (lists_of d) i (insert z p.slot e)) (sym own);
          settings = settings-together h b ws olds ∙ put.settings ∙ sym settings;
          refused = refused-together h b ws olds ∙ put.refused ∙ sym (refused-seen h c ws olds d view);
          spilled = let z = put.spilled in let s = spilled-seen h c ws olds d view in let t = spilled-together h b ws olds in omega arith;
          short = λ few. let z = put.short (subst (λ x. length x < 32) own few) in let s = spilled-seen h c ws olds d view in let t = spilled-together h b ws olds in omega arith;
        }

    pub owed-put : owed_of (together (λ x. hash (key x)) b ws olds) ≡ owed_of d
    owed-put = let h : E → ℕ = λ x. hash (key x) in owed-together h b ws olds ∙ ap (λ f. owed_in f ws olds) same-target ∙ sym (owed-together h c ws olds) ∙ ap owed_of view

    pub arrays-put : TwoArrays (λ x. hash (key x)) b ws olds
    arrays-put = record {
      flags = elim arrays.flags [ inl z ↦ inl z | inr z ↦ inr (z ∙ sym (put-count c i e b p put l)) ];
      multiples = elim arrays.multiples [ inl z ↦ inl z | inr z ↦ inr (subst (AreMultiples (length olds)) (sym (put-count c i e b p put l)) z) ];
      sized = arrays.sized;
      own = subst (λ s. AreOwn (λ x. hash (key x)) s.skipped olds) (sym put.settings) arrays.own;
      not_waiting = λ k low. ap (λ g. filter (λ x. g x == k) (flat_map shelf_entries olds)) same-target ∙ arrays.not_waiting k low;
      bare = λ k up.
          let apart : k ≢ i = λ z. absurd (let s : true ≡ false = sym up ∙ ap (waits_at ws) z ∙ down in cc) in
          list-is b k ∙ ap (λ z. get_or z k []) put.lists ∙ get_or-set_other (lists_of c) i k (insert (list_of c i) p.slot e) [] apart ∙ sym (list-is c k) ∙ arrays.bare k up;
    }

-- the invariant `IsTable` holds after the insertion
-- a key that is new in both arrays together is new in the current array, with the same hash and bucket
pub new-own : {E K S : Type 0} {eq : K → K → Bool} {key : E → K} {hash other : K → ℕ} {c : Contents E S} {drain : Draining E} (inv : IsTable eq key hash c drain) {a : Contents E S} → together (λ e. hash (key e)) c drain.waiting drain.array ≡ a → other ≡ hash
    → {i h : ℕ} {k : K} → IsNewIn eq key other a i h k → IsNewIn eq key hash c i h k
new-own {K = K} {eq = eq} {key} {hash} {c = c} {drain} inv {a} view same {i} {h} {k} new =
    let count = count-seen (λ e. hash (key e)) c drain.waiting drain.array a view inv.arrays.flags in
    record {
      within = omega (arith, new.within, count);
      routed =
          new.routed ∙ ap (λ s. bucket_number s.skipped (bucket_count a) h) (settings-seen (λ e. hash (key e)) c drain.waiting drain.array a view)
          ∙ ap (λ n. bucket_number (settings_of c).skipped n h) count;
      hashed = new.hashed ∙ ap (λ (f : K → ℕ). f k) same;
      absent = absent-own key hash c drain.waiting drain.array inv.arrays a view (λ e. eq k (key e)) new.absent;
    }

-- a new key stays new while the lists and the settings stay
pub new-same : {E K S : Type 0} {eq : K → K → Bool} {key : E → K} {hash other : K → ℕ} (a b : Contents E S) → lists_of b ≡ lists_of a → settings_of b ≡ settings_of a → other ≡ hash → {i h : ℕ} {k : K} → IsNewIn eq key hash a i h k → IsNewIn eq key other b i h k
new-same {K = K} {eq = eq} {key} a b lists settings same {h = h} {k} new =
    let count = count-same a b lists in
    record {
      within = omega (arith, new.within, count);
      routed = new.routed ∙ ap (λ s. bucket_number s.skipped (bucket_count a) h) (sym settings) ∙ ap (λ n. bucket_number (settings_of b).skipped n h) (sym count);
      hashed = new.hashed ∙ ap (λ (f : K → ℕ). f k) (sym same);
      absent = subst (λ es. position (λ e. eq k (key e)) es ≡ None) (sym (entries-same a b lists)) new.absent;
    }

pub fields-put : {E K S : Type 0} (eq : K → K → Bool) (laws : IsEquivalence eq) (key : E → K) (hash : K → ℕ) (c : Contents E S) (drain : Draining E) (inv : IsTable eq key hash c drain) (d : Contents E S)
    → together (λ e. hash (key e)) c drain.waiting drain.array ≡ d → (e : E) (i : ℕ) (b : Contents E S) (p : Place) → IsPutIn c i e b p → i < bucket_count c → waits_at drain.waiting i ≡ false → overflow_of b + drain.left_overflow < 2 ^ 62 → position (λ x. eq (key e) (key x)) (entries d) ≡ None
    → IsTable eq key hash b drain
fields-put {E} eq laws key hash c drain inv d view e i b p put l down few absent =
    let there = put-together key hash c drain.waiting drain.array inv.arrays d view e i b p put l down in
    let within : i < bucket_count d = omega (arith, count-seen (λ x. hash (key x)) c drain.waiting drain.array d view inv.arrays.flags) in
    record {
      arrays = arrays-put key hash c drain.waiting drain.array inv.arrays d view e i b p put l down;
      counted = inv.counted;
      none = inv.none;
      given_back = inv.given_back;
      nothing_left = inv.nothing_left;
      below = inv.below;
      left_is = inv.left_is;
      overflow_is = inv.overflow_is;
      few = few;
      unique = unique-inserted laws key e (entries d) (entries (together (λ x. hash (key x)) b drain.waiting drain.array)) (subst (λ z. IsDistinct eq (map key (entries z))) view inv.unique) absent (put-permuted d i e (together (λ x. hash (key x)) b drain.waiting drain.array) p there within);
    }

-- if nothing is inserted into the current array, the contents of both arrays keep their lists
pub same-together : {E S : Type 0} (hash : E → ℕ) (c d : Contents E S) (ws : List Bool) (olds : List (Shelf E)) → HasSameLists c d → HasSameLists (together hash c ws olds) (together hash d ws olds)
same-together hash c d ws olds z = record {
  lists = lists-kept hash c d ws olds z.lists (ap (λ s. s.skipped) z.settings);
  settings = settings-together hash d ws olds ∙ z.settings ∙ sym (settings-together hash c ws olds);
  refused = refused-together hash d ws olds ∙ z.refused ∙ sym (refused-together hash c ws olds);
  spilled = let s = spilled-together hash c ws olds in let t = spilled-together hash d ws olds in omega (arith, z.spilled);
}

-- the keys stay distinct, whether the insertion fails or not
pub unique-answered : {E K S X : Type 0} {eq : K → K → Bool} (laws : IsEquivalence eq) {key : E → K} {hash : K → ℕ} {c : Contents E S} {drain : Draining E} (inv : IsTable eq key hash c drain) {a : Contents E S} → together (λ e. hash (key e)) c drain.waiting drain.array ≡ a → (e : E) (i : ℕ)
    (b : Contents E S) (r : Result Place X) → IfOk r (IsPutIn c i e b) → OnErr r (HasSameLists c b) → i < bucket_count c → waits_at drain.waiting i ≡ false → position (λ x. eq (key e) (key x)) (entries a) ≡ None → IsDistinct eq (map key (entries (together (λ x. hash (key x)) b drain.waiting drain.array)))
unique-answered {eq = eq} laws {key} {hash} {c} {drain} inv {a} view e i b (Ok p) put stays l down absent =
    let there = put-together key hash c drain.waiting drain.array inv.arrays a view e i b p put l down in
    let within : i < bucket_count a = omega (arith, l, count-seen (λ x. hash (key x)) c drain.waiting drain.array a view inv.arrays.flags) in
    let v = together (λ x. hash (key x)) b drain.waiting drain.array in
    unique-inserted laws key e (entries a) (entries v) (subst (λ z. IsDistinct eq (map key (entries z))) view inv.unique) absent (put-permuted a i e v p there within)
unique-answered {E} {eq = eq} laws {key} {hash} {c} {drain} inv view e i b (Err y) put stays l down absent =
    let h : E → ℕ = λ x. hash (key x) in
    subst (λ es. IsDistinct eq (map key es)) (sym (entries-same (together h c drain.waiting drain.array) (together h b drain.waiting drain.array) (lists-kept h c b drain.waiting drain.array stays.lists (ap (λ s. s.skipped) stays.settings)))) inv.unique
