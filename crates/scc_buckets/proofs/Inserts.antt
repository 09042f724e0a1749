-- A table with an entry put into one bucket.
use Rattle.std.proofs.Common.{◌≡◌, ℕ, zero, suc, ◌+◌, ◌-◌, ◌*◌, ◌^◌, ◌<◌, ◌≤◌, inl, inr, Bool, true, false, List, [], ◌∷◌, ◌++◌, length, map, set, take, get_or, refl, sym, ap, ◌∙◌, subst, arith, nat_lt, rules, length-append, length-set, append_assoc, get_or-set_same, get_or-set_other, Option, Some, None}
use Rattle.std.specs.List.{flat_map, sum_by, insert, IsDistinct, AllByRecursion, position}
use Rattle.std.specs.List.Sorted.{IsPermutation}
use Rattle.std.proofs.lemmas.List.{get_or_default, get_or-map, map-append, map-set, length-map}
use Rattle.std.proofs.Math.Seq.{map-set_same}
use Rattle.std.proofs.lemmas.List.Sums.{sum_by-set, sum_by-cons, get_or-le-sum_by}
use Rattle.std.proofs.lemmas.List.Edits.{insert_end, insert-append_left, insert-append_right, length-insert, get_or-insert_below, get_or-insert_at, get_or-insert_above}
use Rattle.std.proofs.lemmas.List.Sorted.{IsPermutation-insert, IsPermutation-map}
use Rattle.std.proofs.lemmas.Map.Keys.{IsDistinct-cons, IsDistinct-IsPermutation}
use Rattle.std.specs.Cmp.{IsEquivalence}
use Rattle.std.specs.Option.{option_map}
use native.Mathlib.Decide.{dec_lt}
use Rattle.scc_common.specs.Contents.{Contents, Settings, entries, bucket_count, settings_of, list_of}
use Rattle.scc_buckets.specs.Places.{IsInsertedAtSpot, index_of_spot}
use Rattle.scc_common.specs.Routing.{bucket_number, tag_of}
use Rattle.scc_array.specs.Shelf.{Shelf, shelf_entries, with_entry, next_slot}
use Rattle.scc_common.specs.Steps.{Holds, IsUnchanged}
use Rattle.scc_common.specs.Sizes.{IsLawful}
use Rattle.scc_buckets.specs.Tables.{IsOwn, IsBuckets}
use Rattle.scc_buckets.proofs.FindingLemmas.{position_hit, position_cons}
use Rattle.scc_array.proofs.ListsLemmas.{get-index}
use Rattle.scc_buckets.proofs.Spots.{before}
use Rattle.scc_buckets.proofs.Views.{view_of, flat_lists, count-view, settings-view}

-- a table stays a table if one bucket changes and the counts change with it
pub table_set : {E : Type 0} (hash : E → ℕ) (t n o m q i : ℕ) (bs : List (Shelf E)) (b c : Shelf E) → IsBuckets hash t bs n o → i < length bs → b ≡ get_or bs i b → IsOwn hash t (length bs) i c
    → m + length (shelf_entries b) ≡ n + length (shelf_entries c) → q + length b.overflow ≡ o + length c.overflow → q < 2 ^ 62 → IsBuckets hash t (set bs i c) m q
table_set hash t n o m q i bs b c h l at own w v few =
    let size : length (set bs i c) ≡ length bs = length-set bs i c in
    record {
      sized = rw size h.sized;
      counted =
          let f : Shelf _ → ℕ = λ x. length (shelf_entries x) in
          let s = sum_by-set f bs i c b l in
          let e : f (get_or bs i b) ≡ f b = ap f (sym at) in
          omega (arith, h.counted);
      spilled =
          let f : Shelf _ → ℕ = λ x. length x.overflow in
          let s = sum_by-set f bs i c b l in
          let e : f (get_or bs i b) ≡ f b = ap f (sym at) in
          omega (arith, h.spilled);
      few = few;
      own = λ j d lj atd.
          let lb : j < length bs = omega arith in
          subst (λ k. IsOwn hash t k j d) (sym size) (elim (dec_lt j i) [
            | yes r ↦ h.own j d lb (atd ∙ get_or-set_other bs i j c d (omega arith))
            | no r ↦ elim (dec_lt i j) [
              | yes z ↦ h.own j d lb (atd ∙ get_or-set_other bs i j c d (omega arith))
              | no z ↦
                  let same : j ≡ i = omega arith in
                  let here : d ≡ c = atd ∙ ap (λ x. get_or (set bs i c) x d) same ∙ get_or-set_same bs i c d l in
                  subst (IsOwn hash t (length bs) j) (sym here) (subst (λ x. IsOwn hash t (length bs) x c) (sym same) own)
            ]
          ]);
    }

pub entries_insert : {E : Type 0} (b : Shelf E) (e : E) (t : ℕ) → shelf_entries (with_entry b e t) ≡ insert (shelf_entries b) (next_slot b) e
entries_insert b e t = elim (dec_lt (length b.slots) 32) [
  | yes q ↦
      let c : nat_lt (length b.slots) 32 ≡ true = search rules in
      rw c (sym (insert-append_left b.slots b.overflow (length b.slots) e (omega arith) ∙ ap (λ z. z ++ b.overflow) (insert_end b.slots e)))
  | no q ↦
      let c : nat_lt (length b.slots) 32 ≡ false = let r : 32 ≤ length b.slots = omega arith in search rules in
      rw c (sym (insert_end (b.slots ++ b.overflow) e ∙ append_assoc b.slots b.overflow (e ∷ [])))
]

pub place_le : {E : Type 0} (b : Shelf E) → next_slot b ≤ length (shelf_entries b)
place_le b = elim (dec_lt (length b.slots) 32) [
  | yes q ↦ let c : nat_lt (length b.slots) 32 ≡ true = search rules in rw c (omega (arith, length-append b.slots b.overflow))
  | no q ↦ let c : nat_lt (length b.slots) 32 ≡ false = let r : 32 ≤ length b.slots = omega arith in search rules in rw c (omega arith)
]

tags_push : {E : Type 0} (hash : E → ℕ) (b : Shelf E) (e : E) → b.tags ≡ map (λ x. tag_of (hash x)) b.slots → (with_entry b e (tag_of (hash e))).tags ≡ map (λ x. tag_of (hash x)) (with_entry b e (tag_of (hash e))).slots
tags_push hash b e h = elim (dec_lt (length b.slots) 32) [
  | yes q ↦ let c : nat_lt (length b.slots) 32 ≡ true = search rules in rw c (ap (λ s. s ++ tag_of (hash e) ∷ []) h ∙ sym (map-append (λ x. tag_of (hash x)) b.slots (e ∷ [])))
  | no q ↦ let c : nat_lt (length b.slots) 32 ≡ false = let r : 32 ≤ length b.slots = omega arith in search rules in rw c h
]

slots_push : {E : Type 0} (b : Shelf E) (e : E) (t : ℕ) → length b.slots ≤ 32 → length (with_entry b e t).slots ≤ 32
slots_push b e t h = elim (dec_lt (length b.slots) 32) [
  | yes q ↦ let c : nat_lt (length b.slots) 32 ≡ true = search rules in rw c (omega (arith, length-append b.slots (e ∷ [])))
  | no q ↦ let c : nat_lt (length b.slots) 32 ≡ false = let r : 32 ≤ length b.slots = omega arith in search rules in rw c h
]

-- the slot of a pushed entry shows if the overflow list grew
pub overflow_push : {E : Type 0} (b : Shelf E) (e : E) (t : ℕ) → length b.slots ≤ 32
    → (next_slot b < 32 → (length (with_entry b e t).overflow ≡ length b.overflow) × (length b.slots < 32)) × (32 ≤ next_slot b → (length (with_entry b e t).overflow ≡ length b.overflow + 1) × (32 ≤ length b.slots))
overflow_push b e t h = elim (dec_lt (length b.slots) 32) [
  | yes q ↦ let c : nat_lt (length b.slots) 32 ≡ true = search rules in rw c (λ z. (refl, q), λ z. absurd (omega arith))
  | no q ↦ let c : nat_lt (length b.slots) 32 ≡ false = let r : 32 ≤ length b.slots = omega arith in search rules in
      rw c (λ z. absurd (omega (arith, length-append b.slots b.overflow)), λ z. (length-append b.overflow (e ∷ []), omega arith))
]

routed_insert : {E : Type 0} (f : E → ℕ) (i p : ℕ) (xs : List E) (e : E) → ((j : ℕ) (d : E) → j < length xs → f (get_or xs j d) ≡ i) → f e ≡ i → p ≤ length xs → (j : ℕ) (d : E) → j < length (insert xs p e) → f (get_or (insert xs p e) j d) ≡ i
routed_insert f i p xs e h w l j d lj =
    let n = length-insert xs p e l in
    elim (dec_lt j p) [
      | yes q ↦ ap f (get_or-insert_below xs p e d j q l) ∙ h j d (omega arith)
      | no q ↦ elim (dec_lt p j) [
        | yes r ↦
            let m : ℕ = j - 1 in
            let s : j ≡ m + 1 = omega arith in
            ap (λ x. f (get_or (insert xs p e) x d)) s ∙ ap f (get_or-insert_above xs p e d m (omega arith) l) ∙ h m d (omega arith)
        | no r ↦ let s : j ≡ p = omega arith in ap (λ x. f (get_or (insert xs p e) x d)) s ∙ ap f (get_or-insert_at xs p e d l) ∙ w
      ]
    ]

own_push : {E : Type 0} (hash : E → ℕ) (t k i : ℕ) (b c : Shelf E) (e : E) → IsOwn hash t k i b → i ≡ bucket_number t k (hash e) → c ≡ record (with_entry b e (tag_of (hash e))) { room = c.room } → IsOwn hash t k i c
own_push hash t k i b c e o h w = record {
  tagged = ap (λ x. x.tags) w ∙ tags_push hash b e o.tagged ∙ sym (ap (λ x. map (λ y. tag_of (hash y)) x.slots) w);
  routed = λ j d l.
      let all : shelf_entries c ≡ insert (shelf_entries b) (next_slot b) e = ap shelf_entries w ∙ entries_insert b e _ in
      ap (λ z. bucket_number t k (hash (get_or z j d))) all
      ∙ routed_insert (λ x. bucket_number t k (hash x)) i (next_slot b) (shelf_entries b) e o.routed (sym h) (place_le b) j d (subst (λ z. j < length z) all l);
  within = rw w (slots_push b e _ o.within);
}

own_same : {E : Type 0} (hash : E → ℕ) (t k i : ℕ) (b c : Shelf E) → IsOwn hash t k i b → c ≡ record b { room = c.room } → IsOwn hash t k i c
own_same hash t k i b c o w = subst (IsOwn hash t k i) (sym w) (record { tagged = o.tagged; routed = o.routed; within = o.within })

-- to insert into one list is to insert into the joined lists
flat_insert : {E : Type 0} (ls : List (List E)) (i p : ℕ) (e : E) → i < length ls → p ≤ length (get_or ls i [])
    → flat_map (λ l. l) (set ls i (insert (get_or ls i []) p e)) ≡ insert (flat_map (λ l. l) ls) (before ls i + p) e
flat_insert [] i p e l q = absurd (omega arith)
flat_insert (l ∷ ls) zero p e h q = let z : 0 + p ≡ p = omega arith in rw z (sym (insert-append_left l (flat_map (λ x. x) ls) p e q))
flat_insert (l ∷ ls) (suc i) p e h q =
    let f = flat_map (λ x. x) (take i ls) in
    let far : length (l ++ f) + p ≡ length l + (length f + p) = omega (arith, length-append l f) in
    let ih = flat_insert ls i p e (omega arith) q in
    let near : length l + (length f + p) - length l ≡ length f + p = omega arith in
    ap (λ z. l ++ z) ih
    ∙ sym (ap (λ n. insert (l ++ flat_map (λ x. x) ls) n e) far ∙ insert-append_right l (flat_map (λ x. x) ls) (length l) (length l + (length f + p)) e refl (omega arith) ∙ ap (λ n. l ++ insert (flat_map (λ x. x) ls) n e) near)

before-le : {E : Type 0} (ls : List (List E)) (i p : ℕ) → i < length ls → p ≤ length (get_or ls i []) → before ls i + p ≤ length (flat_map (λ l. l) ls)
before-le [] i p h q = absurd (omega arith)
before-le (l ∷ ls) zero p h q = omega (arith, length-append l (flat_map (λ x. x) ls))
before-le (l ∷ ls) (suc i) p h q =
    let ih = before-le ls i p (omega arith) q in
    omega (arith, length-append l (flat_map (λ x. x) ls), length-append l (flat_map (λ x. x) (take i ls)))

take-set : {X : Type 0} (xs : List X) (i : ℕ) (x : X) → take i (set xs i x) ≡ take i xs
take-set [] zero x = refl
take-set [] (suc i) x = refl
take-set (y ∷ xs) zero x = refl
take-set (y ∷ xs) (suc i) x = ap (λ z. y ∷ z) (take-set xs i x)

pub by_answer : {P : Type 0} (b : Bool) → (b ≡ true → P) → (b ≡ false → P) → P
by_answer true p q = p refl
by_answer false p q = q refl

pub none_left : (o : Option ℕ) → option_map suc o ≡ None → o ≡ None
none_left None e = refl
none_left (Some k) e = absurd (let z : Some (suc k) ≡ None = e in cc)

-- if no entry has the key, the key is apart from all keys
pub none-apart : {E K : Type 0} (eq : K → K → Bool) (key : E → K) (k : K) (es : List E) → position (λ e. eq k (key e)) es ≡ None → AllByRecursion (λ y. eq k y ≡ false) (map key es)
none-apart eq key k [] n = tt
none-apart {E} eq key k (e ∷ es) n = by_answer (eq k (key e))
    (λ y. absurd (let z : Some 0 ≡ None = sym (position_hit (λ (x : E). eq k (key x)) e es y) ∙ n in cc))
    (λ y. (y, none-apart eq key k es (none_left (position (λ (x : E). eq k (key x)) es) (sym (position_cons (λ (x : E). eq k (key x)) e es y) ∙ n))))

-- keys stay distinct if an entry with a new key is added
pub unique-inserted : {E K : Type 0} {eq : K → K → Bool} (laws : IsEquivalence eq) (key : E → K) (e : E) (es ds : List E) → IsDistinct eq (map key es) → position (λ x. eq (key e) (key x)) es ≡ None → IsPermutation (e ∷ es) ds
    → IsDistinct eq (map key ds)
unique-inserted {eq = eq} laws key e es ds d n p =
    IsDistinct-IsPermutation eq laws.symm (key e ∷ map key es) (map key ds) (IsPermutation-map key (e ∷ es) ds p) (IsDistinct-cons eq (key e) (map key es) (none-apart eq key (key e) es n) d)

module _ {E S : Type 0} (hash : E → ℕ) (t n o i : ℕ) (bs : List (Shelf E)) (h : IsBuckets hash t bs n o) (s : Settings S) {f : Bool × Bool} (c : Contents E S) (view : view_of f bs s ≡ c) (b : Shelf E) (l : i < length bs) (at : b ≡ get_or bs i b) where
  list-here : get_or (map shelf_entries bs) i [] ≡ shelf_entries b
  list-here = get_or-map shelf_entries bs i b [] l ∙ ap shelf_entries (sym at)

  pub entries-lists : entries c ≡ flat_map (λ l. l) (map shelf_entries bs)
  unfolding entries
  entries-lists = ap (λ (x : Contents E S). flat_map (λ l. l) x.lists) (sym view)

  module _ (d : Shelf E) (e : E) (slot : ℕ) (new : d ≡ record (with_entry b e (tag_of (hash e))) { room = d.room }) (place : slot ≡ next_slot b) where
    new-list : shelf_entries d ≡ insert (get_or (map shelf_entries bs) i []) slot e
    new-list = ap shelf_entries new ∙ entries_insert b e _ ∙ ap (λ k. insert (shelf_entries b) k e) (sym place) ∙ ap (λ z. insert z slot e) (sym list-here)

    slot-le : slot ≤ length (get_or (map shelf_entries bs) i [])
    slot-le = rw (list-here, place) (place_le b)

    new-lists : map shelf_entries (set bs i d) ≡ set (map shelf_entries bs) i (insert (get_or (map shelf_entries bs) i []) slot e)
    new-lists = map-set shelf_entries bs i d ∙ ap (set (map shelf_entries bs) i) new-list

    pub new-entries : flat_map (λ l. l) (map shelf_entries (set bs i d)) ≡ insert (flat_map (λ l. l) (map shelf_entries bs)) (before (map shelf_entries bs) i + slot) e
    new-entries =
        let ll : i < length (map shelf_entries bs) = rw (length-map bs shelf_entries) l in
        ap (flat_map (λ l. l)) new-lists ∙ flat_insert (map shelf_entries bs) i slot e ll slot-le

    pub permuted : IsPermutation (e ∷ flat_map (λ l. l) (map shelf_entries bs)) (flat_map (λ l. l) (map shelf_entries (set bs i d)))
    permuted = rw new-entries (IsPermutation-insert (flat_map (λ l. l) (map shelf_entries bs)) (before (map shelf_entries bs) i + slot) e)

    pub inserted-holds : Holds c (e ∷ entries c) (view_of f (set bs i d) s)
    unfolding entries bucket_count settings_of
    inserted-holds =
        let count : length (map shelf_entries (set bs i d)) ≡ bucket_count c = length-map (set bs i d) shelf_entries ∙ length-set bs i d ∙ sym (count-view bs s c view) in
        record {
          same = rw entries-lists permuted;
          size = record { lawful = inl count; minimum = λ less. absurd (omega (arith, count)) };
          settings = sym (settings-view bs s c view);
        }

    pub inserted-at : IsInsertedAtSpot c e (view_of f (set bs i d) s) (record { bucket = i; slot = slot })
    unfolding entries bucket_count list_of index_of_spot
    inserted-at =
        let ls : List (List E) = map shelf_entries bs in
        let ll : i < length ls = rw (length-map bs shelf_entries) l in
        let low : before ls i + slot ≤ length (flat_map (λ l. l) ls) = before-le ls i slot ll slot-le in
        let idx : before (map shelf_entries (set bs i d)) i + slot ≡ before ls i + slot = ap (λ z. length (flat_map (λ l. l) z) + slot) (ap (take i) new-lists ∙ take-set ls i (insert (get_or ls i []) slot e)) in
        record {
          holds = inserted-holds;
          within = record {
            bucket = rw (length-map (set bs i d) shelf_entries, length-set bs i d) l;
            slot =
                let here : get_or (map shelf_entries (set bs i d)) i [] ≡ insert (get_or ls i []) slot e = ap (λ z. get_or z i []) new-lists ∙ get_or-set_same ls i (insert (get_or ls i []) slot e) [] ll in
                let len : length (insert (get_or ls i []) slot e) ≡ length (get_or ls i []) + 1 = length-insert (get_or ls i []) slot e slot-le in
                let q : slot < length (insert (get_or ls i []) slot e) = let a = slot-le in omega arith in
                subst (λ z. slot < length z) (sym here) q;
          };
          here =
              let len : length (insert (flat_map (λ l. l) ls) (before ls i + slot) e) ≡ length (flat_map (λ l. l) ls) + 1 = length-insert (flat_map (λ l. l) ls) (before ls i + slot) e low in
              let got = get-index (insert (flat_map (λ l. l) ls) (before ls i + slot) e) (before ls i + slot) e (omega arith) (sym (get_or-insert_at (flat_map (λ l. l) ls) (before ls i + slot) e e low)) in
              rw (new-entries, idx) got;
        }

    pub inserted-table : (q : ℕ) → i ≡ bucket_number t (length bs) (hash e) → q + length b.overflow ≡ o + length d.overflow → q < 2 ^ 62 → IsBuckets hash t (set bs i d) (n + 1) q
    inserted-table q r v few =
        let grown : length (shelf_entries d) ≡ length (shelf_entries b) + 1 = ap (λ x. length (shelf_entries x)) new ∙ ap length (entries_insert b e _) ∙ length-insert (shelf_entries b) (next_slot b) e (place_le b) in
        table_set hash t n o (n + 1) q i bs b d h l at (own_push hash t (length bs) i b d e (h.own i b l at) r new) (omega arith) v few

    pub overflow-full : 32 ≤ slot → 32 ≤ length b.slots
    overflow-full q = ((overflow_push b e (tag_of (hash e)) (h.own i b l at).within).1 (rw place at q)).1

    -- the count of entries in overflow lists afterwards
    pub overflow-after : (r : ℕ) → (slot < 32 → r ≡ 0) → (32 ≤ slot → r ≡ 1) → o + r + length b.overflow ≡ o + length d.overflow
    overflow-after r lower upper =
        let p = overflow_push b e (tag_of (hash e)) (h.own i b l at).within in
        elim (dec_lt slot 32) [
          | yes q ↦ let z = lower q in let g : length d.overflow ≡ length b.overflow = ap (λ x. length x.overflow) new ∙ (p.0 (rw place at q)).0 in omega arith
          | no q ↦ let high : 32 ≤ slot = omega arith in let z = upper high in let g : length d.overflow ≡ length b.overflow + 1 = ap (λ x. length x.overflow) new ∙ (p.1 (rw place at high)).0 in omega arith
        ]

  module _ (d : Shelf E) (new : d ≡ record b { room = d.room }) where
    same-lists : map shelf_entries (set bs i d) ≡ map shelf_entries bs
    same-lists = map-set_same shelf_entries bs i d b (ap shelf_entries new ∙ ap shelf_entries at)

    -- a refused growth doesn't change the contents
    pub refused-unchanged : IsUnchanged c (view_of f (set bs i d) s)
    unfolding entries bucket_count settings_of
    refused-unchanged = record {
      exact = ap (flat_map (λ l. l)) same-lists ∙ sym entries-lists;
      buckets = length-map (set bs i d) shelf_entries ∙ length-set bs i d ∙ sym (count-view bs s c view);
      settings = sym (settings-view bs s c view);
    }

    pub refused-entries : flat_map shelf_entries (set bs i d) ≡ flat_map shelf_entries bs
    refused-entries = sym (flat_lists (set bs i d)) ∙ ap (flat_map (λ l. l)) same-lists ∙ flat_lists bs

    pub refused-table : IsBuckets hash t (set bs i d) n o
    refused-table =
        let same : length (shelf_entries d) ≡ length (shelf_entries b) = ap (λ x. length (shelf_entries x)) new in
        let over : length d.overflow ≡ length b.overflow = ap (λ x. length x.overflow) new in
        table_set hash t n o n o i bs b d h l at (own_same hash t (length bs) i b d (h.own i b l at) new) (omega arith) (omega arith) h.few

-- a table has at most 32 entries a bucket, plus the entries in overflow lists
pub sum-bound : {E : Type 0} (bs : List (Shelf E)) → ((i : ℕ) (b : Shelf E) → i < length bs → b ≡ get_or bs i b → length b.slots ≤ 32)
    → sum_by (λ b. length (shelf_entries b)) bs ≤ 32 * length bs + sum_by (λ b. length b.overflow) bs
sum-bound [] f = omega arith
sum-bound {E} (b ∷ bs) f =
    let ih = sum-bound bs (λ i a l at. f (suc i) a (omega arith) at) in
    let here : length b.slots ≤ 32 = f 0 b (omega arith) refl in
    let one = sum_by-cons (λ (x : Shelf E). length (shelf_entries x)) b bs in
    let two = sum_by-cons (λ (x : Shelf E). length x.overflow) b bs in
    omega (arith, length-append b.slots b.overflow)

pub lawful-most : (n : ℕ) → IsLawful n → n ≤ 2 ^ 58
lawful-most n h = elim h [ inl z ↦ omega arith | inr a ↦ a.most ]

pub table-bound : {E : Type 0} (hash : E → ℕ) (t n o : ℕ) (bs : List (Shelf E)) → IsBuckets hash t bs n o → n < 2 ^ 63 + 2 ^ 62
table-bound hash t n o bs h =
    let m = lawful-most (length bs) h.sized in
    let s = sum-bound bs (λ i b l at. (h.own i b l at).within) in
    omega (arith, h.counted, h.spilled, h.few)

pub bucket-bound : {E : Type 0} (hash : E → ℕ) (t n o i : ℕ) (bs : List (Shelf E)) (b : Shelf E) → IsBuckets hash t bs n o → i < length bs → b ≡ get_or bs i b → length (shelf_entries b) < 2 ^ 63
bucket-bound {E} hash t n o i bs b h l at =
    let f : Shelf E → ℕ = λ x. length x.overflow in
    let m = get_or-le-sum_by f bs i b l in
    let e : f (get_or bs i b) ≡ f b = ap f (sym at) in
    omega (arith, length-append b.slots b.overflow, (h.own i b l at).within, h.spilled, h.few)

-- two reads of one bucket are equal
pub read-again : {X : Type 0} (xs : List X) (i : ℕ) (a b : X) → i < length xs → a ≡ get_or xs i a → b ≡ get_or xs i b → a ≡ b
read-again xs i a b l p q = p ∙ get_or_default xs i a b l ∙ sym q
