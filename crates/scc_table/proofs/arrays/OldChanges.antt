-- The contents of both arrays after one entry of the old array is written or taken out.
use Rattle.std.proofs.Common.{◌≡◌, ◌==◌, ℕ, zero, suc, ◌+◌, ◌<◌, ◌≤◌, ◌≢◌, inl, inr, Bool, true, false, cond, Some, List, [], ◌∷◌, ◌++◌, length, map, take, drop, set, refl, sym, ap, ◌∙◌, subst, arith, append_assoc, length-set, get_or-set_same, get_or-set_other, eq-eqb}
use Rattle.std.specs.List.{filter, flat_map, slice_get, sum_by, remove, IsDistinct}
use Rattle.std.proofs.lemmas.List.{nil_from_length, set-get_or, take-append-drop}
use Rattle.std.proofs.lemmas.List.Elements.{filter-append}
use native.Mathlib.Decide.{dec_lt}
use Rattle.scc_array.specs.Shelves.{shelf_of}
use Rattle.scc_array.specs.Shelf.{Shelf, shelf_entries, empty_shelf}
use Rattle.scc_array.specs.ShelfWrites.{write_at}
use Rattle.scc_common.specs.Contents.{Contents, entries, bucket_count, list_of, lists_of, settings_of}
use Rattle.scc_buckets.specs.Pour.{destined_for}
use Rattle.scc_common.specs.Sizes.{IsBucketCount}
use Rattle.scc_buckets.specs.Tables.{IsOwn, overflow_in}
use Rattle.scc_buckets.proofs.Arrays.{drop-got}
use Rattle.scc_draining.specs.Stepping.{entries_before}
use Rattle.scc_draining.specs.Moves.{AreMultiples}
use Rattle.scc_draining.specs.Drainings.{Draining}
use Rattle.scc_table.specs.TwoArrays.{waits_at, target_by, together, TwoArrays, IsTable}
use Rattle.scc_table.proofs.arrays.ListChanges.{joined-changed}
use Rattle.scc_table.proofs.arrays.JoinedLists.{lists-together}
use Rattle.scc_table.proofs.places.OldSpots.{old-waits, old-long, old-within}
use Rattle.scc_table.proofs.relocations.Preparation.{waiting-list}
use Rattle.scc_table.proofs.relocations.Fields.{count-is}
use Rattle.scc_draining.proofs.Others.{not_equal}

-- the entries of the old array after slot s of bucket j, in the order of the buckets
abbrev pub entries_after : {E : Type 0} → List (Shelf E) → ℕ → ℕ → List E
entries_after olds j s = drop (suc s) (shelf_entries (shelf_of olds j)) ++ flat_map shelf_entries (drop (suc j) olds)

-- the entries of the old array after bucket j gets the entries mid in place of its entry at slot s
pub flat-around : {E : Type 0} (olds : List (Shelf E)) (j s : ℕ) (b : Shelf E) (mid : List E) → j < length olds → shelf_entries b ≡ take s (shelf_entries (shelf_of olds j)) ++ (mid ++ drop (suc s) (shelf_entries (shelf_of olds j)))
    → flat_map shelf_entries (set olds j b) ≡ entries_before olds j s ++ (mid ++ entries_after olds j s)
flat-around [] j s b mid l own = absurd (omega arith)
flat-around (a ∷ olds) zero s b mid l own =
    let es = shelf_entries a in
    let os = flat_map shelf_entries olds in
    ap (λ z. z ++ os) own ∙ append_assoc (take s es) (mid ++ drop (suc s) es) os ∙ ap (λ z. take s es ++ z) (append_assoc mid (drop (suc s) es) os)
flat-around (a ∷ olds) (suc j) s b mid l own =
    let bs = shelf_entries a in
    let xs = flat_map shelf_entries (take j olds) in
    let ys = take s (shelf_entries (shelf_of olds j)) in
    let rest = mid ++ entries_after olds j s in
    ap (λ z. bs ++ z) (flat-around olds j s b mid (omega arith) own) ∙ sym (append_assoc bs (xs ++ ys) rest) ∙ ap (λ z. z ++ rest) (sym (append_assoc bs xs ys))

pub around : {X : Type 0} (xs : List X) (s : ℕ) (x : X) → slice_get xs s ≡ Some x → xs ≡ take s xs ++ (x ∷ [] ++ drop (suc s) xs)
around xs s x got = sym (take-append-drop s xs) ∙ ap (λ z. take s xs ++ z) (drop-got xs s x got)

-- the entries of the old array are those before the entry e, e itself, and those after e
pub flat-split : {E : Type 0} (olds : List (Shelf E)) (j s : ℕ) (e : E) → j < length olds → slice_get (shelf_entries (shelf_of olds j)) s ≡ Some e → flat_map shelf_entries olds ≡ entries_before olds j s ++ (e ∷ entries_after olds j s)
flat-split olds j s e l got =
    ap (flat_map shelf_entries) (sym (set-get_or olds j empty_shelf)) ∙ flat-around olds j s (shelf_of olds j) (e ∷ []) l (around (shelf_entries (shelf_of olds j)) s e got)

pub write-middle : {X Y : Type 0} (put : X → Y → X) (xs : List X) (x : X) (ys : List X) (w : Y) → write_at put (xs ++ x ∷ ys) (length xs) w ≡ xs ++ put x w ∷ ys
write-middle put [] x ys w = refl
write-middle put (z ∷ xs) x ys w = ap (λ l. z ∷ l) (write-middle put xs x ys w)

pub remove-middle : {X : Type 0} (xs : List X) (x : X) (ys : List X) → remove (xs ++ x ∷ ys) (length xs) ≡ xs ++ ys
remove-middle [] x ys = refl
remove-middle (z ∷ xs) x ys = ap (λ l. z ∷ l) (remove-middle xs x ys)

-- bucket j of the old array is written over by b
module _ {E S : Type 0} (hash : E → ℕ) (c : Contents E S) (ws : List Bool) (olds : List (Shelf E)) (arrays : TwoArrays hash c ws olds) (j : ℕ) (lj : j < length olds) (b : Shelf E) where
  -- if only the entries of the waiting bucket i change, and become xs, only its list changes
  pub lists-over : (i : ℕ) (xs : List E) → waits_at ws i ≡ true → i < bucket_count c → destined_for hash (settings_of c).skipped (bucket_count c) i (flat_map shelf_entries (set olds j b)) ≡ xs
      → ((k : ℕ) → k ≢ i → destined_for hash (settings_of c).skipped (bucket_count c) k (flat_map shelf_entries (set olds j b)) ≡ destined_for hash (settings_of c).skipped (bucket_count c) k (flat_map shelf_entries olds))
      → lists_of (together hash c ws (set olds j b)) ≡ set (lists_of (together hash c ws olds)) i xs
  lists-over i xs up within here others =
      let near : 0 + i ≡ i = omega arith in
      let f = target_by hash c in
      lists-together hash c ws (set olds j b)
      ∙ joined-changed f (flat_map shelf_entries olds) (flat_map shelf_entries (set olds j b)) 0 i ws (lists_of c) xs up (omega (arith, count-is c))
      (ap (λ n. filter (λ x. f x == n) (flat_map shelf_entries (set olds j b))) near ∙ here) (λ k ne. others k (λ z. ne (z ∙ sym near)))
      ∙ ap (λ z. set z i xs) (sym (lists-together hash c ws olds))

  -- if b holds entries of bucket j alone, and the buckets that don't wait still have none, `TwoArrays` still holds
  pub arrays-over : IsOwn hash (settings_of c).skipped (length olds) j b
      → ((k : ℕ) → waits_at ws k ≡ false → destined_for hash (settings_of c).skipped (bucket_count c) k (flat_map shelf_entries (set olds j b)) ≡ destined_for hash (settings_of c).skipped (bucket_count c) k (flat_map shelf_entries olds))
      → TwoArrays hash c ws (set olds j b)
  arrays-over ours others =
      let news = set olds j b in
      let n : length news ≡ length olds = length-set olds j b in
      let t = (settings_of c).skipped in
      record {
        flags = arrays.flags;
        multiples = elim arrays.multiples [ inl z ↦ inl z | inr z ↦ inr (subst (λ m. AreMultiples m (bucket_count c)) (sym n) z) ];
        sized = elim arrays.sized [ inl z ↦ inl z | inr z ↦ inr (subst IsBucketCount (sym n) z) ];
        own = record {
          own = λ k l.
              let apart = λ (ne : k ≢ j). subst (λ m. IsOwn hash t m k (shelf_of news k)) (sym n) (subst (IsOwn hash t (length olds) k) (sym (get_or-set_other olds j k b empty_shelf ne)) (arrays.own.own k (omega arith))) in
              elim (dec_lt k j) [
                | yes r ↦ apart (omega arith)
                | no r ↦ elim (dec_lt j k) [
                  | yes q ↦ apart (omega arith)
                  | no q ↦
                      let here : k ≡ j = omega arith in
                      let at : shelf_of news k ≡ b = ap (shelf_of news) here ∙ get_or-set_same olds j b empty_shelf lj in
                      subst (λ m. IsOwn hash t m k (shelf_of news k)) (sym n) (subst (IsOwn hash t (length olds) k) (sym at) (subst (λ m. IsOwn hash t (length olds) m b) (sym here) ours))
                ]
              ];
        };
        not_waiting = λ k down. others k down ∙ arrays.not_waiting k down;
        bare = arrays.bare;
      }

module _ {E S : Type 0} (hash : E → ℕ) (c : Contents E S) (ws : List Bool) (olds : List (Shelf E)) (arrays : TwoArrays hash c ws olds) (j s : ℕ) (e : E) (lj : j < length olds) (got : slice_get (shelf_entries (shelf_of olds j)) s ≡ Some e) where
  -- the entries before e in the list of its bucket; `list_back` has the entries after e
  abbrev pub list_front : List E
  list_front = destined_for hash (settings_of c).skipped (bucket_count c) (target_by hash c e) (entries_before olds j s)

  abbrev pub list_back : List E
  list_back = destined_for hash (settings_of c).skipped (bucket_count c) (target_by hash c e) (entries_after olds j s)

  pub list-split : list_of (together hash c ws olds) (target_by hash c e) ≡ list_front ++ e ∷ list_back
  list-split =
      let i = target_by hash c e in
      let q : E → Bool = λ x. target_by hash c x == i in
      let up = old-waits hash c ws olds arrays j s e lj got in
      let long = old-long hash c ws olds arrays j s e lj got in
      let here : (target_by hash c e == i) ≡ true = eq-eqb _ _ refl in
      let one : filter q (e ∷ entries_after olds j s) ≡ e ∷ filter q (entries_after olds j s) = ap (λ (v : Bool). cond v (e ∷ filter q (entries_after olds j s)) (filter q (entries_after olds j s))) here in
      waiting-list hash c ws olds arrays i up long ∙ ap (filter q) (flat-split olds j s e lj got) ∙ filter-append q (entries_before olds j s) (e ∷ entries_after olds j s) ∙ ap (λ z. list_front ++ z) one

  module _ (b : Shelf E) (mid : List E) (own : shelf_entries b ≡ take s (shelf_entries (shelf_of olds j)) ++ (mid ++ drop (suc s) (shelf_entries (shelf_of olds j))))
      (same : (k : ℕ) → filter (λ x. target_by hash c x == k) mid ≡ cond (target_by hash c e == k) mid []) where
    flat-new : flat_map shelf_entries (set olds j b) ≡ entries_before olds j s ++ (mid ++ entries_after olds j s)
    flat-new = flat-around olds j s b mid lj own

    destined-new : (k : ℕ) → destined_for hash (settings_of c).skipped (bucket_count c) k (flat_map shelf_entries (set olds j b))
        ≡ destined_for hash (settings_of c).skipped (bucket_count c) k (entries_before olds j s) ++ (cond (target_by hash c e == k) mid [] ++ destined_for hash (settings_of c).skipped (bucket_count c) k (entries_after olds j s))
    destined-new k =
        let q : E → Bool = λ x. target_by hash c x == k in
        ap (filter q) flat-new ∙ filter-append q (entries_before olds j s) (mid ++ entries_after olds j s)
        ∙ ap (λ z. filter q (entries_before olds j s) ++ z) (filter-append q mid (entries_after olds j s) ∙ ap (λ z. z ++ filter q (entries_after olds j s)) (same k))

    -- in the list of the bucket of e, the entries mid stand in place of e
    destined-here : destined_for hash (settings_of c).skipped (bucket_count c) (target_by hash c e) (flat_map shelf_entries (set olds j b)) ≡ list_front ++ (mid ++ list_back)
    destined-here =
        let i = target_by hash c e in
        let here : (target_by hash c e == i) ≡ true = eq-eqb _ _ refl in
        destined-new i ∙ ap (λ (v : Bool). list_front ++ (cond v mid [] ++ list_back)) here

    -- the entries of each other bucket stay
    destined-other : (k : ℕ) → k ≢ target_by hash c e → destined_for hash (settings_of c).skipped (bucket_count c) k (flat_map shelf_entries (set olds j b)) ≡ destined_for hash (settings_of c).skipped (bucket_count c) k (flat_map shelf_entries olds)
    destined-other k ne =
        let q : E → Bool = λ x. target_by hash c x == k in
        let off : (target_by hash c e == k) ≡ false = not_equal _ _ (λ z. ne (sym z)) in
        let fs = filter q (entries_before olds j s) in
        let gs = filter q (entries_after olds j s) in
        destined-new k ∙ ap (λ (v : Bool). fs ++ (cond v mid [] ++ gs)) off
        ∙ sym (ap (filter q) (flat-split olds j s e lj got) ∙ filter-append q (entries_before olds j s) (e ∷ entries_after olds j s) ∙ ap (λ (v : Bool). fs ++ cond v (e ∷ gs) gs) off)

    pub old-lists : lists_of (together hash c ws (set olds j b)) ≡ set (lists_of (together hash c ws olds)) (target_by hash c e) (list_front ++ (mid ++ list_back))
    old-lists = lists-over hash c ws olds arrays j lj b (target_by hash c e) (list_front ++ (mid ++ list_back)) (old-waits hash c ws olds arrays j s e lj got) (old-within hash c ws olds arrays j s e lj got) destined-here destined-other

    pub old-arrays : IsOwn hash (settings_of c).skipped (length olds) j b → TwoArrays hash c ws (set olds j b)
    old-arrays ours = arrays-over hash c ws olds arrays j lj b ours (λ k down. destined-other k (λ z. let q : false ≡ true = sym down ∙ ap (waits_at ws) z ∙ old-waits hash c ws olds arrays j s e lj got in absurd (let q2 = q in cc)))

-- the invariant `IsTable` holds after the old array becomes news
pub old-fields : {E K S : Type 0} (eq : K → K → Bool) (key : E → K) (hash : K → ℕ) (c : Contents E S) (drain : Draining E) (news : List (Shelf E)) (kept : ℕ) → IsTable eq key hash c drain
    → TwoArrays (λ e. hash (key e)) c drain.waiting news → length news ≡ length drain.array → kept ≡ sum_by (λ b. length (shelf_entries b)) news → overflow_in news ≤ drain.left_overflow → IsDistinct eq (map key (entries (together (λ e. hash (key e)) c drain.waiting news)))
    → IsTable eq key hash c (record drain { array = news; left = kept })
old-fields eq key hash c drain news kept inv arrays long count over unique = record {
  arrays = arrays;
  counted = inv.counted;
  none = inv.none;
  given_back = λ z. nil_from_length news (long ∙ ap length (inv.given_back z));
  nothing_left = inv.nothing_left;
  below = inv.below;
  left_is = count;
  overflow_is = over;
  few = inv.few;
  unique = unique;
}
