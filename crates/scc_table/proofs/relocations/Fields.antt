-- The fields of a table of two arrays after a bucket is relocated.
use Rattle.std.proofs.Common.{◌≡◌, ◌==◌, ℕ, suc, ◌+◌, ◌-◌, ◌^◌, ◌<◌, ◌≤◌, ◌≢◌, inl, inr, Bool, true, false, not, List, [], ◌∷◌, length, map, set, get_or, refl, sym, ap, ◌∙◌, subst, arith, length-set, get_or-set_same, get_or-set_other, eq-eqb}
use Rattle.std.specs.List.{filter, flat_map, count_by, sum_by, IsDistinct}
use Rattle.std.proofs.lemmas.List.Concat.{length-flat_map}
use Rattle.std.proofs.lemmas.List.Filters.{length-filter_both}
use Rattle.std.proofs.lemmas.List.Sums.{sum_by-cons}
use native.Mathlib.Decide.{dec_lt}
use Rattle.scc_array.specs.Shelves.{shelf_of}
use Rattle.scc_array.specs.Shelf.{Shelf, shelf_entries}
use Rattle.scc_common.specs.Contents.{Contents, entries, bucket_count, list_of, lists_of, settings_of, overflow_of, waiting_of}
use Rattle.scc_buckets.specs.Pour.{destined_for}
use Rattle.scc_common.specs.Routing.{bucket_number}
use Rattle.scc_common.specs.Sizes.{IsBucketCount}
use Rattle.scc_buckets.specs.Tables.{overflow_in}
use Rattle.scc_buckets.proofs.PairSplits.{by_answer}
use Rattle.scc_draining.specs.Moves.{others_for, AreMultiples, AreOwn, TakesOver}
use Rattle.scc_draining.specs.Drainings.{Draining}
use Rattle.scc_draining.specs.Waiting.{cleared}
use Rattle.scc_table.specs.TwoArrays.{joined, waits_at, target_by, together, owed_in, owed_without, TwoArrays, IsTable, IsRelocated}
use Rattle.scc_table.proofs.arrays.OneArray.{entries-alone, fields-alone, nothing-owed}
use Rattle.scc_table.proofs.arrays.JoinedLists.{lists-together, owed-together, settings-together, refused-together, waiting-together, pending-together}
use Rattle.scc_draining.proofs.Flags.{none-up, one-down, up-within}
use Rattle.scc_draining.proofs.Others.{not_equal, destined-others_none, destined-others_same, flat-others}
use Rattle.scc_table.proofs.relocations.Contents.{joined-none, joined-moved}

pub count-is : {E S : Type 0} (c : Contents E S) → bucket_count c ≡ length (lists_of c)
unfolding bucket_count lists_of
count-is c = refl

pub list-is : {E S : Type 0} (c : Contents E S) (i : ℕ) → list_of c i ≡ get_or (lists_of c) i []
unfolding list_of lists_of
list-is c i = refl

pub spilled-le : {E : Type 0} (olds news : List (Shelf E)) → length news ≡ length olds → ((j : ℕ) → length (shelf_of news j).overflow ≤ length (shelf_of olds j).overflow) → overflow_in news ≤ overflow_in olds
spilled-le [] [] l h = omega arith
spilled-le [] (b ∷ news) l h = absurd (omega arith)
spilled-le (a ∷ olds) [] l h = absurd (omega arith)
spilled-le {E} (a ∷ olds) (b ∷ news) l h =
    let f : Shelf E → ℕ = λ x. length x.overflow in
    let p = sum_by-cons f a olds in
    let q = sum_by-cons f b news in
    let rest : sum_by f news ≤ sum_by f olds = spilled-le olds news (omega arith) (λ j. h (suc j)) in
    let first : f b ≤ f a = h 0 in
    let goal_is : sum_by f (b ∷ news) ≤ sum_by f (a ∷ olds) = omega arith in
    goal_is

-- the flags after bucket i is relocated: bucket i doesn't wait, and if no other bucket waits, there are no flags
pub data Settles (ws : List Bool) (i : ℕ) (vs : List Bool) : Type 0 where
  others : vs ≡ set ws i false → 0 < count_by (λ w. w) (set ws i false) → Settles ws i vs
  last : vs ≡ [] → count_by (λ w. w) (set ws i false) ≡ 0 → Settles ws i vs

pub flags-after : {ws vs : List Bool} {i : ℕ} → Settles ws i vs → (k : ℕ) → waits_at vs k ≡ waits_at (set ws i false) k
flags-after (others e some) k = ap (λ w. waits_at w k) e
flags-after {ws} {i = i} (last e none) k = ap (λ w. waits_at w k) e ∙ sym (none-up (set ws i false) none k)

pub count-after : {ws vs : List Bool} {i : ℕ} → Settles ws i vs → count_by (λ w. w) vs ≡ count_by (λ w. w) (set ws i false)
count-after (others e some) = ap (count_by (λ w. w)) e
count-after (last e none) = ap (count_by (λ w. w)) e ∙ sym none

module _ {E S : Type 0} (hash : E → ℕ) (i n : ℕ) (c d : Contents E S) (ws vs : List Bool) (olds news : List (Shelf E)) (arrays : TwoArrays hash c ws olds) (up : waits_at ws i ≡ true) (takes : TakesOver hash i n c olds d news) (settles : Settles ws i vs) where
  pub flags-long : length ws ≡ bucket_count c
  flags-long = elim arrays.flags [
    | inl z ↦ absurd (let q : false ≡ true = ap (λ w. waits_at w i) (sym z) ∙ up in cc)
    | inr z ↦ z
  ]

  pub counts : bucket_count d ≡ bucket_count c
  counts = count-is d ∙ ap length takes.lists ∙ length-set (lists_of c) i (destined_for hash (settings_of c).skipped (bucket_count c) i (flat_map shelf_entries olds)) ∙ sym (count-is c)

  pub target-same : target_by hash d ≡ target_by hash c
  target-same =
      let f : E → ℕ = target_by hash d in
      ap (λ s. let g : E → ℕ = λ e. bucket_number s.skipped (bucket_count d) (hash e) in g) takes.settings ∙ ap (λ m. let g : E → ℕ = λ e. bucket_number (settings_of c).skipped m (hash e) in g) counts

  pub flat-after : flat_map shelf_entries news ≡ others_for hash (settings_of c).skipped (bucket_count c) i (flat_map shelf_entries olds)
  flat-after = flat-others hash (settings_of c).skipped (bucket_count c) i olds news takes.count takes.kept

  pub joined-after : joined (target_by hash d) 0 vs (lists_of d) (flat_map shelf_entries news) ≡ joined (target_by hash c) 0 ws (lists_of c) (flat_map shelf_entries olds)
  joined-after =
      let f = target_by hash c in
      let es = flat_map shelf_entries olds in
      let os = others_for hash (settings_of c).skipped (bucket_count c) i es in
      let b = destined_for hash (settings_of c).skipped (bucket_count c) i es in
      let ls = set (lists_of c) i b in
      let l : length ws ≡ length (lists_of c) = flags-long ∙ count-is c in
      let moved = joined-moved f es os ws (lists_of c) i l up (λ k ne. destined-others_same hash (settings_of c).skipped (bucket_count c) i k ne es) in
      let long : length (set ws i false) ≡ length ls = length-set ws i false ∙ l ∙ sym (length-set (lists_of c) i b) in
      ap (λ g. joined g 0 vs (lists_of d) (flat_map shelf_entries news)) target-same ∙ ap (λ z. joined f 0 vs z (flat_map shelf_entries news)) takes.lists ∙ ap (λ z. joined f 0 vs ls z) flat-after
      ∙ elim settles [
        | others e some ↦ ap (λ w. joined f 0 w ls os) e ∙ moved
        | last e none ↦ ap (λ w. joined f 0 w ls os) e ∙ sym (joined-none f os 0 (set ws i false) ls long (none-up (set ws i false) none)) ∙ moved
      ]

  pub arrays-after : TwoArrays hash d vs news
  arrays-after = record {
    flags = elim settles [ others e some ↦ inr (ap length e ∙ length-set ws i false ∙ flags-long ∙ sym counts) | last e none ↦ inl e ];
    multiples = elim arrays.multiples [
      | inl z ↦ absurd (let q : false ≡ true = ap (λ w. waits_at w i) (sym z) ∙ up in cc)
      | inr z ↦ inr (subst (λ m. AreMultiples m (bucket_count d)) (sym takes.count) (subst (AreMultiples (length olds)) (sym counts) z))
    ];
    sized = elim arrays.sized [
      | inl z ↦ absurd (let q : false ≡ true = ap (λ w. waits_at w i) (sym z) ∙ up in cc)
      | inr z ↦ inr (subst IsBucketCount (sym takes.count) z)
    ];
    own = subst (λ s. AreOwn hash s.skipped news) (sym takes.settings) takes.own;
    not_waiting = λ k down.
        let es = flat_map shelf_entries olds in
        let flag = sym (flags-after settles k) ∙ down in
        let there : destined_for hash (settings_of d).skipped (bucket_count d) k (flat_map shelf_entries news) ≡ destined_for hash (settings_of c).skipped (bucket_count c) k (others_for hash (settings_of c).skipped (bucket_count c) i es) =
        ap (λ g. filter (λ e. g e == k) (flat_map shelf_entries news)) target-same ∙ ap (destined_for hash (settings_of c).skipped (bucket_count c) k) flat-after in
        let apart = λ (ne : k ≢ i). there ∙ destined-others_same hash (settings_of c).skipped (bucket_count c) i k ne es ∙ arrays.not_waiting k (sym (get_or-set_other ws i k false false ne) ∙ flag) in
        elim (dec_lt k i) [
          | yes r ↦ apart (omega arith)
          | no r ↦ elim (dec_lt i k) [
            | yes s ↦ apart (omega arith)
            | no s ↦ let same : k ≡ i = omega arith in there ∙ ap (λ m. destined_for hash (settings_of c).skipped (bucket_count c) m (others_for hash (settings_of c).skipped (bucket_count c) i es)) same ∙ destined-others_none hash (settings_of c).skipped (bucket_count c) i es
          ]
        ];
    bare = λ k high.
        let flag = sym (flags-after settles k) ∙ high in
        let apart = λ (ne : k ≢ i).
        list-is d k ∙ ap (λ z. get_or z k []) takes.lists ∙ get_or-set_other (lists_of c) i k (destined_for hash (settings_of c).skipped (bucket_count c) i (flat_map shelf_entries olds)) [] ne ∙ sym (list-is c k)
        ∙ arrays.bare k (sym (get_or-set_other ws i k false false ne) ∙ flag) in
        elim (dec_lt k i) [
          | yes r ↦ apart (omega arith)
          | no r ↦ elim (dec_lt i k) [
            | yes s ↦ apart (omega arith)
            | no s ↦ let same : k ≡ i = omega arith in absurd (let q : false ≡ true = sym (get_or-set_same ws i false false (up-within ws i up)) ∙ ap (waits_at (set ws i false)) (sym same) ∙ flag in cc)
          ]
        ];
  }

  pub entries-after : entries (together hash d vs news) ≡ entries (together hash c ws olds)
  unfolding entries
  entries-after = ap (flat_map (λ l. l)) joined-after

  -- the old array loses n entries
  pub owed-left : sum_by (λ b. length (shelf_entries b)) olds ≡ n + sum_by (λ b. length (shelf_entries b)) news
  owed-left =
      let es = flat_map shelf_entries olds in
      let q : E → Bool = λ e. bucket_number (settings_of c).skipped (bucket_count c) (hash e) == i in
      let both : length (filter q es) + length (filter (λ e. not (q e)) es) ≡ length es = length-filter_both q (λ e. not (q e)) (λ e. refl) es in
      let left : length (flat_map shelf_entries news) ≡ length (filter (λ e. not (q e)) es) = ap length flat-after in
      let moved : n ≡ length (filter q es) = takes.moved in
      let a = length-flat_map shelf_entries olds in
      let b = length-flat_map shelf_entries news in
      omega arith

-- the invariant `IsTable` holds after bucket i is relocated, if another bucket still waits
pub fields-after : {E K S : Type 0} (eq : K → K → Bool) (key : E → K) (hash : K → ℕ) (i n : ℕ) (c d : Contents E S) (drain : Draining E) (vs : List Bool) (news : List (Shelf E))
    → IsTable eq key hash c drain → waits_at drain.waiting i ≡ true → TakesOver (λ e. hash (key e)) i n c drain.array d news → vs ≡ set drain.waiting i false → 0 < count_by (λ w. w) (set drain.waiting i false) → overflow_of d + drain.left_overflow < 2 ^ 62
    → IsTable eq key hash d (record drain { array = news; waiting = vs; pending = drain.pending - 1; left = drain.left - n })
fields-after {E} eq key hash i n c d drain vs news inv up takes down some few =
    let h : E → ℕ = λ e. hash (key e) in
    let settles : Settles drain.waiting i vs = others down some in
    let fewer = one-down drain.waiting i (up-within drain.waiting i up) up in
    let after = count-after settles in
    record {
      arrays = arrays-after h i n c d drain.waiting vs drain.array news inv.arrays up takes settles;
      counted = omega (arith, inv.counted);
      none = λ z. absurd (omega (arith, inv.counted));
      given_back = λ z. absurd (omega (arith, inv.counted));
      nothing_left = λ z. absurd (omega (arith, inv.counted));
      below = λ k l. flags-after settles k ∙ (elim (dec_lt k i) [
        | yes r ↦ get_or-set_other drain.waiting i k false false (omega arith) ∙ inv.below k l
        | no r ↦ elim (dec_lt i k) [
          | yes s ↦ get_or-set_other drain.waiting i k false false (omega arith) ∙ inv.below k l
          | no s ↦ let same : k ≡ i = omega arith in ap (waits_at (set drain.waiting i false)) same ∙ get_or-set_same drain.waiting i false false (up-within drain.waiting i up)
        ]
      ]);
      left_is = let l = owed-left h i n c d drain.waiting vs drain.array news inv.arrays up takes settles in omega (arith, inv.left_is);
      overflow_is = let l = spilled-le drain.array news takes.count takes.overflow in omega (arith, inv.overflow_is);
      few = few;
      unique = subst (λ z. IsDistinct eq (map key z)) (sym (entries-after h i n c d drain.waiting vs drain.array news inv.arrays up takes settles)) inv.unique;
    }

-- the old array holds no entries after the last waiting bucket is relocated
pub bare-after : {E S : Type 0} (hash : E → ℕ) (i n : ℕ) (c d : Contents E S) (ws : List Bool) (olds news : List (Shelf E)) → TwoArrays hash c ws olds → waits_at ws i ≡ true → TakesOver hash i n c olds d news → count_by (λ w. w) (set ws i false) ≡ 0 → flat_map shelf_entries news ≡ []
bare-after hash i n c d ws olds news arrays up takes none = nothing-owed hash d [] news refl (arrays-after hash i n c d ws [] olds news arrays up takes (last refl none))

-- the invariant `IsTable` holds after bucket i is relocated, if no other bucket waits and the old array is freed
pub fields-last : {E K S : Type 0} (eq : K → K → Bool) (key : E → K) (hash : K → ℕ) (i n : ℕ) (c d : Contents E S) (drain : Draining E) (news : List (Shelf E))
    → IsTable eq key hash c drain → waits_at drain.waiting i ≡ true → TakesOver (λ e. hash (key e)) i n c drain.array d news → count_by (λ w. w) (set drain.waiting i false) ≡ 0 → overflow_of d + drain.left_overflow < 2 ^ 62
    → IsTable eq key hash d (record drain { array = []; waiting = []; pending = drain.pending - 1; left = drain.left - n; left_overflow = 0 })
fields-last {E} eq key hash i n c d drain news inv up takes none few =
    let h : E → ℕ = λ e. hash (key e) in
    let settles : Settles drain.waiting i [] = last refl none in
    let fewer = one-down drain.waiting i (up-within drain.waiting i up) up in
    let bare = ap length (bare-after h i n c d drain.waiting drain.array news inv.arrays up takes none) in
    let l = owed-left h i n c d drain.waiting [] drain.array news inv.arrays up takes settles in
    let count = length-flat_map shelf_entries news in
    let nothing : drain.left - n ≡ 0 = omega (arith, inv.left_is) in
    let last_one : drain.pending - 1 ≡ 0 = omega (arith, inv.counted) in
    let unique = subst (λ z. IsDistinct eq (map key z)) (sym (entries-after h i n c d drain.waiting [] drain.array news inv.arrays up takes settles) ∙ entries-alone h d [] news refl) inv.unique in
    rw (nothing, last_one) (fields-alone eq key hash d drain.next (omega arith) unique)

settle-others : (ws : List Bool) (i : ℕ) → 0 < count_by (λ w. w) (set ws i false) → cleared ws i ≡ set ws i false
settle-others ws i some = let z : (count_by (λ w. w) (set ws i false) == 0) ≡ false = not_equal _ _ (omega arith) in rw z

settle-last : (ws : List Bool) (i : ℕ) → count_by (λ w. w) (set ws i false) ≡ 0 → cleared ws i ≡ []
settle-last ws i none = let z : (count_by (λ w. w) (set ws i false) == 0) ≡ true = eq-eqb _ _ none in rw z

pub settle-after : {ws vs : List Bool} {i : ℕ} → Settles ws i vs → vs ≡ cleared ws i
settle-after {ws} {i = i} (others e some) = e ∙ sym (settle-others ws i some)
settle-after {ws} {i = i} (last e none) = e ∙ sym (settle-last ws i none)

map-others : {E : Type 0} (f : E → ℕ) (i : ℕ) (es : List E) → map f (filter (λ e. not (f e == i)) es) ≡ filter (λ t. not (t == i)) (map f es)
map-others f i [] = refl
map-others f i (e ∷ es) = by_answer (f e == i) (λ q. rw q (map-others f i es)) (λ q. rw q (ap (λ z. f e ∷ z) (map-others f i es)))

owed-others : {E : Type 0} (f : E → ℕ) (i : ℕ) (olds news : List (Shelf E)) → length news ≡ length olds → ((j : ℕ) → j < length olds → shelf_entries (shelf_of news j) ≡ filter (λ e. not (f e == i)) (shelf_entries (shelf_of olds j)))
    → map (λ b. map f (shelf_entries b)) news ≡ map (λ ts. filter (λ t. not (t == i)) ts) (map (λ b. map f (shelf_entries b)) olds)
owed-others f i [] [] l h = refl
owed-others f i [] (b ∷ news) l h = absurd (omega arith)
owed-others f i (a ∷ olds) [] l h = absurd (omega arith)
owed-others f i (a ∷ olds) (b ∷ news) l h =
    let first : map f (shelf_entries b) ≡ filter (λ t. not (t == i)) (map f (shelf_entries a)) = ap (map f) (h 0 (omega arith)) ∙ map-others f i (shelf_entries a) in
    ap (λ z. z ∷ map (λ x. map f (shelf_entries x)) news) first
    ∙ ap (λ z. filter (λ t. not (t == i)) (map f (shelf_entries a)) ∷ z) (owed-others f i olds news (omega arith) (λ j q. h (suc j) (omega arith)))

owed-after : {E : Type 0} (f : E → ℕ) (i : ℕ) (ws vs : List Bool) (olds news : List (Shelf E)) → waits_at ws i ≡ true → length news ≡ length olds → ((j : ℕ) → j < length olds → shelf_entries (shelf_of news j) ≡ filter (λ e. not (f e == i)) (shelf_entries (shelf_of olds j)))
    → owed_in f vs news ≡ owed_without vs i (owed_in f ws olds)
owed-after f i [] vs olds news up l h = absurd (let q : false ≡ true = up in cc)
owed-after f i (w ∷ ws) [] olds news up l h = refl
owed-after f i (w ∷ ws) (v ∷ vs) olds news up l h = owed-others f i olds news l h

pub relocated-after : {E S : Type 0} (hash : E → ℕ) (i n : ℕ) (c d : Contents E S) (ws vs : List Bool) (olds news : List (Shelf E)) → TwoArrays hash c ws olds → waits_at ws i ≡ true → TakesOver hash i n c olds d news → Settles ws i vs
    → IsRelocated i (together hash c ws olds) (together hash d vs news)
relocated-after hash i n c d ws vs olds news arrays up takes settles = record {
  lists = lists-together hash d vs news ∙ joined-after hash i n c d ws vs olds news arrays up takes settles ∙ sym (lists-together hash c ws olds);
  settings = settings-together hash d vs news ∙ takes.settings ∙ sym (settings-together hash c ws olds);
  refused = refused-together hash d vs news ∙ takes.refused ∙ sym (refused-together hash c ws olds);
  waiting = waiting-together hash d vs news ∙ settle-after settles ∙ ap (λ w. cleared w i) (sym (waiting-together hash c ws olds));
  owed = owed-together hash d vs news ∙ ap (λ f. owed_in f vs news) (target-same hash i n c d ws vs olds news arrays up takes settles) ∙ owed-after (target_by hash c) i ws vs olds news up takes.count takes.kept
      ∙ ap (λ v. owed_without v i (owed_in (target_by hash c) ws olds)) (sym (waiting-together hash d vs news)) ∙ ap (owed_without (waiting_of (together hash d vs news)) i) (sym (owed-together hash c ws olds));
  pending = pending-together hash c ws olds ∙ one-down ws i (up-within ws i up) up ∙ ap (λ m. m + 1) (sym (count-after settles) ∙ sym (pending-together hash d vs news));
}
