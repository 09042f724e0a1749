-- The stamp order grows by one place.
use Rattle.std.proofs.Common.{◌≡◌, ℕ, zero, suc, ◌+◌, ◌-◌, ◌<◌, ◌≤◌, List, [], ◌∷◌, ◌++◌, length, map, drop, min, get_or, Option, Some, None, ◌⊎◌, inl, inr, refl, sym, ap, ◌∙◌, arith, add-one, append_assoc, length-set, replicate}
use Rattle.std.specs.Prelude.{slice_get, slice_set, slice_index}
use Rattle.std.specs.List.{AllPairs}
use Rattle.std.proofs.lemmas.Bool.{cases_lt, cases_eq}
use Rattle.std.proofs.lemmas.List.{append-nil, get_or-set_same, get_or-set_other, length-map, get_or_append_left, get_or_push, length-append}
use Rattle.std.proofs.lemmas.Grind.{same_number_lists}
use Rattle.std.proofs.lemmas.List.Quantifiers.{all_pairs_push}
use Rattle.scc_calls.specs.declared.steps.Step.{Step}
use Rattle.scc_history.specs.Orders.{MergeFrom, IsStampOrder, stamp_of, least, number_in, order_number, Comes}

pub get_at : (xs : List ℕ) (i : ℕ) → i < length xs → slice_get xs i ≡ Some (slice_index xs i)
get_at [] i h = absurd (omega arith)
get_at (x ∷ xs) zero h = refl
get_at (x ∷ xs) (suc i) h = get_at xs i (omega arith)

-- the number of steps that are not done, of all lists together
abbrev pub left : List ℕ → List ℕ → ℕ
left [] ds = 0
left (l ∷ ls) [] = 0
left (l ∷ ls) (d ∷ ds) = (l - d) + left ls ds

pub left_falls : (lengths done : List ℕ) (i : ℕ) → i < length done → slice_index done i < slice_index lengths i → left lengths (slice_set done i (slice_index done i + 1)) < left lengths done
left_falls [] done i h e = absurd (omega arith)
left_falls (l ∷ ls) [] i h e = absurd (omega arith)
left_falls (l ∷ ls) (d ∷ ds) zero h e = omega arith
left_falls (l ∷ ls) (d ∷ ds) (suc i) h e = omega (arith, left_falls ls ds i (omega arith) e)

module _ (A R : Type 0) where
  least_later : (h : List (Step A R)) (j : ℕ) → least (drop j h) ≤ least (drop (j + 1) h)
  least_later [] zero = omega arith
  least_later [] (suc j) = rw add-one (omega arith)
  least_later (x ∷ h) zero = omega arith
  least_later (x ∷ h) (suc j) = rw add-one (rw add-one at (least_later h j))

  number_later : (o : Option (List (Step A R))) (j : ℕ) → number_in o j ≤ number_in o (j + 1)
  number_later None j = omega arith
  number_later (Some h) j = least_later h j

  pub comes_later : (hs : List (List (Step A R))) (p : ℕ × ℕ) (i j : ℕ) → Comes hs p (i, j) → Comes hs p (i, j + 1)
  comes_later hs p i j (inl c) = inl (omega (arith, number_later (slice_get hs i) j))
  comes_later hs p i j (inr c) = later_by (number_in (slice_get hs i) j) (number_in (slice_get hs i) (j + 1)) (number_later (slice_get hs i) j) c.0 c.1
    where
      later_by : (m n : ℕ) → m ≤ n → order_number hs p ≡ m → p.0 ≤ i → (order_number hs p < n) ⊎ ((order_number hs p ≡ n) × (p.0 ≤ i))
      later_by m n le e f = elim (cases_lt m n) [ inl a ↦ inl (omega arith) | inr b ↦ inr (omega arith, f) ]

  pub least_bound : (h : List (Step A R)) → least h ≤ 18446744073709551615
  least_bound [] = omega arith
  least_bound (x ∷ h) = omega (arith, least_bound h)

  pub least_next : (h : List (Step A R)) (j : ℕ) (d : Step A R) → j < length h → least (drop j h) ≡ min (stamp_of (get_or h j d)) (least (drop (j + 1) h))
  least_next [] j d e = absurd (omega arith)
  least_next (x ∷ h) zero d e = refl
  least_next (x ∷ h) (suc j) d e = rw add-one (rw add-one at (least_next h j d (omega arith)))

  pub least_end : (h : List (Step A R)) (j : ℕ) → length h ≤ j → least (drop j h) ≡ 18446744073709551615
  least_end [] zero e = refl
  least_end [] (suc j) e = refl
  least_end (x ∷ h) zero e = absurd (omega arith)
  least_end (x ∷ h) (suc j) e = least_end h j (omega arith)

-- `order` is a beginning of the stamp order, and takes `done` steps of each history
pub record Ordered {A R : Type 0} (hs : List (List (Step A R))) (done : List ℕ) (order : List (ℕ × ℕ)) : Type 0 where
  pub same : length done ≡ length hs
  pub within : (k : ℕ) → k < length hs → slice_index done k ≤ slice_index (map length hs) k
  pub merged : (m : List (ℕ × ℕ)) → MergeFrom (map length hs) done m → MergeFrom (map length hs) (map (λ _. 0) hs) (order ++ m)
  pub pairs : AllPairs (Comes hs) order
  pub rest : (k : ℕ) → k < length hs → slice_index done k < slice_index (map length hs) k → (a : ℕ) (d : ℕ × ℕ) → a < length order → Comes hs (get_or order a d) (k, slice_index done k)

module _ (A R : Type 0) (hs : List (List (Step A R))) where
  zeros : (gs : List (List (Step A R))) (k : ℕ) → slice_index (map (λ (h : List (Step A R)). 0) gs) k ≡ 0
  zeros [] k = refl
  zeros (g ∷ gs) zero = refl
  zeros (g ∷ gs) (suc k) = zeros gs k

  pub ordered_none : Ordered hs (map (λ _. 0) hs) []
  ordered_none = record {
    same = simp length-map;
    within = λ k h. omega (arith, zeros hs k);
    merged = λ m h. h;
    pairs = λ i j d h k. absurd (omega arith);
    rest = λ k h e a d f. absurd (omega arith);
  }

  -- a place that comes before the next step of every history
  abbrev Entry : List ℕ → ℕ × ℕ → Type 0
  Entry done x = (k : ℕ) → k < length hs → slice_index done k < slice_index (map length hs) k → Comes hs x (k, slice_index done k)

  module _ (done : List ℕ) (order : List (ℕ × ℕ)) (i : ℕ) (o : Ordered hs done order) (h : i < length hs) (e : slice_index done i < slice_index (map length hs) i) (least : Entry done (i, slice_index done i)) where
    within_by : (k : ℕ) → k < length hs → (k ≡ i) ⊎ (k ≡ i → ⊥) → slice_index (slice_set done i (slice_index done i + 1)) k ≤ slice_index (map length hs) k
    within_by k f (inl s) = let g : i < length done = omega (arith, o.same) in rw (s, get_or-set_same done i (slice_index done i + 1) 0 g) (omega arith)
    within_by k f (inr n) = rw (get_or-set_other done i k (slice_index done i + 1) 0 n) (o.within k f)

    entry_by : (a : ℕ) (d : ℕ × ℕ) → a < length (order ++ (i, slice_index done i) ∷ []) → (a < length order) ⊎ (length order ≤ a) → Entry done (get_or (order ++ (i, slice_index done i) ∷ []) a d)
    entry_by a d u (inl v) = rw (get_or_append_left order ((i, slice_index done i) ∷ []) d a v) (λ k f g. o.rest k f g a d v)
    entry_by a d u (inr v) = let w : length order ≡ a = omega (arith, length-append order ((i, slice_index done i) ∷ [])) in rw (get_or_push order (i, slice_index done i) d a w) least

    rest_by : (k : ℕ) → k < length hs → slice_index (slice_set done i (slice_index done i + 1)) k < slice_index (map length hs) k → (x : ℕ × ℕ) → Entry done x → (k ≡ i) ⊎ (k ≡ i → ⊥)
        → Comes hs x (k, slice_index (slice_set done i (slice_index done i + 1)) k)
    rest_by k f g x all (inl s) = let v : i < length done = omega (arith, o.same) in rw (s, get_or-set_same done i (slice_index done i + 1) 0 v) (comes_later A R hs x i (slice_index done i) (all i h e))
    rest_by k f g x all (inr n) = let v = get_or-set_other done i k (slice_index done i + 1) 0 n in rw v (all k f (rw v at g))

    pub ordered_more : Ordered hs (slice_set done i (slice_index done i + 1)) (order ++ (i, slice_index done i) ∷ [])
    ordered_more = record {
      same = simp length-set o.same;
      within = λ k f. within_by k f (cases_eq k i);
      merged = λ m f. rw append_assoc (o.merged ((i, slice_index done i) ∷ m) (get_at done i (omega (arith, o.same)), e, f));
      pairs = all_pairs_push (Comes hs) order (i, slice_index done i) o.pairs (λ k d f. o.rest i h e k d f);
      rest = λ k f g a d u. rest_by k f g (get_or (order ++ (i, slice_index done i) ∷ []) a d) (entry_by a d u (cases_lt a (length order))) (cases_eq k i);
    }

  pub ordered_all : (done : List ℕ) (order : List (ℕ × ℕ)) → Ordered hs done order → ((k : ℕ) → k < length hs → slice_index (map length hs) k ≤ slice_index done k) → IsStampOrder hs order
  ordered_all done order o all =
      let e : done ≡ map length hs = same_number_lists done (map length hs) (o.same ∙ sym (simp length-map)) (λ k h. omega (arith, o.within k (omega (arith, o.same)), all k (omega (arith, o.same)))) in
      (rw append-nil at (o.merged [] e), o.pairs)

pub zeros_of : {X : Type 0} (xs : List X) → replicate {A = ℕ} (length xs) 0 ≡ map (λ _. 0) xs
zeros_of [] = refl
zeros_of (x ∷ xs) = ap (λ l. 0 ∷ l) (zeros_of xs)

module _ (S A R : Type 0) (history : S → List (Step A R)) where
  pub history_at : (stripes : List S) (i : ℕ) (x : S) → i < length stripes → x ≡ get_or stripes i x → slice_get (map history stripes) i ≡ Some (history x)
  history_at [] i x h e = absurd (omega arith)
  history_at (s ∷ stripes) zero x h e = ap (λ y. Some (history y)) (sym e)
  history_at (s ∷ stripes) (suc i) x h e = history_at stripes i x (omega arith) e

  pub length_at : (hs : List (List (Step A R))) (i : ℕ) (h : List (Step A R)) → slice_get hs i ≡ Some h → slice_index (map length hs) i ≡ length h
  length_at [] i h e = cc
  length_at (g ∷ hs) zero h e = let f : g ≡ h = cc in rw f refl
  length_at (g ∷ hs) (suc i) h e = length_at hs i h e

  pub number_at : (hs : List (List (Step A R))) (i j : ℕ) (h : List (Step A R)) → slice_get hs i ≡ Some h → order_number hs (i, j) ≡ least (drop j h)
  number_at hs i j h e = rw e refl
