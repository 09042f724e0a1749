-- The next step of each history waits in a queue. The first of these steps is taken.
use Rattle.std.proofs.Common.{◌≡◌, ℕ, zero, suc, ◌+◌, ◌<◌, ◌≤◌, List, [], ◌∷◌, length, map, drop, Some, Bool, true, false, ◌⊎◌, inl, inr, refl, sym, ap, ◌∙◌, subst, arith}
use Rattle.std.specs.Prelude.{slice_get, slice_set, slice_index, slice_index_or, nat_lt, if◌then◌else◌, ◌==◌, All, MatchBool}
use Rattle.std.specs.List.{sum_by, AllByRecursion}
use Rattle.std.specs.List.Sorted.{IsPermutation}
use Rattle.std.specs.Ordering.{nat_cmp, ordering_then, is_lt}
use Rattle.std.proofs.lemmas.Bool.{cases_eq, cases_lt, cases_order}
use Rattle.std.proofs.lemmas.Bool.Decides.{nat_tests}
use Rattle.std.proofs.lemmas.List.{get_or-set_other}
use Rattle.std.proofs.lemmas.List.Elements.{All-cons, All-head, All-tail, All-nil}
use Rattle.std.proofs.lemmas.List.Sums.{sum_by-cons}
use Rattle.std.proofs.lemmas.List.Sorted.{All-permutation, sum_by_pushed, sum_by_popped}
use Rattle.scc_calls.specs.declared.steps.Step.{Step}
use Rattle.scc_history.specs.Orders.{order_number, Comes, least}
use Rattle.scc_history.proofs.Ordering.{length_at, number_at}
use Rattle.scc_history.specs.Queues as words
use Rattle.scc_history.specs.Queues.{JoinsQueue, Queued}

-- the lesser of two pairs, by their first numbers and then by their second
pub lesser : (a b c d : ℕ) → is_lt (ordering_then (nat_cmp c a) (nat_cmp d b)) ≡ false → (a < c) ⊎ ((a ≡ c) × (b ≤ d))
lesser a b c d h =
    elim (cases_order c a) as (λ _. (a < c) ⊎ ((a ≡ c) × (b ≤ d))) [
      | inl e ↦ elim (cases_lt d b) as (λ _. (a < c) ⊎ ((a ≡ c) × (b ≤ d))) [
        | inl less ↦
            let x : nat_lt c a ≡ false = grind (arith, nat_tests) in
            let y : (c == a) ≡ true = grind (arith, nat_tests) in
            let z : nat_lt d b ≡ true = grind (arith, nat_tests) in
            let w : true ≡ false = rw (x, y, z) at h in
            absurd (cc)
        | inr more ↦ inr (omega arith, more)
      ]
      | inr o ↦ elim o as (λ _. (a < c) ⊎ ((a ≡ c) × (b ≤ d))) [
        | inl less ↦
            let x : nat_lt c a ≡ true = grind (arith, nat_tests) in
            let w : true ≡ false = rw x at h in
            absurd (cc)
        | inr more ↦ inl more
      ]
    ]

weaker : {X : Type 0} (P Q : X → Type 0) (xs : List X) → ((x : X) → P x → Q x) → All P xs → All Q xs
weaker P Q xs f a = λ k d h. f (slice_index_or xs k d) (a k d h)

module _ {X A R : Type 0} (key : X → ℕ × ℕ) (hs : List (List (Step A R))) where
  abbrev one : ℕ → X → ℕ
  one = words.one key hs

  abbrev IsNextStep : List ℕ → X → Type 0
  IsNextStep = words.IsNextStep key hs

  abbrev due : ℕ → List ℕ → ℕ → ℕ
  due = words.due key hs

  -- each list but list i has its next step in the queue, and list i has none there
  pub record Taken (i n : ℕ) (done : List ℕ) (items : List X) : Type 0 where
    pub each : All (IsNextStep done) items
    pub none : sum_by (one i) items ≡ 0
    pub once : (k : ℕ) → (k ≡ i → ⊥) → sum_by (one k) items ≡ due n done k

  -- an item with the number and the list of a next step stands for that step
  pub next_is : (done : List ℕ) (i number : ℕ) (h : List (Step A R)) (x : X) → i < length hs → slice_get hs i ≡ Some h → slice_index done i < length h → number ≡ least (drop (slice_index done i) h) → key x ≡ (number, i) → IsNextStep done x
  next_is done i number h x within at less e is =
      let a : (key x).1 ≡ i = ap (λ p. p.1) is in
      let b : (key x).0 ≡ number = ap (λ p. p.0) is in
      let long = length_at (Unit {0}) A R (λ _. []) hs i h at in
      let n = number_at (Unit {0}) A R (λ _. []) hs i (slice_index done i) h at in
      rw a (within, omega (arith, long, less), b ∙ e ∙ sym n)

  is_one : (k : ℕ) (x : X) → (key x).1 ≡ k → one k x ≡ 1
  is_one k x e = let t : ((key x).1 == k) ≡ true = grind (arith, nat_tests) in rw t refl

  isn't_one : (k : ℕ) (x : X) → ((key x).1 ≡ k → ⊥) → one k x ≡ 0
  isn't_one k x n = let t : ((key x).1 == k) ≡ false = grind (arith, nat_tests) in rw t refl

  by_parts : (P : X → Type 0) (xs : List X) → All P xs → AllByRecursion P xs
  by_parts P [] a = tt
  by_parts P (x ∷ xs) a = (All-head P x xs a, by_parts P xs (All-tail P x xs a))

  find_one : (k : ℕ) (P Q : X → Type 0) (xs : List X) → AllByRecursion P xs → AllByRecursion Q xs → 0 < sum_by (one k) xs → (x : X) × ((key x).1 ≡ k) × P x × Q x
  find_one k P Q [] p q h = absurd (omega arith)
  find_one k P Q (x ∷ xs) p q h = elim (cases_eq (key x).1 k) as (λ _. (x : X) × ((key x).1 ≡ k) × P x × Q x) [
    | inl e ↦ (x, e, p.0, q.0)
    | inr n ↦ find_one k P Q xs p.1 q.1 (omega (arith, h, sum_by-cons (one k) x xs, isn't_one k x n))
  ]

  apart : (i : ℕ) (P : X → Type 0) (xs : List X) → sum_by (one i) xs ≡ 0 → All P xs → All (λ x. ((key x).1 ≡ i → ⊥) × P x) xs
  apart i P [] e a = All-nil _
  apart i P (x ∷ xs) e a =
      let c = sum_by-cons (one i) x xs in
      let here : ((key x).1 ≡ i → ⊥) × P x = ((λ s. let o = is_one i x s in absurd (omega arith)), All-head P x xs a) in
      All-cons (λ x. ((key x).1 ≡ i → ⊥) × P x) x xs here (apart i P xs (omega arith) (All-tail P x xs a))

  -- the first item is taken out of the queue
  module _ (n : ℕ) (done : List ℕ) (items rest : List X) (x : X) (w : Queued key hs n done items) (perm : IsPermutation items (x ∷ rest)) where
    pub here : IsNextStep done x
    here = All-head (IsNextStep done) x rest (All-permutation (IsNextStep done) _ _ perm w.each)

    pub least_here : AllByRecursion (λ y. is_lt (ordering_then (nat_cmp (key y).0 (key x).0) (nat_cmp (key y).1 (key x).1)) ≡ false) items → length hs ≤ n
        → (k : ℕ) → k < length hs → slice_index done k < slice_index (map length hs) k → Comes hs ((key x).1, slice_index done (key x).1) (k, slice_index done k)
    least_here top long k h e =
        let s : nat_lt k n ≡ true = grind (arith, nat_tests) in
        let t : nat_lt (slice_index done k) (slice_index (map length hs) k) ≡ true = grind (arith, nat_tests) in
        let d : due n done k ≡ 1 = rw (s, t) refl in
        let y = find_one k (IsNextStep done) _ items (by_parts (IsNextStep done) items w.each) top (omega (arith, w.once k, d)) in
        let number : (key y.0).0 ≡ order_number hs (k, slice_index done k) = subst (λ j. (key y.0).0 ≡ order_number hs (j, slice_index done j)) y.1 y.2.2 in
        let mine = here.2 in
        elim (lesser (key x).0 (key x).1 (key y.0).0 (key y.0).1 y.3) as (λ _. Comes hs ((key x).1, slice_index done (key x).1) (k, slice_index done k)) [
          | inl l ↦ inl (omega (arith, mine, number, l))
          | inr r ↦ inr (omega (arith, mine, number, r.0), omega (arith, r.1, y.1))
        ]

    pub taken : (key x).1 < n → (key x).1 < length done → Taken (key x).1 n (slice_set done (key x).1 (slice_index done (key x).1 + 1)) rest
    taken within long =
        let i = (key x).1 in
        let v = slice_index done i + 1 in
        let count : (k : ℕ) → sum_by (one k) rest + one k x ≡ due n done k = λ k. sum_by_popped (one k) x items rest perm ∙ w.once k in
        let s : nat_lt i n ≡ true = grind (arith, nat_tests) in
        let t : nat_lt (slice_index done i) (slice_index (map length hs) i) ≡ true = grind (arith, nat_tests, here.1) in
        let d : due n done i ≡ 1 = rw (s, t) refl in
        let zero_left : sum_by (one i) rest ≡ 0 = omega (arith, count i, d, is_one i x refl) in
        record {
          each = weaker (λ y. ((key y).1 ≡ i → ⊥) × IsNextStep done y) (IsNextStep (slice_set done i v)) rest (λ y p. let e = get_or-set_other done i (key y).1 v 0 p.0 in (p.1.0, rw e p.1.1, rw e p.1.2)) (apart i (IsNextStep done) rest zero_left (All-tail (IsNextStep done) x rest (All-permutation (IsNextStep done) _ _ perm w.each)));
          none = zero_left;
          once = λ k ne. let e = get_or-set_other done i k v 0 ne in rw e (omega (arith, count k, isn't_one k x (λ q. ne (sym q))));
        }

  -- one more list is counted, before its first step joins the queue
  pub opened : (i : ℕ) (done : List ℕ) (items : List X) → Queued key hs i done items → Taken i (i + 1) done items
  opened i done items w =
      let s : nat_lt i i ≡ false = grind (arith, nat_tests) in
      let d : due i done i ≡ 0 = rw s refl in
      record {
        each = w.each;
        none = omega (arith, w.once i, d);
        once = λ k ne. let f : nat_lt k i ≡ nat_lt k (i + 1) = grind (arith, nat_tests) in rw (← f) (w.once k);
      }

  module _ (i n : ℕ) (done : List ℕ) (items : List X) (w : Taken i n done items) where
    -- list i is done
    pub skipped : slice_index (map length hs) i ≤ slice_index done i → Queued key hs n done items
    skipped h =
        let t : nat_lt (slice_index done i) (slice_index (map length hs) i) ≡ false = grind (arith, nat_tests) in
        record { each = w.each; once = λ k. elim (cases_eq k i) as (λ _. sum_by (one k) items ≡ due n done k) [ inl e ↦ rw e (skipped_by (nat_lt i n) t) | inr ne ↦ w.once k ne ] }
      where
        skipped_by : (b : Bool) → nat_lt (slice_index done i) (slice_index (map length hs) i) ≡ false → sum_by (one i) items ≡ (if b then (if nat_lt (slice_index done i) (slice_index (map length hs) i) then 1 else 0) else 0)
        skipped_by true t = rw t w.none
        skipped_by false t = w.none

    -- the next step of list i joins the queue
    pub added : (x : X) (new : List X) → (key x).1 ≡ i → i < n → IsNextStep done x → IsPermutation (x ∷ items) new → Queued key hs n done new
    added x new e h next perm =
        let s : nat_lt i n ≡ true = grind (arith, nat_tests) in
        let more = subst (λ j. slice_index done j < slice_index (map length hs) j) e next.1 in
        let t : nat_lt (slice_index done i) (slice_index (map length hs) i) ≡ true = grind (arith, nat_tests) in
        let d : due n done i ≡ 1 = rw (s, t) refl in
        record {
          each = All-permutation (IsNextStep done) _ _ perm (All-cons (IsNextStep done) x items next w.each);
          once = λ k. let c = sum_by_pushed (one k) x items new perm in elim (cases_eq k i) as (λ _. sum_by (one k) new ≡ due n done k) [
            | inl f ↦ let u = is_one k x (e ∙ sym f) in let z : sum_by (one k) items ≡ 0 = rw f w.none in let y : due n done k ≡ 1 = rw f d in omega arith
            | inr ne ↦ let u = isn't_one k x (λ q. ne (sym q ∙ e)) in omega (arith, c, u, w.once k ne)
          ];
        }

  -- the next step of list i joins the queue, or list i is done
  pub advanced : (i n j : ℕ) (done : List ℕ) (items new : List X) (h : List (Step A R)) → Taken i n done items → i < n → i < length hs → slice_get hs i ≡ Some h → slice_index done i ≡ j → JoinsQueue key h j i items new → Queued key hs n done new
  advanced i n j done items new h w within long at is joins = by (nat_lt j (length h)) refl joins
    where
      by : (b : Bool) → nat_lt j (length h) ≡ b → MatchBool b ((x : X) × (key x ≡ (least (drop j h), i)) × IsPermutation (x ∷ items) new) (new ≡ items) → Queued key hs n done new
      by true t m =
          let less : slice_index done i < length h = grind (arith, nat_tests) in
          added i n done items w m.0 new (ap (λ p. p.1) m.1) within (next_is done i (least (drop j h)) h m.0 long at less (ap (λ k. least (drop k h)) (sym is)) m.1) m.2
      by false t m =
          let more : slice_index (map length hs) i ≤ slice_index done i = let l = length_at (Unit {0}) A R (λ _. []) hs i h at in let r : length h ≤ j = grind (arith, nat_tests) in omega arith in
          rw m (skipped i n done items w more)

  pub waiting_none : (done : List ℕ) → Queued key hs 0 done []
  waiting_none done = record { each = All-nil _; once = λ k. let s : nat_lt k 0 ≡ false = grind (arith, nat_tests) in rw s refl }

  -- if the queue is empty, each list is done
  pub all_done : (n : ℕ) (done : List ℕ) → Queued key hs n done [] → (k : ℕ) → k < n → slice_index (map length hs) k ≤ slice_index done k
  all_done n done w k h = elim (cases_lt (slice_index done k) (slice_index (map length hs) k)) as (λ _. slice_index (map length hs) k ≤ slice_index done k) [
    | inl less ↦
        let s : nat_lt k n ≡ true = grind (arith, nat_tests) in
        let t : nat_lt (slice_index done k) (slice_index (map length hs) k) ≡ true = grind (arith, nat_tests) in
        let d : due n done k ≡ 1 = rw (s, t) refl in
        absurd (omega (arith, w.once k, d))
    | inr more ↦ more
  ]

pub zero_at : {X : Type 0} (xs : List X) (k : ℕ) → slice_index (map (λ (x : X). 0) xs) k ≡ 0
zero_at [] k = refl
zero_at (x ∷ xs) zero = refl
zero_at (x ∷ xs) (suc k) = zero_at xs k
