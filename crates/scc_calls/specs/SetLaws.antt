-- A step of one part of a set is a step of the whole.
use Rattle.std.proofs.Common.{◌≡◌, ◌≢◌, ◌∙◌, ℕ, ◌+◌, ◌<◌, List, [], ◌∷◌, ◌++◌, length, Bool, true, false, cond, not, Some, None, refl, sym, ap, arith}
use Rattle.std.specs.Prelude.{◌==◌, count_by}
use Rattle.std.specs.List.{AllByRecursion, filter, find as first_passing}
use Rattle.std.specs.List.Sorted.{IsPermutation}
use Rattle.std.specs.Set.{remove_key, swap_key}
use Rattle.std.proofs.lemmas.List.Concat.{flat_map-append}
use Rattle.std.proofs.lemmas.List.Elements.{filter-append, recursion_from_All, All-from_recursion}
use Rattle.std.proofs.lemmas.List.Sums.{sum_by-append, sum_by-cons}
use Rattle.std.proofs.lemmas.List.Sorted.{IsPermutation-sym, IsPermutation-trans, IsPermutation-append_left, IsPermutation-append_right, IsPermutation-middle, All-permutation}
use Rattle.std.proofs.lemmas.Bool.Decides.{nat_tests}
use Rattle.scc_owned_set.specs.Keys.{find, without}
use Rattle.scc_calls.specs.MapWhole.{joined}
use Rattle.scc_calls.specs.Parts.{Routed, KeyRouted, RoutedFrom}
use Rattle.scc_calls.specs.SetCalls.{SetMoves, key_of_set}
use Rattle.scc_calls.specs.SetWhole.{SetWholeMoves}
use Rattle.scc_calls.specs.States.{State, ResizesTo}
use Rattle.scc_calls.specs.declared.fixed.Setting.{Setting}
use Rattle.scc_calls.specs.declared.calls_as_values.SetCall.{SetCall}
use Rattle.scc_calls.specs.declared.calls_as_values.SetCall.TheVariants.{Insert, Replace, Read, Contains, Remove, Clear, Len}
use Rattle.scc_calls.specs.declared.replies.Reply.{Reply}
use Rattle.scc_calls.specs.declared.replies.Reply.TheVariants.{Inserted, Exists, Key, Has, Cleared, Count}

-- no key of the list passes the test t
abbrev NonePasses : {K : Type 0} → (K → Bool) → List K → Type 0
NonePasses t ks = AllByRecursion (λ k. t k ≡ false) ks

by_answer : {P : Type 0} (b : Bool) → (b ≡ true → P) → (b ≡ false → P) → P
by_answer true p q = p refl
by_answer false p q = q refl

module _ {K : Type 0} (t : K → Bool) where
  find_front : (B s : List K) → NonePasses t B → first_passing t (B ++ s) ≡ first_passing t s
  find_front [] s n = refl
  find_front (x ∷ B) s n = ap (λ c. cond c (Some x) (first_passing t (B ++ s))) n.0 ∙ find_front B s n.1

  find_none : (A : List K) → NonePasses t A → first_passing t A ≡ None
  find_none [] n = refl
  find_none (x ∷ A) n = ap (λ c. cond c (Some x) (first_passing t A)) n.0 ∙ find_none A n.1

  find_back : (s A : List K) → NonePasses t A → first_passing t (s ++ A) ≡ first_passing t s
  find_back [] A n = find_none A n
  find_back (x ∷ s) A n = ap (λ o. cond (t x) (Some x) o) (find_back s A n)

  without_front : (B s : List K) → NonePasses t B → remove_key t (B ++ s) ≡ B ++ remove_key t s
  without_front [] s n = refl
  without_front (x ∷ B) s n = ap (λ c. cond c (B ++ s) (x ∷ remove_key t (B ++ s))) n.0 ∙ ap (λ l. x ∷ l) (without_front B s n.1)

  without_none : (A : List K) → NonePasses t A → remove_key t A ≡ A
  without_none [] n = refl
  without_none (x ∷ A) n = ap (λ c. cond c A (x ∷ remove_key t A)) n.0 ∙ ap (λ l. x ∷ l) (without_none A n.1)

  without_back : (s A : List K) → NonePasses t A → remove_key t (s ++ A) ≡ remove_key t s ++ A
  without_back [] A n = without_none A n
  without_back (x ∷ s) A n = by (t x) (without_back s A n)
    where
      by : (b : Bool) → remove_key t (s ++ A) ≡ remove_key t s ++ A → cond b (s ++ A) (x ∷ remove_key t (s ++ A)) ≡ cond b s (x ∷ remove_key t s) ++ A
      by true r = refl
      by false r = ap (λ l. x ∷ l) r

  key_front : (B s : List K) (k : K) → NonePasses t B → swap_key t (B ++ s) k ≡ B ++ swap_key t s k
  key_front [] s k n = refl
  key_front (x ∷ B) s k n = ap (λ c. cond c (k ∷ (B ++ s)) (x ∷ swap_key t (B ++ s) k)) n.0 ∙ ap (λ l. x ∷ l) (key_front B s k n.1)

  key_none : (A : List K) (k : K) → NonePasses t A → swap_key t A k ≡ A
  key_none [] k n = refl
  key_none (x ∷ A) k n = ap (λ c. cond c (k ∷ A) (x ∷ swap_key t A k)) n.0 ∙ ap (λ l. x ∷ l) (key_none A k n.1)

  key_back : (s A : List K) (k : K) → NonePasses t A → swap_key t (s ++ A) k ≡ swap_key t s k ++ A
  key_back [] A k n = key_none A k n
  key_back (x ∷ s) A k n = by (t x) (key_back s A k n)
    where
      by : (b : Bool) → swap_key t (s ++ A) k ≡ swap_key t s k ++ A → cond b (k ∷ (s ++ A)) (x ∷ swap_key t (s ++ A) k) ≡ cond b (k ∷ s) (x ∷ swap_key t s k) ++ A
      by true r = refl
      by false r = ap (λ l. x ∷ l) r

module _ {K : Type 0} (route : K → ℕ) where
  -- none of these keys routes to part i
  abbrev Off : ℕ → List K → Type 0
  Off i es = AllByRecursion (λ k. route k ≢ i) es

  off_append : (i : ℕ) (xs ys : List K) → Off i xs → Off i ys → Off i (xs ++ ys)
  off_append i [] ys a b = b
  off_append i (x ∷ xs) ys a b = (a.0, off_append i xs ys a.1 b)

  off_one : (i j : ℕ) (es : List K) → i ≢ j → Routed route i es → Off j es
  off_one i j [] apart routed = tt
  off_one i j (x ∷ es) apart routed = (λ e. apart (sym routed.0 ∙ e), off_one i j es apart routed.1)

  off_after : (i j : ℕ) (after : List (State K)) → i < j → RoutedFrom route (λ s. s.0) j after → Off i (joined after)
  off_after i j [] less routed = tt
  off_after i j (s ∷ after) less routed = off_append i s.0 (joined after) (off_one j i s.0 (omega arith) routed.0) (off_after i (j + 1) after (omega arith) routed.1)

  off_before : (i j : ℕ) (before : List (State K)) (old : State K) (after : List (State K)) → j + length before ≡ i → RoutedFrom route (λ s. s.0) j (before ++ old ∷ after)
      → Off i (joined before) × RoutedFrom route (λ s. s.0) i (old ∷ after)
  off_before i j [] old after e routed = (tt, let n : j ≡ i = omega arith in rw n at routed)
  off_before i j (s ∷ before) old after e routed =
      let r = off_before i (j + 1) before old after (omega arith) routed.1 in
      (off_append i s.0 (joined before) (off_one j i s.0 (omega arith) routed.0) r.0, r.1)

  -- a clearing of part i keeps the keys that don't route to i, and a count of part i doesn't count them
  off_kept : (i : ℕ) (es : List K) → Off i es → filter (λ (p : K). not (route p == i)) es ≡ es
  off_kept i [] a = refl
  off_kept i (x ∷ es) a =
      let e : (route x == i) ≡ false = by_answer (route x == i) (λ y. absurd (a.0 (grind (arith, nat_tests)))) (λ n. n) in
      rw e (ap (λ l. x ∷ l) (off_kept i es a.1))

  off_count : (i : ℕ) (es : List K) → Off i es → count_by (λ (p : K). route p == i) es ≡ 0
  off_count i [] a = refl
  off_count i (x ∷ es) a =
      let e : (route x == i) ≡ false = by_answer (route x == i) (λ y. absurd (a.0 (grind (arith, nat_tests)))) (λ n. n) in
      rw e (off_count i es a.1)

  here_gone : (i : ℕ) (es : List K) → Routed route i es → filter (λ (p : K). not (route p == i)) es ≡ []
  here_gone i [] r = refl
  here_gone i (x ∷ es) r =
      let e : (route x == i) ≡ true = let h = r.0 in grind (arith, nat_tests) in
      rw e (here_gone i es r.1)

  here_count : (i : ℕ) (es : List K) → Routed route i es → count_by (λ (p : K). route p == i) es ≡ length es
  here_count i [] r = refl
  here_count i (x ∷ es) r =
      let e : (route x == i) ≡ true = let h = r.0 in grind (arith, nat_tests) in
      let one = sum_by-cons (λ (q : K). cond (route q == i) 1 0) x es in
      one ∙ rw e (let n = here_count i es r.1 in omega (arith, n))

  permuted_keeps : (i : ℕ) (es ds : List K) → IsPermutation es ds → Routed route i es → Routed route i ds
  permuted_keeps i es ds p routed =
      recursion_from_All (λ k. route k ≡ i) ds (All-permutation (λ k. route k ≡ i) es (ds) p (All-from_recursion (λ k. route k ≡ i) es routed))

  module _ (t : K → Bool) (i : ℕ) where
    without_keeps : (es : List K) → Routed route i es → Routed route i (remove_key t es)
    without_keeps [] r = tt
    without_keeps (x ∷ es) r = by (t x) (without_keeps es r.1)
      where
        by : (b : Bool) → Routed route i (remove_key t es) → Routed route i (cond b es (x ∷ remove_key t es))
        by true q = r.1
        by false q = (r.0, q)

    key_keeps : (es : List K) (k : K) → route k ≡ i → Routed route i es → Routed route i (swap_key t es k)
    key_keeps [] k e r = tt
    key_keeps (x ∷ es) k e r = by (t x) (key_keeps es k e r.1)
      where
        by : (b : Bool) → Routed route i (swap_key t es k) → Routed route i (cond b (k ∷ es) (x ∷ swap_key t es k))
        by true q = (e, r.1)
        by false q = (r.0, q)

module _ {K : Type 0} (eq : K → K → Bool) (route : K → ℕ) (alike : (a b : K) → eq a b ≡ true → route a ≡ route b) where
  off_none : (i : ℕ) (k : K) (es : List K) → route k ≡ i → Off route i es → NonePasses (eq k) es
  off_none i k [] e a = tt
  off_none i k (x ∷ es) e a = (by_answer (eq k x) (λ y. absurd (a.0 (sym (alike k x y) ∙ e))) (λ n. n), off_none i k es e a.1)

  -- one part, with the keys B of the parts before it and the keys A of the parts behind it
  module _ (i : ℕ) (B A : List K) (off_b : Off route i B) (off_a : Off route i A) where
    find_whole : (k : K) (s : List K) → route k ≡ i → find eq (B ++ (s ++ A)) k ≡ find eq s k
    find_whole k s e = find_front (eq k) B (s ++ A) (off_none i k B e off_b) ∙ find_back (eq k) s A (off_none i k A e off_a)

    without_whole : (k : K) (s : List K) → route k ≡ i → without eq (B ++ (s ++ A)) k ≡ B ++ (without eq s k ++ A)
    without_whole k s e = without_front (eq k) B (s ++ A) (off_none i k B e off_b) ∙ ap (λ l. B ++ l) (without_back (eq k) s A (off_none i k A e off_a))

    key_whole : (k q : K) (s : List K) → route k ≡ i → swap_key (eq k) (B ++ (s ++ A)) q ≡ B ++ (swap_key (eq k) s q ++ A)
    key_whole k q s e = key_front (eq k) B (s ++ A) q (off_none i k B e off_b) ∙ ap (λ l. B ++ l) (key_back (eq k) s A q (off_none i k A e off_a))

    permuted_whole : (s t : List K) → IsPermutation s t → IsPermutation (B ++ (s ++ A)) (B ++ (t ++ A))
    permuted_whole s t p = IsPermutation-append_right B (s ++ A) (t ++ A) (IsPermutation-append_left A s t p)

    added_whole : (s t : List K) (x : K) → IsPermutation (x ∷ s) t → IsPermutation (x ∷ (B ++ (s ++ A))) (B ++ (t ++ A))
    added_whole s t x p =
        IsPermutation-trans (x ∷ (B ++ (s ++ A))) (B ++ (x ∷ (s ++ A))) (B ++ (t ++ A))
        (IsPermutation-sym (B ++ (x ∷ (s ++ A))) (x ∷ (B ++ (s ++ A))) (IsPermutation-middle B x (s ++ A)))
        (permuted_whole (x ∷ s) t p)

    abbrev around : List K → List K
    around s = B ++ (s ++ A)

    same_whole : (s t : State K) → t ≡ s → around t.0 ≡ around s.0
    same_whole s t e = ap (λ (u : State K). around u.0) e

    abbrev alone : List K → State K
    alone es = (es, 0)

    unmoved : (s t : State K) → t ≡ s → alone (around t.0) ≡ alone (around s.0)
    unmoved s t e = ap (λ (u : State K). alone (around u.0)) e

    -- a step of one part is a step of all parts together
    pub step_whole : (s t : State K) (call : SetCall K) (reply : Reply K (Unit {0})) → Routed route i s.0 → KeyRouted route i (key_of_set call)
        → SetMoves eq s call reply t → SetWholeMoves eq (λ k. route k == i) (around s.0) call reply (around t.0)
    step_whole s t (Insert k) Inserted routed key h = (find_whole k s.0 key ∙ h.0, added_whole s.0 t.0 k h.1, refl)
    step_whole s t (Insert k) (Exists l u) routed key h = (h.0, rw (find_whole k s.0 key) h.1, unmoved s t h.2)
    step_whole s t (Replace k) (Key None) routed key h = (find_whole k s.0 key ∙ h.0, added_whole s.0 t.0 k h.1, refl)
    step_whole s t (Replace k) (Key (Some l)) routed key h = (find_whole k s.0 key ∙ h.0, ap around h.1 ∙ sym (key_whole k k s.0 key), refl)
    step_whole s t (Remove k) (Key None) routed key h = (find_whole k s.0 key ∙ h.0, unmoved s t h.1)
    step_whole s t (Remove k) (Key (Some l)) routed key h = (find_whole k s.0 key ∙ h.0, rw (without_whole k s.0 key) (permuted_whole (without eq s.0 k) t.0 h.1), refl)
    step_whole s t (Read k) (Key r) routed key h = (rw (find_whole k s.0 key) h.0, unmoved s t h.1)
    step_whole s t (Contains k) (Has b) routed key h = (rw (find_whole k s.0 key) h.0, unmoved s t h.1)
    step_whole s t Clear Cleared routed key h =
        let here = λ (p : K). not (route p == i) in
        ap around h.0 ∙ sym (filter-append here B (s.0 ++ A) ∙ rw (off_kept route i B off_b, filter-append here s.0 A, here_gone route i s.0 routed, off_kept route i A off_a) refl)
    step_whole s t Len (Count n) routed key h = (
      (let here = λ (p : K). route p == i in
          let one : count_by here (B ++ (s.0 ++ A)) ≡ count_by here B + count_by here (s.0 ++ A) = sum_by-append (λ (p : K). cond (here p) 1 0) B (s.0 ++ A) in
          let two : count_by here (s.0 ++ A) ≡ count_by here s.0 + count_by here A = sum_by-append (λ (p : K). cond (here p) 1 0) s.0 A in
          omega (arith, h.0, one, two, off_count route i B off_b, off_count route i A off_a, here_count route i s.0 routed)),
      same_whole s t h.1,
    )
    step_whole s t call reply routed key h = absurd h

  -- a step of the part to which the call's key belongs is a step of the whole
  pub set_call_is_whole : (before after : List (State K)) (old new : State K) (call : SetCall K) (reply : Reply K (Unit {0}))
      → RoutedFrom route (λ s. s.0) 0 (before ++ old ∷ after) → KeyRouted route (length before) (key_of_set call) → SetMoves eq old call reply new
      → SetWholeMoves eq (λ k. route k == length before) (joined (before ++ old ∷ after)) call reply (joined (before ++ new ∷ after))
  set_call_is_whole before after old new call reply routed key h =
      let i = length before in
      let b = off_before route i 0 before old after (omega arith) routed in
      let a = off_after route i (i + 1) after (omega arith) b.1.1 in
      rw (flat_map-append (λ (s : State K). s.0) before (old ∷ after), flat_map-append (λ (s : State K). s.0) before (new ∷ after)) (step_whole i (joined before) (joined after) b.0 a old new call reply b.1.0 key h)

  -- after a call whose key belongs to part i, all keys of the part belong to part i
  pub set_call_keeps : (i : ℕ) (s t : State K) (call : SetCall K) (reply : Reply K (Unit {0})) → Routed route i s.0 → KeyRouted route i (key_of_set call)
      → SetMoves eq s call reply t → Routed route i t.0
  set_call_keeps i s t (Insert k) Inserted routed key h = permuted_keeps route i (k ∷ s.0) t.0 h.1 (key, routed)
  set_call_keeps i s t (Insert k) (Exists l u) routed key h = rw h.2 routed
  set_call_keeps i s t (Replace k) (Key None) routed key h = permuted_keeps route i (k ∷ s.0) t.0 h.1 (key, routed)
  set_call_keeps i s t (Replace k) (Key (Some l)) routed key h = rw h.1 (key_keeps route (eq k) i s.0 k key routed)
  set_call_keeps i s t (Remove k) (Key None) routed key h = rw h.1 routed
  set_call_keeps i s t (Remove k) (Key (Some l)) routed key h = permuted_keeps route i (without eq s.0 k) t.0 h.1 (without_keeps route (eq k) i s.0 routed)
  set_call_keeps i s t (Read k) (Key r) routed key h = rw h.1 routed
  set_call_keeps i s t (Contains k) (Has b) routed key h = rw h.1 routed
  set_call_keeps i s t Clear Cleared routed key h = rw h.0 tt
  set_call_keeps i s t Len (Count n) routed key h = rw h.1 routed
  set_call_keeps i s t call reply routed key h = absurd h

-- after a resize of part i, all keys of the part belong to part i
pub set_resize_keeps : {K H : Type 0} (g : Setting H) (route : K → ℕ) (i : ℕ) (old new : State K) (buckets : ℕ) → Routed route i old.0 → ResizesTo g old buckets new → Routed route i new.0
set_resize_keeps g route i old new buckets routed h = permuted_keeps route i old.0 new.0 h.same routed
