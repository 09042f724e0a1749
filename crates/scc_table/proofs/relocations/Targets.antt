-- The numbers of the waiting buckets.
use Rattle.std.proofs.Common.{◌≡◌, ◌==◌, ℕ, zero, suc, ◌+◌, ◌-◌, ◌<◌, ◌≤◌, Bool, true, false, not, cond, List, [], ◌∷◌, length, set, drop, get_or, replicate, refl, sym, ap, ◌∙◌, arith, rules, eqb-true}
use Rattle.std.specs.List.{filter, count_by, range_with_len}
use Rattle.std.proofs.lemmas.List.{length-drop, nil_from_length, set-get_or}
use Rattle.std.proofs.lemmas.List.FromFn.{length-range_with_len}
use Rattle.std.proofs.lemmas.List.Sums.{sum_by-cons}
use Rattle.scc_common.specs.Contents.{Contents, pending_of, waiting_of}
use Rattle.scc_buckets.proofs.PairSplits.{by_answer}
use Rattle.scc_table.specs.Relocates.{left_after}
use Rattle.scc_draining.specs.Waiting.{cleared}
use Rattle.scc_table.specs.TwoArrays.{IsFirstWaiting, IsLoneWaiting, IsRelocated, IsSecondWaiting, pending_targets, waits_at}
use Rattle.scc_table.proofs.relocations.OneByOne.{pending-is}
use Rattle.scc_draining.proofs.Flags.{all-down, one-down, up-within}
use Rattle.scc_draining.proofs.Others.{not_equal}

equal : (a b : ℕ) → a ≡ b → (a == b) ≡ true
equal a b h = search rules

-- the numbers of the flags that are up, if the first flag has number a
abbrev ups : ℕ → List Bool → List ℕ
ups a [] = []
ups a (w ∷ ws) = cond w (a ∷ ups (suc a) ws) (ups (suc a) ws)

ups-are : (p : ℕ → Bool) (a : ℕ) (ws : List Bool) → ((k : ℕ) → k < length ws → p (a + k) ≡ waits_at ws k) → filter p (range_with_len a (length ws)) ≡ ups a ws
ups-are p a [] h = refl
ups-are p a (w ∷ ws) h =
    let here : p a ≡ w = let z : a + 0 ≡ a = omega arith in ap p (sym z) ∙ h 0 (omega arith) in
    let next : a + 1 ≡ suc a = omega arith in
    let rest : filter p (range_with_len (a + 1) (length ws)) ≡ ups (suc a) ws = ap (λ m. filter p (range_with_len m (length ws))) next ∙ ups-are p (suc a) ws (λ k l. let z : suc a + k ≡ a + suc k = omega arith in ap p z ∙ h (suc k) (omega arith)) in
    ap (λ z. cond (p a) (a ∷ z) z) rest ∙ ap (λ (v : Bool). cond v (a ∷ ups (suc a) ws) (ups (suc a) ws)) here

ups-length : (a : ℕ) (ws : List Bool) → length (ups a ws) ≡ count_by (λ w. w) ws
ups-length a [] = refl
ups-length a (w ∷ ws) =
    let s = sum_by-cons (λ (x : Bool). cond {A = ℕ} x 1 0) w ws in
    by_answer w
    (λ q.
    let one : cond {A = ℕ} w 1 0 ≡ 1 = ap (λ (v : Bool). cond {A = ℕ} v 1 0) q in
    let n : length (cond w (a ∷ ups (suc a) ws) (ups (suc a) ws)) ≡ suc (length (ups (suc a) ws)) = ap (λ (v : Bool). length (cond v (a ∷ ups (suc a) ws) (ups (suc a) ws))) q in
    let r = ups-length (suc a) ws in
    omega arith)
    (λ q.
    let none : cond {A = ℕ} w 1 0 ≡ 0 = ap (λ (v : Bool). cond {A = ℕ} v 1 0) q in
    let n : length (cond w (a ∷ ups (suc a) ws) (ups (suc a) ws)) ≡ length (ups (suc a) ws) = ap (λ (v : Bool). length (cond v (a ∷ ups (suc a) ws) (ups (suc a) ws))) q in
    let r = ups-length (suc a) ws in
    omega arith)

-- a number below that of the first flag is not among the numbers of the flags that are up
ups-above : (i a : ℕ) (ws : List Bool) → i < a → filter (λ t. not (t == i)) (ups a ws) ≡ ups a ws
ups-above i a [] l = refl
ups-above i a (w ∷ ws) l =
    let rest = ups-above i (suc a) ws (omega arith) in
    let other : (a == i) ≡ false = not_equal _ _ (λ z. absurd (omega arith)) in
    by_answer w (λ q. rw (q, other) (ap (λ z. a ∷ z) rest)) (λ q. rw q rest)

ups-set : (a i : ℕ) (ws : List Bool) → ups a (set ws i false) ≡ filter (λ t. not (t == a + i)) (ups a ws)
ups-set a i [] = refl
ups-set a zero (w ∷ ws) =
    let near : a + zero ≡ a = omega arith in
    let here : (a == a + zero) ≡ true = equal _ _ (sym near) in
    let rest : filter (λ t. not (t == a + zero)) (ups (suc a) ws) ≡ ups (suc a) ws = ups-above (a + zero) (suc a) ws (omega arith) in
    by_answer w (λ q. rw (q, here) (sym rest)) (λ q. rw q (sym rest))
ups-set a (suc i) (w ∷ ws) =
    let other : (a == a + suc i) ≡ false = not_equal _ _ (λ z. absurd (omega arith)) in
    let near : suc a + i ≡ a + suc i = omega arith in
    let rest : ups (suc a) (set ws i false) ≡ filter (λ t. not (t == a + suc i)) (ups (suc a) ws) = ups-set (suc a) i ws ∙ ap (λ n. filter (λ t. not (t == n)) (ups (suc a) ws)) near in
    by_answer w (λ q. rw (q, other) (ap (λ z. a ∷ z) rest)) (λ q. rw q rest)

ups-first : (a i : ℕ) (ws : List Bool) → waits_at ws i ≡ true → ((j : ℕ) → j < i → waits_at ws j ≡ false) → filter (λ t. not (t == a + i)) (ups a ws) ≡ drop 1 (ups a ws)
ups-first a i [] up below = refl
ups-first a zero (w ∷ ws) up below =
    let near : a + zero ≡ a = omega arith in
    let here : (a == a + zero) ≡ true = equal _ _ (sym near) in
    let rest : filter (λ t. not (t == a + zero)) (ups (suc a) ws) ≡ ups (suc a) ws = ups-above (a + zero) (suc a) ws (omega arith) in
    let q : w ≡ true = up in
    rw (q, here) rest
ups-first a (suc i) (w ∷ ws) up below =
    let near : suc a + i ≡ a + suc i = omega arith in
    let q : w ≡ false = below 0 (omega arith) in
    rw q (ap (λ n. filter (λ t. not (t == n)) (ups (suc a) ws)) (sym near) ∙ ups-first (suc a) i ws up (λ j l. below (suc j) (omega arith)))

ups-head : (a i : ℕ) (ws : List Bool) → waits_at ws i ≡ true → ((j : ℕ) → j < i → waits_at ws j ≡ false) → (0 < length (ups a ws)) × (get_or (ups a ws) 0 0 ≡ a + i)
ups-head a i [] up below = absurd (let z : false ≡ true = up in cc)
ups-head a zero (w ∷ ws) up below =
    let near : a ≡ a + zero = omega arith in
    let q : w ≡ true = up in
    rw q (omega arith, near)
ups-head a (suc i) (w ∷ ws) up below =
    let near : suc a + i ≡ a + suc i = omega arith in
    let q : w ≡ false = below 0 (omega arith) in
    let h = ups-head (suc a) i ws up (λ j l. below (suc j) (omega arith)) in
    rw q (h.0, h.1 ∙ near)

-- no number is among those of the flags that are up if none is up
ups-none : (a : ℕ) (ws : List Bool) → ((k : ℕ) → waits_at ws k ≡ false) → ups a ws ≡ []
ups-none a ws down = nil_from_length (ups a ws) (ups-length a ws ∙ all-down ws (λ k l. down k))

ups-one : (a i : ℕ) (ws : List Bool) → waits_at ws i ≡ true → ((j : ℕ) → j < i → waits_at ws j ≡ false) → ups a ws ≡ (a + i) ∷ drop 1 (ups a ws)
ups-one a i [] up below = absurd (let z : false ≡ true = up in cc)
ups-one a zero (w ∷ ws) up below =
    let near : a ≡ a + zero = omega arith in
    let q : w ≡ true = up in
    rw q (ap (λ n. n ∷ ups (suc a) ws) near)
ups-one a (suc i) (w ∷ ws) up below =
    let near : suc a + i ≡ a + suc i = omega arith in
    let q : w ≡ false = below 0 (omega arith) in
    rw q (ups-one (suc a) i ws up (λ j l. below (suc j) (omega arith)) ∙ ap (λ n. n ∷ drop 1 (ups (suc a) ws)) near)

ups-lone : (a i : ℕ) (ws : List Bool) → waits_at ws i ≡ true → ((j : ℕ) → j < i → waits_at ws j ≡ false) → ((j : ℕ) → i < j → waits_at ws j ≡ false) → ups a ws ≡ (a + i) ∷ []
ups-lone a i [] up below after = absurd (let z : false ≡ true = up in cc)
ups-lone a zero (w ∷ ws) up below after =
    let near : a ≡ a + zero = omega arith in
    let q : w ≡ true = up in
    let none : ups (suc a) ws ≡ [] = ups-none (suc a) ws (λ k. after (suc k) (omega arith)) in
    rw q (ap (λ n. n ∷ ups (suc a) ws) near ∙ ap (λ z. (a + zero) ∷ z) none)
ups-lone a (suc i) (w ∷ ws) up below after =
    let near : suc a + i ≡ a + suc i = omega arith in
    let q : w ≡ false = below 0 (omega arith) in
    rw q (ups-lone (suc a) i ws up (λ j l. below (suc j) (omega arith)) (λ j l. after (suc j) (omega arith)) ∙ ap (λ n. n ∷ []) near)

-- the first two numbers among those of the flags that are up
ups-two : (a i j : ℕ) (ws : List Bool) → waits_at ws i ≡ true → ((k : ℕ) → k < i → waits_at ws k ≡ false) → i < j → waits_at ws j ≡ true → ((k : ℕ) → i < k → k < j → waits_at ws k ≡ false)
    → ups a ws ≡ (a + i) ∷ (a + j) ∷ drop 2 (ups a ws)
ups-two a i j [] up below l more between = absurd (let z : false ≡ true = up in cc)
ups-two a i zero (w ∷ ws) up below l more between = absurd (omega arith)
ups-two a zero (suc j) (w ∷ ws) up below l more between =
    let near : a ≡ a + zero = omega arith in
    let far : suc a + j ≡ a + suc j = omega arith in
    let q : w ≡ true = up in
    let one = ups-one (suc a) j ws more (λ k m. between (suc k) (omega arith) (omega arith)) in
    rw q (ap (λ n. n ∷ ups (suc a) ws) near ∙ ap (λ z. (a + zero) ∷ z) (one ∙ ap (λ n. n ∷ drop 1 (ups (suc a) ws)) far))
ups-two a (suc i) (suc j) (w ∷ ws) up below l more between =
    let near : suc a + i ≡ a + suc i = omega arith in
    let far : suc a + j ≡ a + suc j = omega arith in
    let q : w ≡ false = below 0 (omega arith) in
    let rest = ups-two (suc a) i j ws up (λ k m. below (suc k) (omega arith)) (omega arith) more (λ k m n. between (suc k) (omega arith) (omega arith)) in
    rw q (rest ∙ ap (λ n. n ∷ (suc a + j) ∷ drop 2 (ups (suc a) ws)) near ∙ ap (λ n. (a + suc i) ∷ n ∷ drop 2 (ups (suc a) ws)) far)

-- the numbers that are left without the second
ups-second : (a i j : ℕ) (ws : List Bool) → waits_at ws i ≡ true → ((k : ℕ) → k < i → waits_at ws k ≡ false) → i < j → waits_at ws j ≡ true → ((k : ℕ) → i < k → k < j → waits_at ws k ≡ false)
    → filter (λ t. not (t == a + j)) (ups a ws) ≡ (a + i) ∷ drop 2 (ups a ws)
ups-second a i j [] up below l more between = absurd (let z : false ≡ true = up in cc)
ups-second a i zero (w ∷ ws) up below l more between = absurd (omega arith)
ups-second a zero (suc j) (w ∷ ws) up below l more between =
    let near : a ≡ a + zero = omega arith in
    let far : suc a + j ≡ a + suc j = omega arith in
    let other : (a == a + suc j) ≡ false = not_equal _ _ (λ z. absurd (omega arith)) in
    let q : w ≡ true = up in
    let rest : filter (λ t. not (t == a + suc j)) (ups (suc a) ws) ≡ drop 1 (ups (suc a) ws) =
    ap (λ n. filter (λ t. not (t == n)) (ups (suc a) ws)) (sym far) ∙ ups-first (suc a) j ws more (λ k m. between (suc k) (omega arith) (omega arith)) in
    rw (q, other) (ap (λ n. n ∷ filter (λ t. not (t == a + suc j)) (ups (suc a) ws)) near ∙ ap (λ z. (a + zero) ∷ z) rest)
ups-second a (suc i) (suc j) (w ∷ ws) up below l more between =
    let near : suc a + i ≡ a + suc i = omega arith in
    let far : suc a + j ≡ a + suc j = omega arith in
    let q : w ≡ false = below 0 (omega arith) in
    let rest = ups-second (suc a) i j ws up (λ k m. below (suc k) (omega arith)) (omega arith) more (λ k m n. between (suc k) (omega arith) (omega arith)) in
    rw q (ap (λ n. filter (λ t. not (t == n)) (ups (suc a) ws)) (sym far) ∙ rest ∙ ap (λ n. n ∷ drop 2 (ups (suc a) ws)) near)

ups-without : (i : ℕ) (ws : List Bool) → filter (λ t. not (t == i)) (ups 0 ws) ≡ ups 0 (set ws i false)
ups-without i ws = let near : 0 + i ≡ i = omega arith in ap (λ n. filter (λ t. not (t == n)) (ups 0 ws)) (sym near) ∙ sym (ups-set 0 i ws)

-- `left_after` has two numbers fewer, or none
ups-left : (i : ℕ) (ws : List Bool) → length (left_after i (ups 0 ws)) ≡ length (ups 0 ws) - 2
ups-left i ws =
    let ts = ups 0 ws in
    let rest = filter (λ t. not (t == i)) ts in
    let all = ups-length 0 ws in
    let others : length rest ≡ count_by (λ w. w) (set ws i false) = ap length (ups-without i ws) ∙ ups-length 0 (set ws i false) in
    let left = length-drop (length rest + 2 - length ts) rest in
    by_answer (waits_at ws i)
    (λ up. let one = one-down ws i (up-within ws i up) up in omega arith)
    (λ down.
    let same : set ws i false ≡ ws = ap (set ws i) (sym down) ∙ set-get_or ws i false in
    let none = ap (count_by (λ w. w)) same in
    omega arith)

ups-all : (a n : ℕ) → ups a (replicate n true) ≡ range_with_len a n
ups-all a zero = refl
ups-all a (suc n) = let next : suc a ≡ a + 1 = omega arith in ap (λ z. a ∷ z) (ups-all (suc a) n ∙ ap (λ m. range_with_len m n) next)

module _ {E S : Type 0} where
  targets-are : (c : Contents E S) → pending_targets c ≡ ups 0 (waiting_of c)
  targets-are c = ups-are (waits_at (waiting_of c)) 0 (waiting_of c) (λ k l. let z : 0 + k ≡ k = omega arith in ap (waits_at (waiting_of c)) z)

  -- `pending_targets` has as many numbers as buckets wait
  pub targets-length : (c : Contents E S) → length (pending_targets c) ≡ pending_of c
  targets-length c = ap length (targets-are c) ∙ ups-length 0 (waiting_of c) ∙ sym (pending-is c)

  -- after bucket i is relocated, `pending_targets` loses number i
  pub targets-after : (i : ℕ) (c d : Contents E S) → IsRelocated i c d → pending_targets d ≡ filter (λ t. not (t == i)) (pending_targets c)
  targets-after i c d r =
      let ws = waiting_of c in
      let near : 0 + i ≡ i = omega arith in
      let there : ups 0 (cleared ws i) ≡ ups 0 (set ws i false) =
      by_answer (count_by (λ w. w) (set ws i false) == 0)
      (λ q.
      let none : length (ups 0 (set ws i false)) ≡ 0 = ups-length 0 (set ws i false) ∙ eqb-true _ _ q in
      rw q (sym (nil_from_length (ups 0 (set ws i false)) none)))
      (λ q. rw q refl) in
      targets-are d ∙ ap (ups 0) r.waiting ∙ there ∙ ups-set 0 i ws ∙ ap (λ n. filter (λ t. not (t == n)) (ups 0 ws)) near ∙ ap (filter (λ t. not (t == i))) (sym (targets-are c))

  -- after the first waiting bucket is relocated, `pending_targets` loses its first number
  pub targets-first : (i : ℕ) (c d : Contents E S) → IsFirstWaiting c i → IsRelocated i c d → pending_targets d ≡ drop 1 (pending_targets c)
  targets-first i c d first r =
      let near : 0 + i ≡ i = omega arith in
      targets-after i c d r ∙ ap (filter (λ t. not (t == i))) (targets-are c) ∙ ap (λ n. filter (λ t. not (t == n)) (ups 0 (waiting_of c))) (sym near) ∙ ups-first 0 i (waiting_of c) first.waits first.below ∙ ap (drop 1) (sym (targets-are c))

  -- the first waiting bucket stands first in `pending_targets`
  pub targets-head : (i : ℕ) (c : Contents E S) → IsFirstWaiting c i → (0 < length (pending_targets c)) × (get_or (pending_targets c) 0 0 ≡ i)
  targets-head i c first =
      let near : 0 + i ≡ i = omega arith in
      let h = ups-head 0 i (waiting_of c) first.waits first.below in
      rw (targets-are c) (h.0, h.1 ∙ near)

  -- the first waiting bucket, and those after it
  pub targets-one : (i : ℕ) (c : Contents E S) → IsFirstWaiting c i → pending_targets c ≡ i ∷ drop 1 (pending_targets c)
  targets-one i c first =
      let near : 0 + i ≡ i = omega arith in
      targets-are c ∙ ups-one 0 i (waiting_of c) first.waits first.below ∙ ap (λ n. n ∷ drop 1 (ups 0 (waiting_of c))) near ∙ ap (λ z. i ∷ drop 1 z) (sym (targets-are c))

  -- the only waiting bucket
  pub targets-lone : (i : ℕ) (c : Contents E S) → IsLoneWaiting c i → pending_targets c ≡ i ∷ []
  targets-lone i c h =
      let near : 0 + i ≡ i = omega arith in
      targets-are c ∙ ups-lone 0 i (waiting_of c) h.first.waits h.first.below h.after ∙ ap (λ n. n ∷ []) near

  -- the first two waiting buckets, and those after them
  pub targets-two : (i j : ℕ) (c : Contents E S) → IsSecondWaiting c i j → pending_targets c ≡ i ∷ j ∷ drop 2 (pending_targets c)
  targets-two i j c h =
      let near : 0 + i ≡ i = omega arith in
      let far : 0 + j ≡ j = omega arith in
      targets-are c ∙ ups-two 0 i j (waiting_of c) h.first.waits h.first.below h.behind h.waits h.between ∙ ap (λ n. n ∷ (0 + j) ∷ drop 2 (ups 0 (waiting_of c))) near
      ∙ ap (λ n. i ∷ n ∷ drop 2 (ups 0 (waiting_of c))) far ∙ ap (λ z. i ∷ j ∷ drop 2 z) (sym (targets-are c))

  -- after the second waiting bucket is relocated, `pending_targets` loses its second number
  pub targets-second : (i j : ℕ) (c d : Contents E S) → IsSecondWaiting c i j → IsRelocated j c d → pending_targets d ≡ i ∷ drop 2 (pending_targets c)
  targets-second i j c d h r =
      let near : 0 + i ≡ i = omega arith in
      let far : 0 + j ≡ j = omega arith in
      targets-after j c d r ∙ ap (filter (λ t. not (t == j))) (targets-are c) ∙ ap (λ n. filter (λ t. not (t == n)) (ups 0 (waiting_of c))) (sym far)
      ∙ ups-second 0 i j (waiting_of c) h.first.waits h.first.below h.behind h.waits h.between ∙ ap (λ n. n ∷ drop 2 (ups 0 (waiting_of c))) near ∙ ap (λ z. i ∷ drop 2 z) (sym (targets-are c))

  -- there is one first waiting bucket
  pub same-first : (i j : ℕ) (c : Contents E S) → IsFirstWaiting c i → IsFirstWaiting c j → i ≡ j
  same-first i j c one other = sym (targets-head i c one).1 ∙ (targets-head j c other).1

  pub targets-same : (c d : Contents E S) → waiting_of d ≡ waiting_of c → pending_targets d ≡ pending_targets c
  targets-same c d same = targets-are d ∙ ap (ups 0) same ∙ sym (targets-are c)

  -- a bucket that doesn't wait is not in `pending_targets`
  pub targets-without : (i : ℕ) (c : Contents E S) → waits_at (waiting_of c) i ≡ false → filter (λ t. not (t == i)) (pending_targets c) ≡ pending_targets c
  targets-without i c down =
      let ws = waiting_of c in
      let near : 0 + i ≡ i = omega arith in
      let same : set ws i false ≡ ws = ap (set ws i) (sym down) ∙ set-get_or ws i false in
      ap (filter (λ t. not (t == i))) (targets-are c) ∙ ap (λ n. filter (λ t. not (t == n)) (ups 0 ws)) (sym near) ∙ sym (ups-set 0 i ws) ∙ ap (ups 0) same ∙ sym (targets-are c)

  -- if `left_after` has the waiting buckets afterwards, two buckets fewer wait, or none waits
  pub by-two : (i : ℕ) (c d : Contents E S) → pending_targets d ≡ left_after i (pending_targets c) → pending_of d ≡ pending_of c - 2
  by-two i c d h =
      let few = ap length h ∙ ap (λ z. length (left_after i z)) (targets-are c) ∙ ups-left i (waiting_of c) in
      let a = targets-length d in
      let b = ap length (targets-are c) in
      let m = targets-length c in
      omega arith

  -- if all n buckets waited before, all but two wait afterwards
  pub all-but-two : (i n : ℕ) (d : Contents E S) → 2 ≤ n → pending_targets d ≡ left_after i (range_with_len 0 n) → pending_of d + 2 ≡ n
  all-but-two i n d some h =
      let few = ap length h ∙ ap (λ z. length (left_after i z)) (sym (ups-all 0 n)) ∙ ups-left i (replicate n true) in
      let a = targets-length d in
      let b = ap length (ups-all 0 n) ∙ length-range_with_len 0 n in
      omega arith

  -- if all n buckets wait, `pending_targets` has all numbers below n
  pub targets-all : (n : ℕ) (c : Contents E S) → waiting_of c ≡ replicate n true → pending_targets c ≡ range_with_len 0 n
  targets-all n c all = targets-are c ∙ ap (ups 0) all ∙ ups-all 0 n

  -- if all n buckets but bucket k wait, `pending_targets` has all numbers below n but k
  pub targets-but : (n k : ℕ) (c : Contents E S) → waiting_of c ≡ set (replicate n true) k false → pending_targets c ≡ filter (λ t. not (t == k)) (range_with_len 0 n)
  targets-but n k c but = targets-are c ∙ ap (ups 0) but ∙ sym (ups-without k (replicate n true)) ∙ ap (filter (λ t. not (t == k))) (ups-all 0 n)
