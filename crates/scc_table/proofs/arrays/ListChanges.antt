-- The lists of two arrays together, after one list of the current array or some entries of the old array change.
use Rattle.std.proofs.Common.{◌≡◌, ◌==◌, ℕ, zero, suc, ◌+◌, ◌<◌, ◌≤◌, ◌≢◌, Bool, true, false, cond, List, [], ◌∷◌, length, set, get_or, refl, sym, ap, ◌∙◌, arith}
use Rattle.std.specs.List.{filter}
use Rattle.scc_table.specs.TwoArrays.{joined, waits_at}

pub set-none : {X : Type 0} (i : ℕ) (x : X) → set [] i x ≡ []
set-none zero x = refl
set-none (suc i) x = refl

module _ {E : Type 0} (target : E → ℕ) where
  module _ (es : List E) where
    -- in the joined lists, a bucket that doesn't wait has its own list
    pub joined-here : (a i : ℕ) (ws : List Bool) (ls : List (List E)) → waits_at ws i ≡ false → get_or (joined target a ws ls es) i [] ≡ get_or ls i []
    joined-here a i [] ls h = refl
    joined-here a i (w ∷ ws) [] h = refl
    joined-here a zero (w ∷ ws) (l ∷ ls) h = ap (λ (v : Bool). cond v (filter (λ e. target e == a) es) l) h
    joined-here a (suc i) (w ∷ ws) (l ∷ ls) h = joined-here (suc a) i ws ls h

    -- if the list of a bucket that doesn't wait becomes x, its joined list becomes x
    pub joined-set : (a i : ℕ) (ws : List Bool) (ls : List (List E)) (x : List E) → waits_at ws i ≡ false → joined target a ws (set ls i x) es ≡ set (joined target a ws ls es) i x
    joined-set a i [] ls x h = refl
    joined-set a i (w ∷ ws) [] x h = ap (λ z. joined target a (w ∷ ws) z es) (set-none i x) ∙ sym (set-none i x)
    joined-set a zero (w ∷ ws) (l ∷ ls) x h = ap (λ (v : Bool). cond v (filter (λ e. target e == a) es) x ∷ joined target (suc a) ws ls es) h
    joined-set a (suc i) (w ∷ ws) (l ∷ ls) x h = ap (λ z. cond w (filter (λ e. target e == a) es) l ∷ z) (joined-set (suc a) i ws ls x h)

  module _ (es fs : List E) where
    -- if fs has the entries of es for each bucket, the joined lists are equal
    pub joined-same : (a : ℕ) (ws : List Bool) (ls : List (List E)) → ((k : ℕ) → a ≤ k → filter (λ e. target e == k) fs ≡ filter (λ e. target e == k) es) → joined target a ws ls fs ≡ joined target a ws ls es
    joined-same a [] ls same = refl
    joined-same a (w ∷ ws) [] same = refl
    joined-same a (w ∷ ws) (l ∷ ls) same =
        ap (λ z. cond w z l ∷ joined target (suc a) ws ls fs) (same a (omega arith)) ∙ ap (λ z. cond w (filter (λ e. target e == a) es) l ∷ z) (joined-same (suc a) ws ls (λ k q. same k (omega arith)))

    -- if fs has x for a waiting bucket, and the entries of es for each other bucket, only that bucket's joined list changes
    pub joined-changed : (a t : ℕ) (ws : List Bool) (ls : List (List E)) (x : List E) → waits_at ws t ≡ true → t < length ls → filter (λ e. target e == a + t) fs ≡ x
        → ((k : ℕ) → k ≢ a + t → filter (λ e. target e == k) fs ≡ filter (λ e. target e == k) es) → joined target a ws ls fs ≡ set (joined target a ws ls es) t x
    joined-changed a t [] ls x up l is others = absurd (let z : false ≡ true = up in cc)
    joined-changed a t (w ∷ ws) [] x up l is others = absurd (omega arith)
    joined-changed a zero (w ∷ ws) (l ∷ ls) x up lt is others =
        let near : a + 0 ≡ a = omega arith in
        ap (λ (v : Bool). cond v (filter (λ e. target e == a) fs) l ∷ joined target (suc a) ws ls fs) up
        ∙ ap (λ z. z ∷ joined target (suc a) ws ls fs) (ap (λ n. filter (λ e. target e == n) fs) (sym near) ∙ is)
        ∙ ap (λ z. x ∷ z) (joined-same (suc a) ws ls (λ k q. others k (λ e. let r : k ≡ a = e ∙ near in absurd (omega arith))))
    joined-changed a (suc t) (w ∷ ws) (l ∷ ls) x up lt is others =
        let near : suc a + t ≡ a + suc t = omega arith in
        ap (λ z. cond w z l ∷ joined target (suc a) ws ls fs) (others a (λ e. absurd (omega arith)))
        ∙ ap (λ z. cond w (filter (λ e. target e == a) es) l ∷ z)
        (joined-changed (suc a) t ws ls x up (omega arith) (ap (λ n. filter (λ e. target e == n) fs) near ∙ is) (λ k ne. others k (λ e. ne (e ∙ sym near))))
