-- The replies that workers were told, and the call records of their numbers.
use Rattle.std.proofs.Common.{◌≡◌, ℕ, zero, suc, ◌+◌, ◌<◌, ◌≤◌, List, [], ◌∷◌, Bool, true, length, map, drop, Option, None, Some, get_or, refl, sym, subst, ap, ◌∙◌, arith}
use Rattle.std.specs.Prelude.{slice_get}
use Rattle.std.proofs.lemmas.List.{drop_more, drop_all}
use Rattle.scc_history.specs.Receipts.{Matches, SameAt}
use Rattle.scc_history.specs.declared.log.Receipt.{Receipt}
use Rattle.scc_script.specs.declared.line.WorkerCall.{WorkerCall}
use Rattle.scc_play.specs.Answered.{AreAnswered, calls_by}
use Rattle.scc_play.specs.Telling.{AreTold}

some-is : {X : Type 0} (x y : X) → Some x ≡ Some y → x ≡ y
some-is x y e = ap (λ o. elim o [ None ↦ x | Some z ↦ z ]) e

module _ {A R : Type 0} (eq : A → A → Bool) (req : R → R → Bool) (exact : (a b : A) → eq a b ≡ true → a ≡ b) (rexact : (a b : R) → req a b ≡ true → a ≡ b) where
  same-receipt : (x y : Receipt A R) → SameAt eq req (Some x) (Some y) → x ≡ y
  same-receipt x y s =
      let c = exact x.call y.call s.2 in
      let r = rexact x.reply y.reply s.3 in
      let n = s.0 in
      let t = s.1 in
      λ i. record { stripe = n i; stamp = t i; call = c i; reply = r i }

  -- if two lists match at each index, they are equal
  pub same-receipts : (xs ys : List (Receipt A R)) → Matches eq req xs ys → xs ≡ ys
  same-receipts [] [] m = refl
  same-receipts [] (y ∷ ys) m = absurd (m 0)
  same-receipts (x ∷ xs) [] m = absurd (m 0)
  same-receipts (x ∷ xs) (y ∷ ys) m =
      let first = same-receipt x y (m 0) in
      let rest = same-receipts xs ys (λ k. m (suc k)) in
      λ i. first i ∷ rest i

  module _ {K Q V : Type 0} (key_of : A → Option K) (counted : R → Option ℕ) (count : ℕ → R) (stripes : ℕ) (calls : List (WorkerCall A)) (number : Q → ℕ) (receipts : Q → List (Receipt A R)) (replies : V → List R) (records : ℕ → List (Receipt A R)) where
    from-number : (n : ℕ) (p : Q) (v : V) (rs : List R) → number p ≡ n → AreAnswered key_of counted count stripes (calls_by n calls) (receipts p) (replies v) → Matches eq req (receipts p) (records (number p)) → replies v ≡ rs
        → AreAnswered key_of counted count stripes (calls_by n calls) (records n) rs
    from-number n p v rs named answered matches here =
        let same : receipts p ≡ records n = same-receipts (receipts p) (records (number p)) matches ∙ ap records named in
        subst (λ l. AreAnswered key_of counted count stripes (calls_by n calls) (records n) l) here
        (subst (λ l. AreAnswered key_of counted count stripes (calls_by n calls) l (replies v)) same answered)

    -- if the receipts of each pass are the records of its number,
    -- the records of each number answer the calls of the worker with this number
    pub answered-from : (n : ℕ) (passes : List Q) (all : List V) → AreTold key_of counted count stripes calls number receipts replies n passes all
        → ((k : ℕ) (p : Q) → slice_get passes k ≡ Some p → Matches eq req (receipts p) (records (number p)))
        → (worker : ℕ) (rs : List R) → slice_get (map replies all) worker ≡ Some rs → AreAnswered key_of counted count stripes (calls_by (n + worker) calls) (records (n + worker)) rs
    answered-from n [] [] t m worker rs at = absurd (let none : None ≡ Some rs = at in cc)
    answered-from n [] (v ∷ all) t m worker rs at = absurd t
    answered-from n (p ∷ passes) [] t m worker rs at = absurd t
    answered-from n (p ∷ passes) (v ∷ all) t m zero rs at =
        let same : n ≡ n + 0 = omega arith in
        subst (λ w. AreAnswered key_of counted count stripes (calls_by w calls) (records w) rs) same
        (from-number n p v rs t.0 t.1 (m 0 p refl) (some-is (replies v) rs at))
    answered-from n (p ∷ passes) (v ∷ all) t m (suc w) rs at =
        let same : (n + 1) + w ≡ n + suc w = omega arith in
        subst (λ w. AreAnswered key_of counted count stripes (calls_by w calls) (records w) rs) same
        (answered-from (n + 1) passes all t.2 (λ k q e. m (suc k) q e) w rs at)

module _ {A R K Q V : Type 0} (key_of : A → Option K) (counted : R → Option ℕ) (count : ℕ → R) (stripes : ℕ) (calls : List (WorkerCall A)) (number : Q → ℕ) (receipts : Q → List (Receipt A R)) (replies : V → List R) where
  -- if pass i is told its replies, and the passes after it are told theirs, the passes from i on are told theirs
  pub one-told : (passes : List Q) (i : ℕ) (p : Q) (v : V) (more : List V) → i < length passes → get_or passes i p ≡ p → number p ≡ i → AreAnswered key_of counted count stripes (calls_by i calls) (receipts p) (replies v)
      → AreTold key_of counted count stripes calls number receipts replies (i + 1) (drop (i + 1) passes) more → AreTold key_of counted count stripes calls number receipts replies i (drop i passes) (v ∷ more)
  one-told passes i p v more within at named answered others =
      let first : drop i passes ≡ p ∷ drop (i + 1) passes = drop_more passes i p within ∙ ap (λ c. c ∷ drop (i + 1) passes) at in
      subst (λ l. AreTold key_of counted count stripes calls number receipts replies i l (v ∷ more)) (sym first) (named, answered, others)

  -- if no pass is left, nothing is told
  pub none-told : (passes : List Q) (i : ℕ) → length passes ≤ i → AreTold key_of counted count stripes calls number receipts replies i (drop i passes) []
  none-told passes i end = subst (λ l. AreTold key_of counted count stripes calls number receipts replies i l []) (sym (drop_all i passes end)) tt

  -- the number of workers that were told is equal to the number of passes
  pub told-length : (n : ℕ) (passes : List Q) (all : List V) → AreTold key_of counted count stripes calls number receipts replies n passes all → length all ≡ length passes
  told-length n [] [] t = refl
  told-length n [] (v ∷ all) t = absurd t
  told-length n (p ∷ passes) [] t = absurd t
  told-length n (p ∷ passes) (v ∷ all) t = ap suc (told-length (n + 1) passes all t.2)
