-- The entries of both arrays, gathered in the lists of their buckets.
use Rattle.std.proofs.Common.{◌≡◌, ◌==◌, ℕ, zero, suc, ◌+◌, ◌*◌, ◌^◌, ◌<◌, ◌≤◌, ◌⊎◌, inl, inr, Bool, true, false, cond, Some, List, [], ◌∷◌, ◌++◌, length, take, get_or, refl, sym, ap, ◌∙◌, subst, arith, length-append, eq-eqb}
use Rattle.std.specs.List.{filter, flat_map, slice_get, sum_by}
use Rattle.std.specs.List.Sorted.{IsPermutation}
use Rattle.std.proofs.lemmas.List.Concat.{length-flat_map}
use Rattle.std.proofs.lemmas.List.Sorted.{IsPermutation-append, IsPermutation-cons, IsPermutation-middle, IsPermutation-refl, IsPermutation-sym, IsPermutation-trans, length_permutation}
use Rattle.std.proofs.lemmas.List.Sums.{sum_by-cons}
use Rattle.scc_array.specs.Shelves.{shelf_of}
use Rattle.scc_array.specs.Shelf.{Shelf, shelf_entries}
use Rattle.scc_common.specs.Contents.{Contents, entries, bucket_count, list_of, lists_of, settings_of}
use Rattle.scc_buckets.specs.Pour.{destined_for}
use Rattle.scc_buckets.specs.Tables.{overflow_in}
use Rattle.scc_buckets.proofs.PairSplits.{by_answer}
use Rattle.scc_buckets.proofs.Pours.{destined_append, destined_here}
use Rattle.scc_draining.specs.Moves.{grown, shrunk, AreMultiples}
use Rattle.scc_table.specs.TwoArrays.{joined, target_by, together, TwoArrays, waits_at}
use Rattle.scc_table.proofs.places.OldSpots.{split-list}
use Rattle.scc_draining.proofs.Others.{not_equal}

module _ {E : Type 0} (f : E → ℕ) where
  -- an entry of a bucket before number a changes no list from number a on
  joined-below : (a : ℕ) (ws : List Bool) (ls : List (List E)) (e : E) (es : List E) → f e < a → joined f a ws ls (e ∷ es) ≡ joined f a ws ls es
  joined-below a [] ls e es l = refl
  joined-below a (w ∷ ws) [] e es l = refl
  joined-below a (w ∷ ws) (x ∷ ls) e es l =
      let ne : (f e == a) ≡ false = not_equal _ _ (λ z. absurd (omega arith)) in
      let here : filter (λ y. f y == a) (e ∷ es) ≡ filter (λ y. f y == a) es = rw ne refl in
      ap (λ z. cond w z x ∷ joined f (suc a) ws ls (e ∷ es)) here ∙ ap (λ z. cond w (filter (λ y. f y == a) es) x ∷ z) (joined-below (suc a) ws ls e es (omega arith))

  -- one more entry of a waiting bucket is one more entry in the joined lists
  joined-cons : (a k : ℕ) (ws : List Bool) (ls : List (List E)) (e : E) (es : List E) → length ws ≡ length ls → f e ≡ a + k → waits_at ws k ≡ true
      → IsPermutation (e ∷ flat_map (λ l. l) (joined f a ws ls es)) (flat_map (λ l. l) (joined f a ws ls (e ∷ es)))
  joined-cons a k [] ls e es l at up = absurd (let z : false ≡ true = up in cc)
  joined-cons a k (w ∷ ws) [] e es l at up = absurd (omega arith)
  joined-cons a zero (w ∷ ws) (x ∷ ls) e es l at up =
      let eq : (f e == a) ≡ true = eq-eqb _ _ (omega arith) in
      let here : cond w (filter (λ y. f y == a) (e ∷ es)) x ≡ e ∷ cond w (filter (λ y. f y == a) es) x =
      ap (λ (v : Bool). cond v (filter (λ y. f y == a) (e ∷ es)) x) up ∙ ap (λ b. cond b (e ∷ filter (λ y. f y == a) es) (filter (λ y. f y == a) es)) eq ∙ ap (λ (v : Bool). e ∷ cond v (filter (λ y. f y == a) es) x) (sym up) in
      let rest = joined-below (suc a) ws ls e es (omega arith) in
      let same : flat_map (λ l. l) (joined f a (w ∷ ws) (x ∷ ls) (e ∷ es)) ≡ e ∷ flat_map (λ l. l) (joined f a (w ∷ ws) (x ∷ ls) es) =
      ap (λ z. z ++ flat_map (λ l. l) (joined f (suc a) ws ls (e ∷ es))) here ∙ ap (λ z. (e ∷ cond w (filter (λ y. f y == a) es) x) ++ flat_map (λ l. l) z) rest in
      subst (IsPermutation (e ∷ flat_map (λ l. l) (joined f a (w ∷ ws) (x ∷ ls) es))) (sym same) (IsPermutation-refl (e ∷ flat_map (λ l. l) (joined f a (w ∷ ws) (x ∷ ls) es)))
  joined-cons a (suc k) (w ∷ ws) (x ∷ ls) e es l at up =
      let ne : (f e == a) ≡ false = not_equal _ _ (λ z. absurd (omega arith)) in
      let here : filter (λ y. f y == a) (e ∷ es) ≡ filter (λ y. f y == a) es = rw ne refl in
      let hs = cond w (filter (λ y. f y == a) es) x in
      let rs = flat_map (λ l. l) (joined f (suc a) ws ls es) in
      let ts = flat_map (λ l. l) (joined f (suc a) ws ls (e ∷ es)) in
      let rest : IsPermutation (e ∷ rs) ts = joined-cons (suc a) k ws ls e es (omega arith) (omega arith) up in
      let same : flat_map (λ l. l) (joined f a (w ∷ ws) (x ∷ ls) (e ∷ es)) ≡ hs ++ ts = ap (λ z. cond w z x ++ ts) here in
      subst (IsPermutation (e ∷ (hs ++ rs))) (sym same)
      (IsPermutation-trans (e ∷ (hs ++ rs)) (hs ++ e ∷ rs) (hs ++ ts) (IsPermutation-sym (hs ++ e ∷ rs) (e ∷ (hs ++ rs)) (IsPermutation-middle hs e rs)) (IsPermutation-append hs hs (e ∷ rs) ts (IsPermutation-refl hs) rest))

  -- if there are no old entries, and the lists of the waiting buckets are empty, the joined lists are ls
  joined-nil : (a : ℕ) (ws : List Bool) (ls : List (List E)) → length ws ≡ length ls → ((k : ℕ) → waits_at ws k ≡ true → get_or ls k [] ≡ []) → joined f a ws ls [] ≡ ls
  joined-nil a [] ls l h = refl
  joined-nil a (w ∷ ws) [] l h = absurd (omega arith)
  joined-nil a (w ∷ ws) (x ∷ ls) l h =
      let here : cond w [] x ≡ x = by_answer w (λ q. ap (λ (v : Bool). cond v [] x) q ∙ sym (h 0 q)) (λ q. ap (λ (v : Bool). cond v [] x) q) in
      ap (λ z. z ∷ joined f (suc a) ws ls []) here ∙ ap (λ z. x ∷ z) (joined-nil (suc a) ws ls (omega arith) (λ k. h (suc k)))

  gather : (ws : List Bool) (ls : List (List E)) (es : List E) → length ws ≡ length ls → ((k : ℕ) → waits_at ws k ≡ true → get_or ls k [] ≡ []) → ((k : ℕ) (e : E) → slice_get es k ≡ Some e → waits_at ws (f e) ≡ true)
      → IsPermutation (es ++ flat_map (λ l. l) ls) (flat_map (λ l. l) (joined f 0 ws ls es))
  gather ws ls [] l bare h = subst (λ z. IsPermutation (flat_map (λ x. x) ls) (flat_map (λ x. x) z)) (sym (joined-nil 0 ws ls l bare)) (IsPermutation-refl (flat_map (λ x. x) ls))
  gather ws ls (e ∷ es) l bare h =
      let a = es ++ flat_map (λ x. x) ls in
      let b = flat_map (λ x. x) (joined f 0 ws ls es) in
      IsPermutation-trans (e ∷ a) (e ∷ b) (flat_map (λ x. x) (joined f 0 ws ls (e ∷ es))) (IsPermutation-cons e a b (gather ws ls es l bare (λ k. h (suc k)))) (joined-cons 0 (f e) ws ls e es l (omega arith) (h 0 e refl))

no-first : {X : Type 0} (xs : List X) → ((x : X) → slice_get xs 0 ≡ Some x → xs ≡ []) → xs ≡ []
no-first [] h = refl
no-first (x ∷ xs) h = h x refl

module _ {E S : Type 0} (hash : E → ℕ) (c : Contents E S) (ws : List Bool) (olds : List (Shelf E)) (arrays : TwoArrays hash c ws olds) where
  -- the bucket of each entry of the old array waits
  pub all-wait : (k : ℕ) (e : E) → slice_get (flat_map shelf_entries olds) k ≡ Some e → waits_at ws (target_by hash c e) ≡ true
  all-wait k e got = by_answer (waits_at ws (target_by hash c e)) (λ q. q)
      (λ q.
      let t = (settings_of c).skipped in
      let n = bucket_count c in
      let i = target_by hash c e in
      let es = flat_map shelf_entries olds in
      let r = split-list es k e got in
      let bs = destined_for hash t n i (take k es) in
      let cs = destined_for hash t n i r.0 in
      let all : destined_for hash t n i es ≡ bs ++ e ∷ cs = ap (destined_for hash t n i) r.1 ∙ destined_append hash t n i (take k es) (e ∷ r.0) ∙ ap (λ z. bs ++ z) (destined_here hash t n i e r.0 refl) in
      let m : length (bs ++ e ∷ cs) ≡ 0 = ap length (sym all ∙ arrays.not_waiting i q) in
      let l = length-append bs (e ∷ cs) in
      absurd (omega arith))

  -- the entries of the old array and those of the current array are together all entries
  pub gathered : IsPermutation (flat_map shelf_entries olds ++ entries c) (entries (together hash c ws olds))
  unfolding entries lists_of bucket_count list_of
  gathered = elim arrays.flags [
    | inl z ↦
        let none : flat_map shelf_entries olds ≡ [] = no-first (flat_map shelf_entries olds) (λ e got. let up = all-wait 0 e got in let q : false ≡ true = ap (λ w. waits_at w (target_by hash c e)) (sym z) ∙ up in absurd (let y : false ≡ true = q in cc)) in
        let same : joined (target_by hash c) 0 ws c.lists (flat_map shelf_entries olds) ≡ c.lists = ap (λ w. joined (target_by hash c) 0 w c.lists (flat_map shelf_entries olds)) z in
        subst (λ l. IsPermutation (l ++ flat_map (λ x. x) c.lists) (flat_map (λ x. x) (joined (target_by hash c) 0 ws c.lists (flat_map shelf_entries olds)))) (sym none)
        (subst (λ l. IsPermutation (flat_map (λ x. x) c.lists) (flat_map (λ x. x) l)) (sym same) (IsPermutation-refl (flat_map (λ x. x) c.lists)))
    | inr z ↦ gather (target_by hash c) ws c.lists (flat_map shelf_entries olds) z arrays.bare all-wait
  ]

  -- if no bucket waits, the old array holds no entries
  pub none-owed : ws ≡ [] → sum_by (λ b. length (shelf_entries b)) olds ≡ 0
  none-owed z =
      let none : flat_map shelf_entries olds ≡ [] = no-first (flat_map shelf_entries olds) (λ e got. let up = all-wait 0 e got in let q : false ≡ true = ap (λ w. waits_at w (target_by hash c e)) (sym z) ∙ up in absurd (let y : false ≡ true = q in cc)) in
      sym (length-flat_map shelf_entries olds) ∙ ap length none

  -- the number of all entries is the sum of the numbers of entries of both arrays
  pub length-together : length (entries (together hash c ws olds)) ≡ length (entries c) + sum_by (λ b. length (shelf_entries b)) olds
  length-together =
      let es = flat_map shelf_entries olds in
      let m = length_permutation (es ++ entries c) (entries (together hash c ws olds)) gathered in
      let n = length-append es (entries c) in
      let l = length-flat_map shelf_entries olds in
      omega arith

-- the number of entries is at most 32 for each bucket, plus the number of entries in overflow lists
pub owed-most : {E : Type 0} (bs : List (Shelf E)) → ((j : ℕ) → j < length bs → length (shelf_of bs j).slots ≤ 32) → sum_by (λ b. length (shelf_entries b)) bs ≤ 32 * length bs + overflow_in bs
owed-most [] h = omega arith
owed-most {E} (b ∷ bs) h =
    let f : Shelf E → ℕ = λ x. length (shelf_entries x) in
    let o : Shelf E → ℕ = λ x. length x.overflow in
    let p = sum_by-cons f b bs in
    let q = sum_by-cons o b bs in
    let rest : sum_by f bs ≤ 32 * length bs + sum_by o bs = owed-most bs (λ j l. h (suc j) (omega arith)) in
    let first = h 0 (omega arith) in
    let n = length-append b.slots b.overflow in
    let few : f b ≤ 32 + o b = omega arith in
    let goal-is : sum_by f (b ∷ bs) ≤ 32 * length (b ∷ bs) + sum_by o (b ∷ bs) = omega arith in
    goal-is

-- the numbers of buckets of both arrays differ by a factor of two at least
pub twice : (m n : ℕ) → AreMultiples m n → (2 * m ≤ n) ⊎ (2 * n ≤ m)
twice m n (grown zero pos e) = absurd (omega arith)
twice m n (grown (suc zero) pos e) = absurd (omega arith)
twice m n (grown (suc (suc k)) pos e) = let z : suc (suc k) * m ≡ 2 * m + k * m = omega arith in inl (omega arith)
twice m n (shrunk zero pos e) = absurd (omega arith)
twice m n (shrunk (suc zero) pos e) = absurd (omega arith)
twice m n (shrunk (suc (suc k)) pos e) = let z : suc (suc k) * n ≡ 2 * n + k * n = omega arith in inr (omega arith)

-- the number of all entries fits into a word
pub len-fits : (m n cs hs sc so aside : ℕ) → n ≤ 2 ^ 58 → (hs ≡ 0) ⊎ ((m ≤ 2 ^ 58) × AreMultiples m n) → cs ≤ 32 * n + sc → hs ≤ 32 * m + so → so ≤ aside → sc + aside < 2 ^ 62 → cs + hs < 2 ^ 64
len-fits m n cs hs sc so aside a many p q r s = elim many [
  | inl z ↦ omega arith
  | inr z ↦ elim (twice m n z.1) [ inl w ↦ let b = z.0 in omega arith | inr w ↦ let b = z.0 in omega arith ]
]
