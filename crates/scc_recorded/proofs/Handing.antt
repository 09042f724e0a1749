-- Lists that grow by one element.
use Rattle.std.proofs.Common.{◌≡◌, ℕ, zero, suc, ◌+◌, ◌<◌, List, [], ◌∷◌, ◌++◌, length, map, get_or, refl, sym, ap, ◌∙◌, arith}
use Rattle.std.specs.List.{AllByRecursion, range_with_len}

range_more : (a n : ℕ) → range_with_len a (suc n) ≡ range_with_len a n ++ (a + n) ∷ []
range_more a zero = let e : a ≡ a + 0 = omega arith in ap (λ k. k ∷ []) e
range_more a (suc n) = let e : a + 1 + n ≡ a + suc n = omega arith in ap (λ l. a ∷ l) (range_more (a + 1) n ∙ ap (λ k. range_with_len (a + 1) n ++ k ∷ []) e)

module _ {T : Type 0} where
  pub all_push : (P : T → Type 0) (ts : List T) (t : T) → AllByRecursion P ts → P t → AllByRecursion P (ts ++ t ∷ [])
  all_push P [] t a p = (p, tt)
  all_push P (s ∷ ts) t a p = (a.0, all_push P ts t a.1 p)

  map_push : (f : T → ℕ) (ts : List T) (t : T) → map f (ts ++ t ∷ []) ≡ map f ts ++ f t ∷ []
  map_push f [] t = refl
  map_push f (s ∷ ts) t = ap (λ l. f s ∷ l) (map_push f ts t)

  pub numbers_push : (f : T → ℕ) (ts : List T) (t : T) (n : ℕ) → map f ts ≡ range_with_len 0 n → f t ≡ n → map f (ts ++ t ∷ []) ≡ range_with_len 0 (n + 1)
  numbers_push f ts t n e is =
      let z : 0 + n ≡ f t = omega (arith, is) in
      let s : suc n ≡ n + 1 = omega arith in
      map_push f ts t ∙ ap (λ l. l ++ f t ∷ []) e ∙ ap (λ k. range_with_len 0 n ++ k ∷ []) (sym z) ∙ sym (range_more 0 n) ∙ ap (range_with_len 0) s

  pub number_there : (f : T → ℕ) (ts : List T) (a n i : ℕ) (t : T) → map f ts ≡ range_with_len a n → i < length ts → t ≡ get_or ts i t → f t ≡ a + i
  number_there f [] a n i t e h is = absurd (omega arith)
  number_there f (s ∷ ts) a zero i t e h is = cc
  number_there f (s ∷ ts) a (suc n) zero t e h is = let first : f s ≡ a = cc in let z : a ≡ a + 0 = omega arith in ap f is ∙ first ∙ z
  number_there f (s ∷ ts) a (suc n) (suc i) t e h is =
      let rest : map f ts ≡ range_with_len (a + 1) n = cc in
      let z : a + 1 + i ≡ a + suc i = omega arith in
      number_there f ts (a + 1) n i t rest (omega arith) is ∙ z

  pub numbered : (f : T → ℕ) (ts : List T) (n i : ℕ) (t : T) → map f ts ≡ range_with_len 0 n → i < length ts → t ≡ get_or ts i t → f t ≡ i
  numbered f ts n i t e h is = let z : 0 + i ≡ i = omega arith in number_there f ts 0 n i t e h is ∙ z
