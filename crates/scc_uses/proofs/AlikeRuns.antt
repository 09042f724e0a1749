-- Two runs of one list of calls, if alike states give alike replies.
use Rattle.std.proofs.Common.{◌≡◌, ◌∙◌, ℕ, Bool, true, List, [], ◌∷◌, length, Option, None, Some, refl, sym, subst, arith, inl, inr}
use Rattle.std.specs.Cmp.{IsEquivalence, IsPartialEquivalence}
use Rattle.scc_calls.specs.Copies.{Alike}
use Rattle.scc_calls.specs.Run.{IsRun, done, resize, answer}
use Rattle.scc_calls.specs.declared.replies.Reply.{Reply}
use Rattle.scc_calls.specs.declared.replies.Reply.TheVariants.{Inserted, Exists, Old, Key, Pair, Value, Has, Evicted, Cleared, Count}
use Rattle.scc_uses.specs.Alikeness.{AgreeAlong, Both, PairsAlike, RepliesAlike}

module _ {S R : Type 0} (Like : S → S → Type 0) (like : R → R → Type 0) where
  -- the replies agree as far as both lists go. If the lists are equally long, the end states are alike
  abbrev pub Agrees : List R → List R → S → S → Type 0
  Agrees made others u v = AgreeAlong like made others × (length others ≡ length made → Like u v)

module _ {S C R : Type 0} (Like : S → S → Type 0) (like : R → R → Type 0) {moves : S → C → R → S → Type 0} {resizes others-resizes : S → ℕ → S → Type 0}
    (alike : (s t u v : S) (call : C) (q r : R) → Like s t → moves s call q u → moves t call r v → like q r × Like u v)
    (left : (s t u : S) (number : ℕ) → Like s t → resizes s number u → Like u t) (right : (s t u : S) (number : ℕ) → Like s t → others-resizes t number u → Like s u) where
  none-made : {s t v : S} {calls : List C} {others : List R} → Like s t → IsRun moves others-resizes t calls others v → Agrees Like like [] others s v
  none-made l done = (tt, λ e. l)
  none-made {s} l (resize {s = t} {t = u} {buckets} h r) = none-made (right s t u buckets l h) r
  none-made l (answer m r) = (tt, λ e. absurd (omega (arith, e)))

  one-made : {s m u : S} {call : C} {calls : List C} {reply : R} (made : List R) → moves s call reply m → ((t v : S) (others : List R) → Like m t → IsRun moves others-resizes t calls others v → Agrees Like like made others u v)
      → (t v : S) (others : List R) → Like s t → IsRun moves others-resizes t (call ∷ calls) others v → Agrees Like like (reply ∷ made) others u v
  one-made made m next t v others l done = (tt, λ e. absurd (omega (arith, e)))
  one-made {s} made m next t v others l (resize {t = mid} {buckets} h r) = one-made made m next mid v others (right s t mid buckets l h) r
  one-made {s} {m = mid} {call} {reply} made m next t v others l (answer {t = there} {reply = other} {replies} n r) =
      let a = alike s t mid there call reply other l m n in
      let b = next there v replies a.1 r in
      ((a.0, b.0), λ e. b.1 (omega (arith, e)))

  pub runs-alike : {s t u v : S} {calls : List C} {made others : List R} → Like s t → IsRun moves resizes s calls made u → IsRun moves others-resizes t calls others v → Agrees Like like made others u v
  runs-alike l done r = none-made l r
  runs-alike {t} l (resize {s} {t = mid} {buckets} h r) q = runs-alike (left s t mid buckets l h) r q
  runs-alike {t} {v} {others} l (answer {replies} m r) q = one-made replies m (λ t v others k p. runs-alike k r p) t v others l q

module _ {X : Type 0} (like : X → X → Type 0) where
  pub both-refl : ((a : X) → like a a) → (o : Option X) → Both like o o
  both-refl f None = tt
  both-refl f (Some a) = f a

  pub both-symm : ((a b : X) → like a b → like b a) → (o p : Option X) → Both like o p → Both like p o
  both-symm f None None h = tt
  both-symm f (Some a) (Some b) h = f a b h
  both-symm f None (Some b) h = absurd h
  both-symm f (Some a) None h = absurd h

  pub both-trans : ((a b c : X) → like a b → like b c → like a c) → (o p q : Option X) → Both like o p → Both like p q → Both like o q
  both-trans f None None q h i = i
  both-trans f (Some a) (Some b) (Some c) h i = f a b c h i
  both-trans f (Some a) (Some b) None h i = absurd i
  both-trans f None (Some b) q h i = absurd h
  both-trans f (Some a) None q h i = absurd h

  -- if each element is like itself, two options that are equal are alike
  pub both-same : ((a : X) → like a a) → (o p : Option X) → o ≡ p → Both like o p
  both-same f o p e = subst (Both like o) e (both-refl f o)

  pub agree-symm : ((a b : X) → like a b → like b a) → (xs ys : List X) → AgreeAlong like xs ys → AgreeAlong like ys xs
  agree-symm f [] [] h = tt
  agree-symm f [] (y ∷ ys) h = tt
  agree-symm f (x ∷ xs) [] h = tt
  agree-symm f (x ∷ xs) (y ∷ ys) h = (f x y h.0, agree-symm f xs ys h.1)

module _ {V : Type 0} {values : V → V → Bool} (part : IsPartialEquivalence values) where
  pub alike-symm : (a b : V) → Alike values a b → Alike values b a
  alike-symm a b (inl same) = inl (sym same)
  alike-symm a b (inr e) = inr (part.symm b a ∙ e)

  pub alike-trans : (a b c : V) → Alike values a b → Alike values b c → Alike values a c
  alike-trans a b c (inl same) h = subst (λ (z : V). Alike values z c) same h
  alike-trans a b c (inr e) (inl same) = inr (subst (λ (z : V). values a z ≡ true) (sym same) e)
  alike-trans a b c (inr e) (inr f) = inr (part.trans a b c e f)

module _ {K V : Type 0} {keys : K → K → Bool} {values : V → V → Bool} (laws : IsEquivalence keys) (part : IsPartialEquivalence values) where
  pub equal-symm : (a b : K) → keys a b ≡ true → keys b a ≡ true
  equal-symm a b e = laws.symm b a ∙ e

  pub equal-trans : (a b c : K) → keys a b ≡ true → keys b c ≡ true → keys a c ≡ true
  equal-trans a b c e f = laws.congr a b c e ∙ f

  pairs-symm : (p q : K × V) → PairsAlike keys values p q → PairsAlike keys values q p
  pairs-symm p q h = (equal-symm p.0 q.0 h.0, alike-symm part p.1 q.1 h.1)

  pairs-trans : (p q r : K × V) → PairsAlike keys values p q → PairsAlike keys values q r → PairsAlike keys values p r
  pairs-trans p q r h i = (equal-trans p.0 q.0 r.0 h.0 i.0, alike-trans part p.1 q.1 r.1 h.1 i.1)

  pub replies-refl : (q : Reply K V) → RepliesAlike keys values q q
  replies-refl Inserted = tt
  replies-refl (Exists k v) = (laws.refl k, inl refl)
  replies-refl (Old o) = both-refl (Alike values) (λ v. inl refl) o
  replies-refl (Key o) = both-refl (λ k l. keys k l ≡ true) (λ k. laws.refl k) o
  replies-refl (Pair o) = both-refl (PairsAlike keys values) (λ p. (laws.refl p.0, inl refl)) o
  replies-refl (Value o) = both-refl (Alike values) (λ v. inl refl) o
  replies-refl (Has b) = refl
  replies-refl (Evicted o) = both-refl (PairsAlike keys values) (λ p. (laws.refl p.0, inl refl)) o
  replies-refl Cleared = tt
  replies-refl (Count n) = refl

  pub replies-symm : (q r : Reply K V) → RepliesAlike keys values q r → RepliesAlike keys values r q
  replies-symm Inserted Inserted h = tt
  replies-symm (Exists k v) (Exists l w) h = (equal-symm k l h.0, alike-symm part v w h.1)
  replies-symm (Old o) (Old p) h = both-symm (Alike values) (alike-symm part) o p h
  replies-symm (Key o) (Key p) h = both-symm (λ k l. keys k l ≡ true) equal-symm o p h
  replies-symm (Pair o) (Pair p) h = both-symm (PairsAlike keys values) pairs-symm o p h
  replies-symm (Value o) (Value p) h = both-symm (Alike values) (alike-symm part) o p h
  replies-symm (Has a) (Has b) h = sym h
  replies-symm (Evicted o) (Evicted p) h = both-symm (PairsAlike keys values) pairs-symm o p h
  replies-symm Cleared Cleared h = tt
  replies-symm (Count m) (Count n) h = sym h
  replies-symm q r h = absurd h

  pub replies-trans : (q r s : Reply K V) → RepliesAlike keys values q r → RepliesAlike keys values r s → RepliesAlike keys values q s
  replies-trans Inserted Inserted s h i = i
  replies-trans Cleared Cleared s h i = i
  replies-trans (Exists k v) (Exists l w) (Exists j x) h i = (equal-trans k l j h.0 i.0, alike-trans part v w x h.1 i.1)
  replies-trans (Exists k v) (Exists l w) s h i = absurd i
  replies-trans (Old o) (Old p) (Old n) h i = both-trans (Alike values) (alike-trans part) o p n h i
  replies-trans (Old o) (Old p) s h i = absurd i
  replies-trans (Key o) (Key p) (Key n) h i = both-trans (λ k l. keys k l ≡ true) equal-trans o p n h i
  replies-trans (Key o) (Key p) s h i = absurd i
  replies-trans (Pair o) (Pair p) (Pair n) h i = both-trans (PairsAlike keys values) pairs-trans o p n h i
  replies-trans (Pair o) (Pair p) s h i = absurd i
  replies-trans (Value o) (Value p) (Value n) h i = both-trans (Alike values) (alike-trans part) o p n h i
  replies-trans (Value o) (Value p) s h i = absurd i
  replies-trans (Has a) (Has b) (Has c) h i = h ∙ i
  replies-trans (Has a) (Has b) s h i = absurd i
  replies-trans (Evicted o) (Evicted p) (Evicted n) h i = both-trans (PairsAlike keys values) pairs-trans o p n h i
  replies-trans (Evicted o) (Evicted p) s h i = absurd i
  replies-trans (Count l) (Count m) (Count n) h i = h ∙ i
  replies-trans (Count l) (Count m) s h i = absurd i
  replies-trans q r s h i = absurd h

  -- if equal replies are alike, a reply is like each reply that may stand for it
  pub replies-given : (replies : Reply K V → Reply K V → Bool) → ((a b : Reply K V) → replies a b ≡ true → RepliesAlike keys values a b) → (a b : Reply K V) → Alike replies a b → RepliesAlike keys values a b
  replies-given replies like a b (inl same) = subst (RepliesAlike keys values a) (sym same) (replies-refl a)
  replies-given replies like a b (inr e) = like a b e
