-- Facts that a search of a bucket keeps.
use Rattle.std.proofs.Common.{◌≡◌, ℕ, ◌+◌, ◌-◌, ◌<◌, ◌≤◌, ◌≢◌, ◌==◌, Bool, true, false, List, [], ◌∷◌, ◌++◌, length, take, map, get_or, refl, sym, ap, ◌∙◌, subst, cond, arith, rules, Some, None, nat_lt, length-append, eq-eqb}
use Rattle.std.specs.Int.{bit_at, trailing_zeros, w32}
use Rattle.std.specs.List.{position, position_or_len}
use Rattle.std.proofs.lemmas.List.{get_or-map, get_or-take, get_or_append_left, get_or-append-add, get_or-append_right}
use Rattle.std.proofs.lemmas.List.Sums.{position_or_len_is}
use Rattle.std.proofs.lemmas.Simd.{bit_mask_l}
use Rattle.std.proofs.lemmas.Nat.Bits.{bit_at-zero}
use Rattle.scc_array.specs.Shelf.{Shelf, HasTag}
use lib.Lanes.{mask_l}
use native.Mathlib.Decide.{dec_lt}

-- the bit of each slot whose entry passes p is still set
pub record HitsLeft {X : Type 0} (p : X → Bool) (xs : List X) (bits : ℕ) : Type 0 where
  pub hits : (j : ℕ) (d : X) → j < length xs → p (get_or xs j d) ≡ true → bit_at bits j ≡ 1

-- no entry below i passes p
pub record MissedBelow {X : Type 0} (p : X → Bool) (ys : List X) (i : ℕ) : Type 0 where
  pub missed : (j : ℕ) (d : X) → j < i → p (get_or ys j d) ≡ false

not_true : (b : Bool) → (b ≡ true → ⊥) → b ≡ false
not_true true h = absurd (h refl)
not_true false h = refl

bit_of_true : (b : Bool) → b ≡ true → ◌≡◌ {A = ℕ} (cond b 1 0) 1
bit_of_true b h = ap (λ x. cond x 1 0) h

pub hits_start : {X : Type 0} (p : X → Bool) (b : Shelf X) (tag : ℕ) (tags : List ℕ) → HasTag p tag b → length b.slots ≤ 32 → length tags ≡ 32 → b.tags ≡ take (length b.slots) tags
    → HitsLeft p b.slots (mask_l (map (λ x. x == tag) tags))
hits_start p b tag tags h le n e = record {
  hits = λ j d l t.
      let there : get_or b.tags j 0 ≡ tag = h j d l t in
      let stored : get_or tags j 0 ≡ tag = sym (get_or-take (length b.slots) tags j 0 l) ∙ sym (ap (λ x. get_or x j 0) e) ∙ there in
      let lane : get_or (map (λ x. x == tag) tags) j false ≡ (get_or tags j 0 == tag) = get_or-map (λ x. x == tag) tags j 0 false (omega arith) in
      bit_mask_l (map (λ x. x == tag) tags) j ∙ bit_of_true _ (lane ∙ eq-eqb _ _ stored);
}

pub hits_next : {X : Type 0} (p : X → Bool) (xs : List X) (bits rest slot : ℕ) → HitsLeft p xs bits → slot ≡ trailing_zeros w32 bits
    → ((d : X) → slot < length xs → p (get_or xs slot d) ≡ true → ⊥) → ((k : ℕ) → bit_at bits k ≡ 1 → k ≢ trailing_zeros w32 bits → bit_at rest k ≡ 1) → HitsLeft p xs rest
hits_next p xs bits rest slot h e miss others = record {
  hits = λ j d l t. others j (h.hits j d l t) (λ z. let same : j ≡ slot = z ∙ sym e in miss d (omega arith) (subst (λ k. p (get_or xs k d) ≡ true) same t));
}

pub missed_slots : {X : Type 0} (p : X → Bool) (xs : List X) (bits : ℕ) → HitsLeft p xs bits → bits ≡ 0 → MissedBelow p xs (length xs)
missed_slots p xs bits h e = record {
  missed = λ j d l. not_true _ (λ t. let one : bit_at 0 j ≡ 1 = subst (λ n. bit_at n j ≡ 1) e (h.hits j d l t) in let z = bit_at-zero j in omega arith);
}

pub found : {X : Type 0} (p : X → Bool) (xs : List X) (i : ℕ) → i < length xs → position_or_len p xs ≡ i → position p xs ≡ Some i
found p xs i l e = rw e (let t : nat_lt i (length xs) ≡ true = search rules in rw t)

pub position_is : {X : Type 0} (p : X → Bool) (xs : List X) (i : ℕ) (d : X) → i < length xs → ((k : ℕ) → k < i → p (get_or xs k d) ≡ false) → p (get_or xs i d) ≡ true → position p xs ≡ Some i
position_is p xs i d l below here = found p xs i l (position_or_len_is p xs i d (omega arith) below (λ _. here))

pub found_slot : {X : Type 0} (p : X → Bool) (xs ys : List X) (bits i : ℕ) (d : X) → HitsLeft p xs bits → ((k : ℕ) → bit_at bits k ≡ 1 → i ≤ k) → i < length xs → d ≡ get_or xs i d → p d ≡ true
    → position p (xs ++ ys) ≡ Some i
found_slot p xs ys bits i d h first l at pd =
    let here : p (get_or xs i d) ≡ true = subst (λ y. p y ≡ true) at pd in
    position_is p (xs ++ ys) i d (omega (arith, length-append xs ys))
    (λ k lk. rw (get_or_append_left xs ys d k (omega arith)) (not_true _ (λ t. let f = first k (h.hits k d (omega arith) t) in absurd (omega arith))))
    (rw (get_or_append_left xs ys d i l) here)

missed_both : {X : Type 0} (p : X → Bool) (xs ys : List X) (i k : ℕ) (d : X) → MissedBelow p xs (length xs) → MissedBelow p ys i → k < length xs + i → p (get_or (xs ++ ys) k d) ≡ false
missed_both p xs ys i k d h m lk = elim (dec_lt k (length xs)) [
  | yes q ↦ rw (get_or_append_left xs ys d k q) (h.missed k d q)
  | no q ↦ rw (get_or-append_right xs ys (length xs) k d refl (omega arith)) (m.missed (k - length xs) d (omega arith))
]

pub none_by : {X : Type 0} (p : X → Bool) (xs : List X) (n : ℕ) → position_or_len p xs ≡ n → nat_lt n (length xs) ≡ false → position p xs ≡ None
none_by p xs n e t = rw e (rw t)

pub found_overflow : {X : Type 0} (p : X → Bool) (xs ys : List X) (i : ℕ) (d : X) → MissedBelow p xs (length xs) → MissedBelow p ys i → i < length ys → d ≡ get_or ys i d → p d ≡ true
    → position p (xs ++ ys) ≡ Some (length xs + i)
found_overflow p xs ys i d h m l at pd =
    let here : p (get_or ys i d) ≡ true = subst (λ y. p y ≡ true) at pd in
    position_is p (xs ++ ys) (length xs + i) d (omega (arith, length-append xs ys))
    (λ k lk. missed_both p xs ys i k d h m lk)
    (rw (get_or-append-add xs ys i d) here)

pub none_is : {X : Type 0} (p : X → Bool) (zs : List X) → ((k : ℕ) (d : X) → k < length zs → p (get_or zs k d) ≡ false) → position p zs ≡ None
none_is p [] f = refl
none_is p (z ∷ zs) f =
    let all : position_or_len p (z ∷ zs) ≡ length (z ∷ zs) = position_or_len_is p (z ∷ zs) (length (z ∷ zs)) z (omega arith) (λ k l. f k z l) (λ l. absurd (omega arith)) in
    let t : nat_lt (length (z ∷ zs)) (length (z ∷ zs)) ≡ false = search rules in
    none_by p (z ∷ zs) (length (z ∷ zs)) all t

pub found_none : {X : Type 0} (p : X → Bool) (xs ys : List X) → MissedBelow p xs (length xs) → (i : ℕ) → MissedBelow p ys i → i ≡ length ys → position p (xs ++ ys) ≡ None
found_none p xs ys h i m e = none_is p (xs ++ ys) (λ k d l. missed_both p xs ys i k d h m (omega (arith, length-append xs ys)))
