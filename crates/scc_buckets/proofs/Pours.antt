-- Entries that move to the buckets of their hashes, one after the other.
use Rattle.std.proofs.Common.{◌≡◌, ◌==◌, ℕ, ◌+◌, ◌<◌, ◌≤◌, ◌≢◌, inl, inr, true, false, List, [], ◌∷◌, ◌++◌, length, sym, ap, ◌∙◌, subst, arith, nat_lt, rules, length-append, append_assoc, eq-eqb}
use Rattle.std.specs.List.{flat_map}
use Rattle.std.proofs.lemmas.List.Concat.{flat_map-append}
use Rattle.std.proofs.lemmas.List.{map-append, append-nil}
use Rattle.std.proofs.lemmas.List.Elements.{filter-append}
use native.Mathlib.Decide.{dec_lt}
use Rattle.scc_array.specs.Shelf.{Shelf, shelf_entries, with_entry, ShelfHasRoom}
use Rattle.scc_common.specs.Routing.{bucket_number, tag_of}
use Rattle.scc_buckets.specs.Pour.{IsPacked, Extends, destined_for}

pub destined_append : {E : Type 0} (hash : E → ℕ) (t k i : ℕ) (xs ys : List E) → destined_for hash t k i (xs ++ ys) ≡ destined_for hash t k i xs ++ destined_for hash t k i ys
destined_append hash t k i xs ys = filter-append _ xs ys

pub destined_here : {E : Type 0} (hash : E → ℕ) (t k i : ℕ) (e : E) (es : List E) → i ≡ bucket_number t k (hash e) → destined_for hash t k i (e ∷ es) ≡ e ∷ destined_for hash t k i es
destined_here hash t k i e es h = let s : (bucket_number t k (hash e) == i) ≡ true = eq-eqb _ _ (sym h) in rw s

not_equal : (a b : ℕ) → a ≢ b → (a == b) ≡ false
not_equal a b h = search rules

pub destined_other : {E : Type 0} (hash : E → ℕ) (t k i : ℕ) (e : E) (es : List E) → i ≢ bucket_number t k (hash e) → destined_for hash t k i (e ∷ es) ≡ destined_for hash t k i es
destined_other hash t k i e es h = let s : (bucket_number t k (hash e) == i) ≡ false = not_equal _ _ (λ z. h (sym z)) in rw s

pub room_by : {E : Type 0} (b : Shelf E) → length b.slots ≤ 32 → length b.slots + length b.overflow < 32 + b.room → ShelfHasRoom b
room_by b w h = elim (dec_lt (length b.slots) 32) [ yes q ↦ inl q | no q ↦ inr (omega arith) ]

push_inner : {E : Type 0} (hash : E → ℕ) (b : Shelf E) (e : E) → IsPacked hash b → length b.slots < 32 → (b.slots ++ e ∷ []) ++ b.overflow ≡ (b.slots ++ b.overflow) ++ e ∷ []
push_inner hash b e p q = elim p.last [
  | inl z ↦ absurd (omega arith)
  | inr z ↦ rw z (append-nil (b.slots ++ e ∷ []) ∙ ap (λ s. s ++ e ∷ []) (sym (append-nil b.slots)))
]

entries_push : {E : Type 0} (hash : E → ℕ) (b : Shelf E) (e : E) (t : ℕ) → IsPacked hash b → shelf_entries (with_entry b e t) ≡ shelf_entries b ++ e ∷ []
entries_push hash b e t p = elim (dec_lt (length b.slots) 32) [
  | yes q ↦ let c : nat_lt (length b.slots) 32 ≡ true = search rules in rw c (push_inner hash b e p q)
  | no q ↦ let c : nat_lt (length b.slots) 32 ≡ false = let r : 32 ≤ length b.slots = omega arith in search rules in rw c (sym (append_assoc b.slots b.overflow (e ∷ [])))
]

packed_slot : {E : Type 0} (hash : E → ℕ) (b : Shelf E) (e : E) (room : ℕ) → IsPacked hash b → length b.slots < 32
    → IsPacked hash (record { slots = b.slots ++ e ∷ []; tags = b.tags ++ tag_of (hash e) ∷ []; overflow = b.overflow; room = room })
packed_slot hash b e room p q = record {
  last = elim p.last [ inl z ↦ absurd (omega arith) | inr z ↦ inr z ];
  tagged = ap (λ s. s ++ tag_of (hash e) ∷ []) p.tagged ∙ sym (map-append (λ x. tag_of (hash x)) b.slots (e ∷ []));
  within = omega (arith, length-append b.slots (e ∷ []));
}

packed_push : {E : Type 0} (hash : E → ℕ) (b c : Shelf E) (e : E) → IsPacked hash b → c ≡ record (with_entry b e (tag_of (hash e))) { room = c.room } → IsPacked hash c
packed_push hash b c e p w = elim (dec_lt (length b.slots) 32) [
  | yes q ↦ let t : nat_lt (length b.slots) 32 ≡ true = search rules in let v = rw t at w in subst (IsPacked hash) (sym v) (packed_slot hash b e c.room p q)
  | no q ↦
      let t : nat_lt (length b.slots) 32 ≡ false = let r : 32 ≤ length b.slots = omega arith in search rules in
      let v = rw t at w in
      subst (IsPacked hash) (sym v) (record { last = inl (omega arith); tagged = p.tagged; within = p.within })
]

pub extends_push : {E : Type 0} (hash : E → ℕ) (a b c : Shelf E) (e : E) (es : List E) → Extends hash a b es → c ≡ record (with_entry b e (tag_of (hash e))) { room = c.room } → b.room ≤ c.room → Extends hash a c (es ++ e ∷ [])
extends_push hash a b c e es x w more = record {
  entries_are = ap shelf_entries w ∙ entries_push hash b e _ x.packed ∙ ap (λ z. z ++ e ∷ []) x.entries_are ∙ append_assoc (shelf_entries a) es (e ∷ []);
  room = omega (arith, x.room);
  packed = packed_push hash b c e x.packed w;
}

pub one_more : {E : Type 0} (yl : List (Shelf E)) (b : Shelf E) (ss vs : List E) → ss ≡ b.slots → vs ≡ b.overflow → (flat_map shelf_entries yl ++ ss) ++ vs ≡ flat_map shelf_entries (yl ++ b ∷ [])
one_more yl b ss vs es eo =
    append_assoc (flat_map shelf_entries yl) ss vs ∙ ap (λ z. flat_map shelf_entries yl ++ (z ++ vs)) es ∙ ap (λ z. flat_map shelf_entries yl ++ (b.slots ++ z)) eo
    ∙ ap (λ z. flat_map shelf_entries yl ++ z) (sym (append-nil (b.slots ++ b.overflow))) ∙ sym (flat_map-append shelf_entries yl (b ∷ []))
