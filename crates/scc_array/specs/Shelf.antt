-- What a bucket holds.
use Rattle.std.specs.Prelude.{◌≡◌, ℕ, ◌-◌, ◌<◌, ◌⊎◌, List, [], ◌∷◌, ◌++◌, length, cond, nat_lt, slice_index, slice_index_or, Bool, true, refl}
use Rattle.std.specs.List.{remove, swap_remove}
use Rattle.std.specs.Coded.{Coded, code_by, coded×, coded_ℕ, coded_list}

-- the entries of the slots with their tags, the entries of the overflow list, and how many entries that list has room
-- for
pub record Shelf (E : Type 0) : Type 0 where
  pub slots : List E
  pub tags : List ℕ
  pub overflow : List E
  pub room : ℕ

-- a bucket as the logic holds it
abbrev pub shelf_code : {E : Type 0} → Coded E → Coded (Shelf E)
shelf_code {E} c =
    code_by (List E × (List ℕ × (List E × ℕ))) (coded× (coded_list c) (coded× (coded_list coded_ℕ) (coded× (coded_list c) coded_ℕ)))
    (λ s. (s.slots, (s.tags, (s.overflow, s.room)))) (λ p. record { slots = p.0; tags = p.1.0; overflow = p.1.1.0; room = p.1.1.1 }) (λ _. refl)

-- all entries of the bucket, those of the slots first
abbrev pub shelf_entries : {E : Type 0} → Shelf E → List E
shelf_entries b = b.slots ++ b.overflow

-- a bucket without entries
abbrev pub empty_shelf : {E : Type 0} → Shelf E
empty_shelf = record { slots = []; tags = []; overflow = []; room = 0 }

-- the bucket with the entry e and its tag t in the next slot
abbrev pub with_slot : {E : Type 0} → Shelf E → E → ℕ → Shelf E
with_slot b e t = record { slots = b.slots ++ e ∷ []; tags = b.tags ++ t ∷ []; overflow = b.overflow; room = b.room }

-- the bucket with the entry e at the end of the overflow list
abbrev pub with_overflow : {E : Type 0} → Shelf E → E → Shelf E
with_overflow b e = record { slots = b.slots; tags = b.tags; overflow = b.overflow ++ e ∷ []; room = b.room }

-- the bucket with the entry e and its tag t in the next slot, or with e at the end of the overflow list if all slots
-- are in use
abbrev pub with_entry : {E : Type 0} → Shelf E → E → ℕ → Shelf E
with_entry b e t = cond (nat_lt (length b.slots) 32) (with_slot b e t) (with_overflow b e)

-- the slot that `with_entry` gives the entry
abbrev pub next_slot : {E : Type 0} → Shelf E → ℕ
next_slot b = cond (nat_lt (length b.slots) 32) (length b.slots) (length (shelf_entries b))

-- a slot is free, or the overflow list has room
abbrev pub ShelfHasRoom : {E : Type 0} → Shelf E → Type 0
ShelfHasRoom b = (length b.slots < 32) ⊎ (length b.overflow < b.room)

-- the bucket without the entry at slot i; the later entries move up
abbrev pub without_slot : {E : Type 0} → Shelf E → ℕ → Shelf E
without_slot b i = cond (nat_lt i (length b.slots))
    (record { slots = remove b.slots i; tags = remove b.tags i; overflow = b.overflow; room = b.room })
    (record { slots = b.slots; tags = b.tags; overflow = remove b.overflow (i - length b.slots); room = b.room })

-- the bucket without the entry x at slot i, which the last entry of the slots or of the overflow list takes
abbrev pub swapped_out : {E : Type 0} → Shelf E → ℕ → E → Shelf E
swapped_out b i x = cond (nat_lt i (length b.slots))
    (record { slots = swap_remove b.slots i x; tags = swap_remove b.tags i 0; overflow = b.overflow; room = b.room })
    (record { slots = b.slots; tags = b.tags; overflow = swap_remove b.overflow (i - length b.slots) x; room = b.room })

-- each entry in the slots that passes p has the tag t
abbrev pub HasTag : {E : Type 0} → (E → Bool) → ℕ → Shelf E → Type 0
HasTag {E} p t b = (i : ℕ) (e : E) → i < length b.slots → p (slice_index_or b.slots i e) ≡ true → slice_index b.tags i ≡ t
