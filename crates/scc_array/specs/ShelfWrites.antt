-- A bucket with one value or one key written over.
use Rattle.std.specs.Prelude.{◌≡◌, ℕ, zero, suc, ◌-◌, List, [], ◌∷◌, length, cond, nat_lt, refl}
use Rattle.std.proofs.Common.{ap}
use Rattle.scc_array.specs.Shelf.{Shelf}

-- the entry is replaced as a whole
abbrev pub put_whole : {E : Type 0} → E → E → E
put_whole e x = x

-- the entries after `put` has written x into the entry at position i
abbrev pub write_at : {E X : Type 0} → (E → X → E) → List E → ℕ → X → List E
write_at put [] i x = []
write_at put (e ∷ es) zero x = put e x ∷ es
write_at put (e ∷ es) (suc i) x = e ∷ write_at put es i x

-- the bucket after `put` has written x into the entry at slot i
abbrev pub shelf_write_at : {E X : Type 0} → (E → X → E) → Shelf E → ℕ → X → Shelf E
shelf_write_at put b i x = cond (nat_lt i (length b.slots))
    (record { slots = write_at put b.slots i x; tags = b.tags; overflow = b.overflow; room = b.room })
    (record { slots = b.slots; tags = b.tags; overflow = write_at put b.overflow (i - length b.slots) x; room = b.room })

-- a write keeps the number of entries
pub length-write_at : {E X : Type 0} (put : E → X → E) (es : List E) (i : ℕ) (w : X) → length (write_at put es i w) ≡ length es
length-write_at put [] i w = refl
length-write_at put (e ∷ es) zero w = refl
length-write_at put (e ∷ es) (suc i) w = ap suc (length-write_at put es i w)
