-- A write into an entry that is lent whole.
use Rattle.std.proofs.Common.{◌≡◌, ℕ, zero, suc, ◌-◌, ◌<◌, ◌≤◌, List, [], ◌∷◌, ◌++◌, length, nat_lt, true, false, Some, rules, refl, sym, ap, ◌∙◌, arith}
use Rattle.std.specs.List.{slice_get}
use native.Mathlib.Decide.{dec_lt}
use Rattle.scc_array.specs.Shelf.{Shelf, shelf_entries}
use Rattle.scc_array.specs.ShelfWrites.{write_at, shelf_write_at, put_whole}
use Rattle.scc_array.proofs.Joined.{get-later}

get-first : {X : Type 0} (xs ys : List X) (i : ℕ) → i < length xs → slice_get (xs ++ ys) i ≡ slice_get xs i
get-first [] ys i l = absurd (omega arith)
get-first (x ∷ xs) ys zero l = refl
get-first (x ∷ xs) ys (suc i) l = get-first xs ys i (omega arith)

write-whole : {E X : Type 0} (put : E → X → E) (es : List E) (i : ℕ) (e : E) (w : X) → slice_get es i ≡ Some e → write_at put_whole es i (put e w) ≡ write_at put es i w
write-whole put [] i e w got = refl
write-whole put (x ∷ es) zero e w got = let s : x ≡ e = cc in ap (λ z. put z w ∷ es) (sym s)
write-whole put (x ∷ es) (suc i) e w got = ap (λ z. x ∷ z) (write-whole put es i e w got)

-- to put what `put` makes of an entry in its place is to write into it
pub whole-written : {E X : Type 0} (put : E → X → E) (b : Shelf E) (i : ℕ) (e : E) (w : X) → slice_get (shelf_entries b) i ≡ Some e → shelf_write_at put_whole b i (put e w) ≡ shelf_write_at put b i w
whole-written put b i e w got = elim (dec_lt i (length b.slots)) [
  | yes l ↦
      let t : nat_lt i (length b.slots) ≡ true = search rules in
      let here = sym (get-first b.slots b.overflow i l) ∙ got in
      rw (t, write-whole put b.slots i e w here) refl
  | no q ↦
      let t : nat_lt i (length b.slots) ≡ false = let far : length b.slots ≤ i = omega arith in search rules in
      let there = sym (get-later b.slots b.overflow i (i - length b.slots) (let far : length b.slots ≤ i = omega arith in omega arith)) ∙ got in
      rw (t, write-whole put b.overflow (i - length b.slots) e w there) refl
]
