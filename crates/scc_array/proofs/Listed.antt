-- A write into an overflow list.
use Rattle.std.proofs.Common.{◌≡◌, ℕ, ◌/◌, ◌<◌, Bool, true, false, List, length, set, get_or, refl, ap, arith}
use Rattle.std.specs.declared.vec.Vec.{Vec}
use Rattle.scc_array.proofs.Crowded.{array-set, flagged-list, uncrowded}
use Rattle.scc_array.specs.Shelves.{shelf_of, shelves, HasListEach, IsFlagged}
use Rattle.scc_array.specs.Windows.{Window}
use Rattle.scc_array.specs.Shelf.{Shelf}

by_flag : {X : Type 0} (f : Bool) → (f ≡ true → X) → (f ≡ false → X) → X
by_flag true p q = p refl
by_flag false p q = q refl

-- a change of an overflow list in which an entry stands keeps lists and flags
pub listed-both : {E A : Type 0} (ws : List (Window E)) (os : List (Vec E A)) (fs : List Bool) (bs : List (Shelf E)) → shelves ws os ≡ bs → HasListEach ws os → IsFlagged ws os fs → (b : ℕ) → b < length bs → (i : ℕ) → i < length (shelf_of bs b).overflow → (u : Vec E A) → HasListEach ws (set os b u) × IsFlagged ws (set os b u) fs
listed-both ws os fs bs view each told b within i there u = (array-set ws os b u each, flagged-list ws os fs told b u (by_flag (get_or fs (b / 16) false) (λ q. q) (λ q. absurd (let z = ap length (uncrowded ws os fs told bs view b within q) in omega arith))))
