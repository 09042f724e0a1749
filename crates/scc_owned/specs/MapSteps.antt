-- What each call does to the contents of a map, by the reply.
use Rattle.std.specs.Prelude.{◌≡◌, ℕ, Bool, Option, None, Some, Result, Ok, Err, true, false}
use Rattle.scc_common.specs.Contents.{Contents, entries}
use Rattle.scc_common.specs.PairSteps.{AddsPair, HandsBack, SetsValue, LacksKey, TakesPair}
use Rattle.scc_common.specs.Pairs.{find, HasRoom, without}
use Rattle.scc_common.specs.Steps.{Holds, HoldsExactly, Rests, IsUnchanged}
use Rattle.scc_common.specs.declared.errors.InsertError.{InsertError}
use Rattle.scc_common.specs.declared.errors.InsertError.TheVariants.{Exists, Memory}
use Rattle.std.specs.Borrow.{Bor, MutBor}
use Rattle.std.specs.Fn.{Once, FnOnceReturnsAtMut}
use Rattle.std.specs.Map.{set_value}
use Rattle.scc_common.specs.Closures.{WritesAt}

module _ {K V S : Type 0} (eq : K → K → Bool) (hash : K → ℕ) where
  -- an insertion of the pair: a new key is added; if the key is there, it stays as it is, and the supplied pair comes
  -- back; only a new key without room is refused memory
  abbrev pub Inserts : Contents (K × V) S → K × V → Result (Unit {0}) (InsertError K V) → Contents (K × V) S → Type 0
  Inserts c p (Ok _) d = AddsPair eq (entries c) p (λ es. Holds c es d)
  Inserts c p (Err (Exists q)) d = HandsBack eq (entries c) p q (λ es. HoldsExactly c es d)
  Inserts c p (Err (Memory q)) d = (q ≡ p) × (find eq (entries c) p.0 ≡ None) × Rests c d × (HasRoom hash c p.0 → ⊥)

  -- an upsert of the pair: a new key is added; if the key is there, the stored key stays, and the old value is
  -- returned
  abbrev pub Upserts : Contents (K × V) S → K × V → Result (Option V) (InsertError K V) → Contents (K × V) S → Type 0
  Upserts c p (Ok None) d = AddsPair eq (entries c) p (λ es. Holds c es d)
  Upserts c p (Ok (Some v)) d = SetsValue eq (entries c) p v (λ es. HoldsExactly c es d)
  Upserts c p (Err (Exists q)) d = ⊥
  Upserts c p (Err (Memory q)) d = (q ≡ p) × (find eq (entries c) p.0 ≡ None) × Rests c d × (HasRoom hash c p.0 → ⊥)

module _ {K V S : Type 0} (eq : K → K → Bool) where
  -- a removal of k: its pair is returned, and the others stay
  abbrev pub Removes : Contents (K × V) S → K → Option (K × V) → Contents (K × V) S → Type 0
  Removes c k None d = LacksKey eq (entries c) k (λ es. HoldsExactly c es d)
  Removes c k (Some p) d = TakesPair eq (entries c) k p (λ es. Holds c es d)

-- f is called on the pair of k if there is one, and the value that f leaves is stored
module _ {F K V R : Type 0} (g : Once F (Bor K × (MutBor V × Unit {0})) (R × (MutBor V × Unit {0}))) (f : F) {S : Type 0} (eq : K → K → Bool) (c : Contents (K × V) S) (k : K) (d : Contents (K × V) S) where
  -- a missing key changes nothing; else f was called on the pair p, and the value w that f wrote is stored
  abbrev pub UpdatesAt : Option (K × V) → Option R → Type 0
  UpdatesAt None r = (r ≡ None) × IsUnchanged c d
  UpdatesAt (Some p) r = (x : R) × (w : V) × (r ≡ Some x) × WritesAt g f p x w × HoldsExactly c (set_value (eq k) (entries c) w) d

module _ {F K V S : Type 0} (g : Once F (MutBor V × Unit {0}) (Bool × (MutBor V × Unit {0}))) (f : F) (eq : K → K → Bool) (c : Contents (K × V) S) (k : K) (r : Option (K × V)) (d : Contents (K × V) S) where
  -- at `true` the pair is removed, with the value that f left; else the value that f left is stored
  abbrev pub RemovedIf : K × V → V → Bool → Type 0
  RemovedIf p w true = (r ≡ Some (p.0, w)) × Holds c (without eq (entries c) k) d
  RemovedIf p w false = (r ≡ None) × HoldsExactly c (set_value (eq k) (entries c) w) d

  -- a missing key changes nothing; else f was called on the value of the pair, which is removed if f returned true
  abbrev pub RemovesIf : Option (K × V) → Type 0
  RemovesIf None = (r ≡ None) × IsUnchanged c d
  RemovesIf (Some p) = (b : Bool) × (w : V) × FnOnceReturnsAtMut g f p.1 b w × RemovedIf p w b
