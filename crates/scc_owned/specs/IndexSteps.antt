-- What each call does to the contents of an index, by the reply.
use Rattle.std.specs.Prelude.{◌≡◌, Bool, true, false, ◌∷◌, None, Result, Ok, Err, IsSome, Option, Some}
use Rattle.scc_common.specs.Contents.{Contents, entries}
use Rattle.scc_common.specs.Pairs.{find, without}
use Rattle.scc_common.specs.Steps.{Holds, IsUnchanged}
use Rattle.scc_common.specs.declared.errors.InsertError.{InsertError}
use Rattle.scc_common.specs.declared.errors.InsertError.TheVariants.{Exists, Memory}
use Rattle.std.specs.Borrow.{Bor}
use Rattle.std.specs.Fn.{Once, FnOnceReturnsAt}

module _ {K V S : Type 0} (eq : K → K → Bool) where
  -- an insertion of the pair: a new key is added; if the key is there, it stays as it is, and the supplied pair comes
  -- back; only a new key is refused memory, even with room, since its version is always made; then the index stays as
  -- it is
  abbrev pub Inserts : Contents (K × V) S → K × V → Result (Unit {0}) (InsertError K V) → Contents (K × V) S → Type 0
  Inserts c p (Ok _) d = (find eq (entries c) p.0 ≡ None) × Holds c (p ∷ entries c) d
  Inserts c p (Err (Exists q)) d = (q ≡ p) × IsSome (find eq (entries c) p.0) × IsUnchanged c d
  Inserts c p (Err (Memory q)) d = (q ≡ p) × (find eq (entries c) p.0 ≡ None) × IsUnchanged c d

  -- a removal of k: it returns whether there was a pair, and the others stay
  abbrev pub Removes : Contents (K × V) S → K → Bool → Contents (K × V) S → Type 0
  Removes c k false d = (find eq (entries c) k ≡ None) × IsUnchanged c d
  Removes c k true d = IsSome (find eq (entries c) k) × Holds c (without eq (entries c) k) d

module _ {F K V S : Type 0} (g : Once F (Bor V × Unit {0}) Bool) (f : F) (eq : K → K → Bool) (c : Contents (K × V) S) (k : K) (r : Bool) (d : Contents (K × V) S) where
  -- at `true` the pair is removed; else nothing changes
  abbrev pub RemovedIf : Bool → Type 0
  RemovedIf true = Holds c (without eq (entries c) k) d
  RemovedIf false = IsUnchanged c d

  -- the result is the result of f on the value of k, or false if no key equals k
  abbrev pub RemovesIf : Option (K × V) → Type 0
  RemovesIf None = (r ≡ false) × IsUnchanged c d
  RemovesIf (Some p) = FnOnceReturnsAt g f p.1 r × RemovedIf r
