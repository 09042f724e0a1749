-- What each call does to the contents of a set, by the reply.
use Rattle.std.specs.Prelude.{◌≡◌, ℕ, Bool, true, false, ◌∷◌, Option, None, Some, Result, Ok, Err, IsSome, IsSomeAnd}
use Rattle.std.specs.Borrow.{Bor}
use Rattle.std.specs.Fn.{Once, FnOnceReturnsAt}
use Rattle.scc_common.specs.Contents.{Contents, entries}
use Rattle.scc_common.specs.Steps.{Holds, HoldsExactly, IsUnchanged, Rests}
use Rattle.scc_common.specs.declared.errors.InsertError.{InsertError}
use Rattle.scc_common.specs.declared.errors.InsertError.TheVariants.{Exists as PairExists, Memory as PairMemory}
use Rattle.scc_common.specs.declared.errors.KeyError.{KeyError}
use Rattle.scc_common.specs.declared.errors.KeyError.TheVariants.{Exists, Memory}
use Rattle.scc_owned_set.specs.Keys.{find, without, with_key, HasRoom}

-- the result of a call of the set whose map returns r
abbrev pub key_answer : {K R : Type 0} → Result R (InsertError K (Unit {0})) → Result R (KeyError K)
key_answer (Ok r) = Ok r
key_answer (Err (PairExists p)) = Err (Exists p.0)
key_answer (Err (PairMemory p)) = Err (Memory p.0)

module _ {K S : Type 0} (eq : K → K → Bool) (hash : K → ℕ) where
  -- an insertion of the key: a new key is added; if an equal key is there, it stays as it is, and the supplied key
  -- comes back; only a new key without room is refused memory
  abbrev pub Inserts : Contents K S → K → Result (Unit {0}) (KeyError K) → Contents K S → Type 0
  Inserts c k (Ok _) d = (find eq (entries c) k ≡ None) × Holds c (k ∷ entries c) d
  Inserts c k (Err (Exists q)) d = (q ≡ k) × IsSome (find eq (entries c) k) × IsUnchanged c d
  Inserts c k (Err (Memory q)) d = (q ≡ k) × (find eq (entries c) k ≡ None) × Rests c d × (HasRoom hash c k → ⊥)

  -- a replacement: a new key is added; if an equal key is there, the new key takes its place, and the old key is
  -- returned; only a new key without room is refused memory
  abbrev pub Replaces : Contents K S → K → Result (Option K) (KeyError K) → Contents K S → Type 0
  Replaces c k (Ok None) d = (find eq (entries c) k ≡ None) × Holds c (k ∷ entries c) d
  Replaces c k (Ok (Some old)) d = (find eq (entries c) k ≡ Some old) × HoldsExactly c (with_key eq (entries c) k) d
  Replaces c k (Err (Exists q)) d = ⊥
  Replaces c k (Err (Memory q)) d = (q ≡ k) × (find eq (entries c) k ≡ None) × Rests c d × (HasRoom hash c k → ⊥)

module _ {K S : Type 0} (eq : K → K → Bool) where
  -- a removal of k: the key that equals k is returned, and the others stay
  abbrev pub Removes : Contents K S → K → Option K → Contents K S → Type 0
  Removes c k None d = (find eq (entries c) k ≡ None) × IsUnchanged c d
  Removes c k (Some q) d = (find eq (entries c) k ≡ Some q) × Holds c (without eq (entries c) k) d

-- the result of f on the key, if there is a key
abbrev pub Reads : {F K R : Type 0} → Once F (Bor K × Unit {0}) R → F → Option K → Option R → Type 0
Reads g f None r = r ≡ None
Reads g f (Some q) r = IsSomeAnd r (FnOnceReturnsAt g f q)

module _ {F K S : Type 0} (g : Once F (Unit {0}) Bool) (f : F) (eq : K → K → Bool) (c : Contents K S) (k : K) (r : Option K) (d : Contents K S) where
  -- at `true` the key is removed; else nothing changes
  abbrev pub RemovedIf : K → Bool → Type 0
  RemovedIf q true = (r ≡ Some q) × Holds c (without eq (entries c) k) d
  RemovedIf q false = (r ≡ None) × IsUnchanged c d

  -- a missing key changes nothing; else f was called, and the key is removed if f returned true
  abbrev pub RemovesIf : Option K → Type 0
  RemovesIf None = (r ≡ None) × IsUnchanged c d
  RemovesIf (Some q) = (b : Bool) × g.post f tt b × RemovedIf q b
