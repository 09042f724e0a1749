-- The kind of a program's error that a refusal becomes.
use Rattle.std.specs.Prelude.{◌≡◌}
use Rattle.std.specs.declared.io.ErrorKind.{ErrorKind}
use Rattle.std.specs.declared.io.ErrorKind.TheVariants.{AlreadyExists, OutOfMemory}
use Rattle.scc_common.specs.declared.errors.InsertError.{InsertError}
use Rattle.scc_common.specs.declared.errors.InsertError.TheVariants.{Exists, Memory}
use Rattle.scc_common.specs.declared.errors.KeyError.{KeyError}
use Rattle.scc_common.specs.declared.errors.KeyError.TheVariants as key

-- the kind of the error that a refused pair becomes
abbrev pub InsertKind : {K V : Type 0} → InsertError K V → ErrorKind → Type 0
InsertKind (Exists p) kind = kind ≡ AlreadyExists
InsertKind (Memory p) kind = kind ≡ OutOfMemory

-- the kind of the error that a refused key becomes
abbrev pub KeyKind : {K : Type 0} → KeyError K → ErrorKind → Type 0
KeyKind (key.Exists k) kind = kind ≡ AlreadyExists
KeyKind (key.Memory k) kind = kind ≡ OutOfMemory
