-- What a call that begins with a hint ensures: the clauses of the call without a hint, in one word.
use Rattle.std.specs.Prelude.{◌≡◌, ℕ, Bool, Option, None, Some, Result, IfSome, IfNone, OnErr, true}
use Rattle.std.specs.Result.{OnOk}
use Rattle.std.specs.Borrow.{Bor, MutBor}
use Rattle.std.specs.Fn.{Once}
use Rattle.scc_common.specs.Closures.{WritesAt}
use Rattle.scc_common.specs.Contents.{Contents, entries, notes_of, waiting_of}
use Rattle.scc_common.specs.Pairs.{find, FindsInstead, IsUnique}
use Rattle.scc_common.specs.declared.errors.InsertError.{InsertError}
use Rattle.scc_table.specs.Arrays.{GrowsByRule}
use Rattle.scc_owned.specs.MapSteps.{UpdatesAt}
use Rattle.scc_owned.specs.IndexSteps.{Inserts as InsertsVersion}

module _ {K V S : Type 0} (eq : K → K → Bool) (hash : K → ℕ) (c : Contents (K × V) S) (k : K) (v : V) where
  -- an insertion into an index
  pub record InsertsVersionByRule (r : Result (Unit {0}) (InsertError K V)) (d : Contents (K × V) S) : Type 0 where
    pub step : InsertsVersion eq c (k, v) r d
    pub finds : OnOk r (FindsInstead eq (entries c) k (Some (k, v)) (entries d))
    pub same : OnErr r ((q : K) → find eq (entries d) q ≡ find eq (entries c) q)
    pub unique : IsUnique eq d
    pub array : GrowsByRule (λ p. p.0) hash (find eq (entries c) k) c k r d

-- an update
pub record UpdatesByRule {F K V R S : Type 0} (g : Once F (Bor K × (MutBor V × Unit {0})) (R × (MutBor V × Unit {0}))) (f : F) (eq : K → K → Bool) (c : Contents (K × V) S) (k : K) (r : Option R) (d : Contents (K × V) S) : Type 0 where
  pub step : UpdatesAt g f eq c k d (find eq (entries c) k) r
  pub finds : IfSome r (λ x. (p : K × V) × (w : V) × (find eq (entries c) k ≡ Some p) × (eq k p.0 ≡ true) × WritesAt g f p x w × FindsInstead eq (entries c) k (Some (p.0, w)) (entries d))
  pub missing : IfNone r (find eq (entries c) k ≡ None)
  pub noted : notes_of d ≡ notes_of c
  pub waiting : waiting_of d ≡ waiting_of c
  pub unique : IsUnique eq d
