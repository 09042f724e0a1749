-- An index that is made from items.
use Rattle.std.specs.Prelude.{◌≡◌, ℕ, Bool, List, ◌∷◌, ◌++◌, Ok, Err, Result}
use Rattle.std.specs.List.{FoldsTo}
use Rattle.scc_common.specs.Contents.{Contents, entries}
use Rattle.scc_common.specs.Pairs.{find}
use Rattle.scc_common.specs.declared.errors.InsertError.{InsertError}
use Rattle.scc_common.specs.declared.errors.InsertError.TheVariants.{Exists, Memory}
use Rattle.scc_table.specs.Arrays.{GrowsByRule}
use Rattle.scc_owned.specs.Collections.{IsCollectedBy}
use Rattle.scc_owned.specs.IndexSteps.{Inserts}

-- the insertion was not refused memory
abbrev pub IsAnswerOf : {K V : Type 0} → Result (Unit {0}) (InsertError K V) → Type 0
IsAnswerOf (Ok _) = Unit {0}
IsAnswerOf (Err (Exists q)) = Unit {0}
IsAnswerOf (Err (Memory q)) = ⊥

module _ {K V S : Type 0} (eq : K → K → Bool) (hash : Contents (K × V) S → K → ℕ) where
  -- an insertion with the result r, and what it does to the array
  pub record InsertsBy (c : Contents (K × V) S) (p : K × V) (r : Result (Unit {0}) (InsertError K V)) (d : Contents (K × V) S) : Type 0 where
    -- what becomes of the pairs
    pub step : Inserts eq c p r d
    -- what becomes of the array
    pub array : GrowsByRule (λ q. q.0) (hash c) (find eq (entries c) p.0) c p.0 r d

  -- an insertion that isn't refused memory
  abbrev pub InsertsOne : Contents (K × V) S → K × V → Contents (K × V) S → Type 0
  InsertsOne c p d = (r : Result (Unit {0}) (InsertError K V)) × IsAnswerOf r × InsertsBy c p r d

  -- the pairs were inserted in their order
  abbrev pub InsertsAll : Contents (K × V) S → List (K × V) → Contents (K × V) S → Type 0
  InsertsAll c ps d = FoldsTo InsertsOne c ps d

  -- the pairs before p were inserted in their order; then memory was refused for p, whose key equals no key, and
  -- nothing changed
  abbrev pub StopsAt : Contents (K × V) S → List (K × V) → K × V → Contents (K × V) S → Type 0
  StopsAt c ps p d = (before : List (K × V)) × (after : List (K × V)) × (made : Contents (K × V) S) × (ps ≡ before ++ p ∷ after) × InsertsAll c before made × InsertsBy made p (Err (Memory p)) d

  -- d is made from an empty index, with an array for `length ps` pairs, by insertions of the pairs in their order
  abbrev pub IsCollected : List (K × V) → Contents (K × V) S → Type 0
  IsCollected ps d = IsCollectedBy InsertsAll ps d

module _ {K V : Type 0} where
  -- a look-up of k in the pairs finds the first item whose key equals k, or nothing if there is no such item
  pub record FindsFirst (eq : K → K → Bool) (items pairs : List (K × V)) : Type 0 where
    pub finds : (k : K) → find eq pairs k ≡ find eq items k
