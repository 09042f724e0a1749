-- A map that is made from items.
use Rattle.std.specs.Prelude.{◌≡◌, ℕ, Bool, List, reverse, Option, None, Some, Ok, Result}
use Rattle.std.specs.List.{FoldsTo}
use Rattle.scc_common.specs.Contents.{Contents, entries}
use Rattle.scc_common.specs.Pairs.{find}
use Rattle.scc_common.specs.declared.errors.InsertError.{InsertError}
use Rattle.scc_table.specs.Arrays.{GrowsByRule}
use Rattle.scc_owned.specs.Collections.{IsCollectedBy}
use Rattle.scc_owned.specs.MapSteps.{Upserts}

module _ {K V S : Type 0} (eq : K → K → Bool) (hash : Contents (K × V) S → K → ℕ) where
  -- an upsert with the result r, and what it does to the array
  pub record UpsertsBy (c : Contents (K × V) S) (p : K × V) (r : Result (Option V) (InsertError K V)) (d : Contents (K × V) S) : Type 0 where
    -- what becomes of the pairs
    pub step : Upserts eq (hash c) c p r d
    -- what becomes of the array
    pub array : GrowsByRule (λ q. q.0) (hash c) (find eq (entries c) p.0) c p.0 r d

  -- an upsert that succeeds
  abbrev pub UpsertsOne : Contents (K × V) S → K × V → Contents (K × V) S → Type 0
  UpsertsOne c p d = (r : Option V) × UpsertsBy c p (Ok r) d

  -- the pairs were upserted in their order
  abbrev pub UpsertsAll : Contents (K × V) S → List (K × V) → Contents (K × V) S → Type 0
  UpsertsAll c ps d = FoldsTo UpsertsOne c ps d

  -- d is made from an empty map, with an array for `length ps` pairs, by upserts of the pairs in their order
  abbrev pub IsCollected : List (K × V) → Contents (K × V) S → Type 0
  IsCollected ps d = IsCollectedBy UpsertsAll ps d

module _ {K V : Type 0} where
  -- the key of the first pair with the value of the second, if there are both
  abbrev pub key_and_value : Option (K × V) → Option (K × V) → Option (K × V)
  key_and_value (Some p) (Some q) = Some (p.0, q.1)
  key_and_value p q = None

  -- a look-up of k in the pairs finds the key of the first item whose key equals k, with the value of the last such
  -- item, or nothing if there is no such item
  pub record FindsItems (eq : K → K → Bool) (items pairs : List (K × V)) : Type 0 where
    pub finds : (k : K) → find eq pairs k ≡ key_and_value (find eq items k) (find eq (reverse items) k)
