-- A set that is made from items, or from another set's keys.
use Rattle.std.specs.Prelude.{◌≡◌, ℕ, Bool, List, ◌∷◌, ◌++◌, length, None, Result, Ok, Err, MatchOption}
use Rattle.std.specs.List.{FoldsTo}
use Rattle.std.specs.Option.{IsSomeAnd}
use Rattle.scc_common.specs.Contents.{Contents, entries}
use Rattle.scc_common.specs.declared.errors.KeyError.{KeyError}
use Rattle.scc_common.specs.declared.errors.KeyError.TheVariants.{Exists, Memory}
use Rattle.scc_table.specs.Arrays.{GrowsByRule}
use Rattle.scc_owned.specs.Collections.{IsCollectedBy}
use Rattle.scc_owned_set.specs.Keys.{find}
use Rattle.scc_owned_set.specs.SetSteps.{Inserts}

-- the insertion was not refused memory
abbrev pub IsAnswerOf : {K : Type 0} → Result (Unit {0}) (KeyError K) → Type 0
IsAnswerOf (Ok _) = Unit {0}
IsAnswerOf (Err (Exists q)) = Unit {0}
IsAnswerOf (Err (Memory q)) = ⊥

module _ {K S : Type 0} (eq : K → K → Bool) (hash : Contents K S → K → ℕ) where
  -- an insertion with the result r, and what it does to the array
  pub record InsertsBy (c : Contents K S) (k : K) (r : Result (Unit {0}) (KeyError K)) (d : Contents K S) : Type 0 where
    -- what becomes of the keys
    pub step : Inserts eq (hash c) c k r d
    -- what becomes of the array
    pub array : GrowsByRule (λ q. q) (hash c) (find eq (entries c) k) c k r d

  -- an insertion that isn't refused memory: a new key is added; if an equal key is there, nothing changes
  abbrev pub InsertsOne : Contents K S → K → Contents K S → Type 0
  InsertsOne c k d = (r : Result (Unit {0}) (KeyError K)) × IsAnswerOf r × InsertsBy c k r d

  -- the keys were inserted in their order
  abbrev pub InsertsAll : Contents K S → List K → Contents K S → Type 0
  InsertsAll c ks d = FoldsTo InsertsOne c ks d

  -- the keys before k were inserted in their order, and then memory was refused for k, which equals no key
  abbrev pub StopsAt : Contents K S → List K → K → Contents K S → Type 0
  StopsAt c ks k d = (before : List K) × (after : List K) × (made : Contents K S) × (ks ≡ before ++ k ∷ after) × InsertsAll c before made × InsertsBy made k (Err (Memory k)) d

  -- d is made from an empty set, with an array for `length ks` keys, where nothing is noted and nothing waits, by
  -- insertions of the keys in their order
  abbrev pub IsCollected : List K → Contents K S → Type 0
  IsCollected ks d = IsCollectedBy InsertsAll ks d

module _ {K : Type 0} where
  -- a look-up of k in the keys finds the first item that equals k, or nothing if there is no such item
  pub record FindsItems (eq : K → K → Bool) (items keys : List K) : Type 0 where
    pub finds : (k : K) → find eq keys k ≡ find eq items k

  -- if a look-up of k finds a key in the old keys, it finds a clone of it, by C, in the new ones; else it finds
  -- nothing there
  pub record FindsClones (eq : K → K → Bool) (C : K → K → Type 0) (old new : List K) : Type 0 where
    pub finds : (k : K) → MatchOption (find eq old k) (find eq new k ≡ None) (λ q. IsSomeAnd (find eq new k) (C q))
