-- A container that is made from items, or from another container's pairs.
use Rattle.std.specs.Prelude.{◌≡◌, ◌*◌, ◌<◌, Bool, false, List, [], length, None, MatchOption}
use Rattle.std.specs.Option.{IsSomeAnd}
use Rattle.scc_common.specs.Contents.{Contents, entries, bucket_count, settings_of, notes_of, waiting_of}
use Rattle.scc_common.specs.Pairs.{find}
use Rattle.scc_common.specs.Sizes.{IsArraySize}

module _ {E S : Type 0} (Run : Contents E S → List E → Contents E S → Type 0) where
  -- d is made from an empty container, with an array for `length es` entries, where nothing is noted and nothing waits,
  -- by a run over the items es in their order
  pub record IsCollectedBy (es : List E) (d : Contents E S) : Type 0 where
    pub made : Contents E S
    pub empty : entries made ≡ []
    pub none : length es ≡ 0 → bucket_count made ≡ 0
    pub size : 0 < length es → IsArraySize (length es) (32 * bucket_count made)
    pub asked : (settings_of made).asked ≡ 32 * bucket_count made
    pub reserved : (settings_of made).reserved ≡ 0
    pub skipped : (settings_of made).skipped ≡ 0
    pub noted : notes_of made ≡ (false, false)
    pub waiting : waiting_of made ≡ []
    pub settings : settings_of d ≡ settings_of made
    pub run : Run made es d

module _ {K V : Type 0} where
  -- if a look-up of k finds a pair in the old pairs, it finds a clone of it, by C, in the new ones; else it finds
  -- nothing there
  pub record FindsClones (eq : K → K → Bool) (C : K × V → K × V → Type 0) (old new : List (K × V)) : Type 0 where
    pub finds : (k : K) → MatchOption (find eq old k) (find eq new k ≡ None) (λ p. IsSomeAnd (find eq new k) (C p))
