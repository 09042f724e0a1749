-- What the preparation of an insertion does to the note and the mark.
use Rattle.std.specs.Prelude.{◌≡◌, ◌≢◌, ◌<◌, ◌⊎◌, ℕ, false, true}
use Rattle.scc_common.specs.Contents.{Contents, bucket_count, notes_of, IsMarked, IsNoteUp}
use Rattle.scc_common.specs.Steps.{IsGrowthDue}

module _ {E K S : Type 0} (hash : K → ℕ) (key : E → K) where
  -- what the preparation of an insertion of a new key with the hash h does to the note and the mark
  pub record MarksPreparation (c : Contents E S) (h : ℕ) (d : Contents E S) : Type 0 where
    -- if no growth is due, the note and the mark stay
    pub stays : (IsGrowthDue hash key c h → ⊥) → notes_of d ≡ notes_of c
    -- after a growth, the note and the mark are down
    pub grown : 0 < bucket_count c → bucket_count d ≢ bucket_count c → notes_of d ≡ (false, false)
    -- if a growth is due and isn't made, the note and the mark are up
    pub denied : IsGrowthDue hash key c h → bucket_count d ≡ bucket_count c → notes_of d ≡ (true, true)
    -- a growth that is marked isn't tried
    pub once : 0 < bucket_count c → IsMarked c → bucket_count d ≡ bucket_count c
    -- a growth is marked only if it was, or if refused memory is noted
    pub marked : IsMarked d → IsMarked c ⊎ IsNoteUp d
