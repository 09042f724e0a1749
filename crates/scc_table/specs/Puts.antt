-- What an insertion of a new entry into the list of its bucket does to a table of two arrays.
use Rattle.std.specs.Prelude.{◌≡◌, ◌≤◌, ◌+◌, ◌++◌, ◌∷◌, [], ℕ, suc, length, Bool, false, List, remove, slice_get, Option, Some, Result, IfOk, IfErr}
use Rattle.std.specs.Result.{OnErr}
use Rattle.scc_common.specs.Contents.{Contents, list_of, owed_of, pending_of, waiting_of, IsUniqueBy}
use Rattle.scc_buckets.specs.Bounded.{HasList, IsListed, PutsLast}
use Rattle.scc_buckets.specs.OneList.{HasSameLists, IsPutIn}
use Rattle.scc_buckets.specs.declared.place.Place.{Place}
use Rattle.scc_table.specs.TwoArrays.{pending_targets, waits_at}

module _ {E K S : Type 0} (eq : K → K → Bool) (key : E → K) where
  -- the new entry e is inserted into bucket i; on failure, which needs `cause`, x is handed back
  pub record InsertsIn {X : Type 0} (c : Contents E S) (i : ℕ) (e : E) (x : X) (cause : Type 0) (result : Result Place X) (d : Contents E S) : Type 0 where
    -- on success, the list of bucket i alone has gained e, and the result is its place
    pub exact : IfOk result (IsPutIn c i e d)
    -- on failure, x is handed back
    pub err : IfErr result (λ y. y ≡ x)
    -- on failure, each list stays
    pub stays : OnErr result (HasSameLists c d)
    -- the call fails only if `cause` holds
    pub full : OnErr result cause
    -- the waiting buckets stay
    pub waiting : waiting_of d ≡ waiting_of c
    -- what the old array owes stays
    pub owed : owed_of d ≡ owed_of c
    -- no two keys are equal
    pub unique : IsUniqueBy eq key d

  module _ (hash : Contents E S → K → ℕ) where
    -- the new entry e is put at the end of list i; if the list held 32 entries, its first entry is `result.0`
    pub record PutsAtEnd (c : Contents E S) (i : ℕ) (e : E) (result : Option E × ℕ) (d : Contents E S) : Type 0 where
      -- e stands at the end of list i
      pub step : PutsLast c i e result.0 d
      -- `result.1` is the slot of e
      pub slot : suc result.1 ≡ length (list_of d i)
      -- if each entry stood in the bucket of its hash and no list had more than 32 entries, both still hold
      pub listed : IsListed (λ f. hash c (key f)) c → IsListed (λ f. hash d (key f)) d
      -- the waiting buckets stay
      pub waiting : waiting_of d ≡ waiting_of c
      -- what the old array owes stays
      pub owed : owed_of d ≡ owed_of c
      -- no two keys are equal
      pub unique : IsUniqueBy eq key d

    -- the entry at `slot` of list i is moved to the end of the list
    pub record MovesToEnd (c : Contents E S) (i slot : ℕ) (d : Contents E S) : Type 0 where
      -- the entry stands at the end of list i
      pub list : (e : E) × (slice_get (list_of c i) slot ≡ Some e) × HasList c i (remove (list_of c i) slot ++ e ∷ []) d
      -- if each entry stood in the bucket of its hash and no list had more than 32 entries, both still hold
      pub listed : IsListed (λ f. hash c (key f)) c → IsListed (λ f. hash d (key f)) d
      -- the waiting buckets stay
      pub waiting : waiting_of d ≡ waiting_of c
      -- what the old array owes stays
      pub owed : owed_of d ≡ owed_of c
      -- no two keys are equal
      pub unique : IsUniqueBy eq key d

    -- the new entry e is put at the end of list i; if the list held 32 entries, its first entry is `result.0`.
    -- Afterwards the buckets `left` wait, `fewer` less than before
    pub record PutsWithin (c : Contents E S) (i : ℕ) (e : E) (left : List ℕ) (fewer : ℕ) (result : Option E × ℕ) (d : Contents E S) : Type 0 where
      -- e stands at the end of list i
      pub step : PutsLast c i e result.0 d
      -- `result.1` is the slot of e
      pub slot : suc result.1 ≡ length (list_of d i)
      -- each entry stands in the bucket of its hash, and no list has more than 32
      pub listed : IsListed (λ f. hash d (key f)) d
      -- bucket i doesn't wait
      pub not_waiting : waits_at (waiting_of d) i ≡ false
      -- the waiting buckets are `left`
      pub exact : pending_targets d ≡ left
      -- if at least `fewer` buckets waited, `fewer` have stopped waiting
      pub count : fewer ≤ pending_of c → pending_of d + fewer ≡ pending_of c
      -- no two keys are equal
      pub unique : IsUniqueBy eq key d
