-- What the calls of a set do to its state, by the reply.
use Rattle.std.specs.Prelude.{◌≡◌, ℕ, ◌<◌, ◌==◌, ◌⊎◌, Bool, true, cond, List, [], ◌∷◌, length, count_by, Option, None, Some, IsSome, MatchOption, is_some}
use Rattle.std.specs.List.Sorted.{IsPermutation}
use Rattle.scc_buckets.specs.declared.place.Place.{Place}
use Rattle.scc_common.specs.Contents.{Contents, entries}
use Rattle.scc_common.specs.Routing.{bucket_number}
use Rattle.scc_common.specs.Steps.{IsPreparedFor}
use Rattle.scc_owned_set.specs.Keys.{find, without, with_key}
use Rattle.scc_table.specs.Places.{IsFoundAt}
use Rattle.scc_calls.specs.States.{State}
use Rattle.scc_calls.specs.declared.fixed.Setting.{Setting}
use Rattle.scc_calls.specs.declared.calls_as_values.SetCall.{SetCall}
use Rattle.scc_calls.specs.declared.calls_as_values.SetCall.TheVariants.{Insert, Replace, Read, Contains, Remove, Clear, Len}
use Rattle.scc_calls.specs.declared.replies.Reply.{Reply}
use Rattle.scc_calls.specs.declared.replies.Reply.TheVariants.{Inserted, Exists, Key, Has, Cleared, Count}

module _ {K : Type 0} where
  -- the key of a call, or `None` if the call concerns all keys
  abbrev pub key_of_set : SetCall K → Option K
  key_of_set (Insert k) = Some k
  key_of_set (Replace k) = Some k
  key_of_set (Remove k) = Some k
  key_of_set (Read k) = Some k
  key_of_set (Contains k) = Some k
  key_of_set Clear = None
  key_of_set Len = None

  -- the call may add a key
  abbrev pub set_adds : SetCall K → Type 0
  set_adds (Insert k) = Unit {0}
  set_adds (Replace k) = Unit {0}
  set_adds call = ⊥

  module _ (eq : K → K → Bool) where
    -- the call may give the reply and lead from s to t, without a resize
    abbrev pub SetMoves : State K → SetCall K → Reply K (Unit {0}) → State K → Type 0
    SetMoves s (Insert k) Inserted t = (find eq s.0 k ≡ None) × IsPermutation (k ∷ s.0) t.0 × (t.1 ≡ s.1)
    SetMoves s (Insert k) (Exists l u) t = (l ≡ k) × IsSome (find eq s.0 k) × (t ≡ s)
    SetMoves s (Replace k) (Key None) t = (find eq s.0 k ≡ None) × IsPermutation (k ∷ s.0) t.0 × (t.1 ≡ s.1)
    SetMoves s (Replace k) (Key (Some l)) t = (find eq s.0 k ≡ Some l) × (t.0 ≡ with_key eq s.0 k) × (t.1 ≡ s.1)
    SetMoves s (Remove k) (Key None) t = (find eq s.0 k ≡ None) × (t ≡ s)
    SetMoves s (Remove k) (Key (Some l)) t = (find eq s.0 k ≡ Some l) × IsPermutation (without eq s.0 k) t.0 × (t.1 ≡ s.1)
    SetMoves s (Read k) (Key r) t = (r ≡ find eq s.0 k) × (t ≡ s)
    SetMoves s (Contains k) (Has b) t = (b ≡ is_some (find eq s.0 k)) × (t ≡ s)
    SetMoves s Clear Cleared t = (t.0 ≡ []) × (t.1 ≡ s.1)
    SetMoves s Len (Count n) t = (n ≡ length s.0) × (t ≡ s)
    SetMoves s call reply t = ⊥

    -- the reply that the call gives if a set has the keys ks
    abbrev pub set_answer : List K → SetCall K → Reply K (Unit {0})
    set_answer ks (Insert k) = cond (is_some (find eq ks k)) (Exists k tt) Inserted
    set_answer ks (Replace k) = Key (find eq ks k)
    set_answer ks (Remove k) = Key (find eq ks k)
    set_answer ks (Read k) = Key (find eq ks k)
    set_answer ks (Contains k) = Has (is_some (find eq ks k))
    set_answer ks Clear = Cleared
    set_answer ks Len = Count (length ks)

    module _ {S : Type 0} (c : Contents K S) where
      -- the key that equals k stands at the place that was found, or k is missing
      abbrev pub SetFinds : K → Option Place → Type 0
      SetFinds k found = MatchOption found (find eq (entries c) k ≡ None) (IsFoundAt (eq k) c)

      -- if the call may add a key, this key stands at the place that was found, or it is missing
      abbrev pub SetKnows : SetCall K → Option Place → Type 0
      SetKnows (Insert k) found = SetFinds k found
      SetKnows (Replace k) found = SetFinds k found
      SetKnows call found = Unit {0}

    module _ {S : Type 0} (hash : K → ℕ) (c : Contents K S) where
      -- an insertion of k makes no resize: k is present, or the insertion is prepared
      abbrev pub SetIsMadeFor : K → Type 0
      SetIsMadeFor k = IsSome (find eq (entries c) k) ⊎ IsPreparedFor hash (λ q. q) c k

      -- the call makes no growth
      abbrev pub SetIsMade : SetCall K → Type 0
      SetIsMade (Insert k) = SetIsMadeFor k
      SetIsMade (Replace k) = SetIsMadeFor k
      SetIsMade call = Unit {0}

      -- the call makes no growth, and its reply equals copy
      abbrev pub SetIsPrepared : (Reply K (Unit {0}) → Reply K (Unit {0}) → Bool) → SetCall K → Reply K (Unit {0}) → Type 0
      SetIsPrepared same call copy = SetIsMade call × (same (set_answer (entries c) call) copy ≡ true)

    module _ {H : Type 0} (hash : H → K → ℕ) where
      -- there is an array, and the bucket of k holds fewer than 32 keys
      abbrev pub SetHasRoom : Setting H → State K → K → Type 0
      SetHasRoom g s k = (0 < s.1) × (count_by (λ q. bucket_number g.skipped s.1 (hash g.hasher q) == bucket_number g.skipped s.1 (hash g.hasher k)) s.0 < 32)

      -- k is missing, and there is no room for k
      abbrev pub SetRefuses : Setting H → State K → K → Type 0
      SetRefuses g s k = (find eq s.0 k ≡ None) × (SetHasRoom g s k → ⊥)

      -- memory may be refused to an insertion and a replacement of a missing key without room, and to no other call
      abbrev pub SetMayRefuse : Setting H → State K → SetCall K → Type 0
      SetMayRefuse g s (Insert k) = SetRefuses g s k
      SetMayRefuse g s (Replace k) = SetRefuses g s k
      SetMayRefuse g s call = ⊥
