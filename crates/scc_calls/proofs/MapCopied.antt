-- The calls of a map that search once, as calls on its state.
use Rattle.std.proofs.Common.{◌≡◌, Bool, [], ◌∷◌, None, Some, refl, sym, ap, subst, inl, inr}
use Rattle.std.specs.Prelude.{IsSome}
use Rattle.std.specs.Map.{set_key, set_value}
use Rattle.scc_common.specs.Contents.{Contents, entries}
use Rattle.scc_common.specs.Pairs.{find, without}
use Rattle.scc_common.specs.Steps.{Holds, HoldsExactly, Rests}
use Rattle.scc_calls.specs.Copies.{Answers}
use Rattle.scc_calls.specs.MapCalls.{MapMoves}
use Rattle.scc_calls.specs.Means.{answered}
use Rattle.scc_calls.specs.Resized.{MovesResized, Stays}
use Rattle.scc_calls.specs.States.{State, ResizesTo, run_setting, run_setting_by, state_of}
use Rattle.scc_calls.specs.Stems.{MapStems}
use Rattle.scc_calls.specs.declared.calls_as_values.MapCall.{MapCall}
use Rattle.scc_calls.specs.declared.calls_as_values.MapCall.TheVariants.{Insert, Upsert, Replace, Read, Remove, Clear}
use Rattle.scc_calls.specs.declared.replies.Reply.{Reply}
use Rattle.scc_calls.specs.declared.replies.Reply.TheVariants.{Inserted, Exists, Old, Key, Pair, Value, Cleared}
use Rattle.scc_calls.proofs.MapCalls.{cleared}
use Rattle.scc_calls.proofs.Readying.{joined}
use Rattle.scc_calls.proofs.Runs.{stays-same}
use Rattle.scc_calls.proofs.States.{holds-changes, exactly-changes, lawful-size, unchanged-state}

module _ {K V H : Type 0} (eq : K → K → Bool) (clone : V → V → Type 0) (c : Contents (K × V) H) (k : K) where
  -- the call with this reply leads from c to d, with at most one resize
  abbrev Leads : Contents (K × V) H → MapCall K V → Reply K V → Type 0
  Leads d call reply = MovesResized (λ (s : State (K × V)). s.1) (Answers (MapStems clone) (MapMoves eq)) (ResizesTo (run_setting c)) (state_of c) call reply (state_of d)

  as-answer : (d : Contents (K × V) H) (call : MapCall K V) (reply : Reply K V) → MapStems clone call reply reply
      → MovesResized (λ (s : State (K × V)). s.1) (MapMoves eq) (ResizesTo (run_setting c)) (state_of c) call reply (state_of d) → Leads d call reply
  as-answer d call reply same h = answered (MapStems clone) (MapMoves eq) (λ (s : State (K × V)). s.1) (ResizesTo (run_setting c)) (state_of c) (state_of d) call reply reply same h

  -- an insertion of a new key
  pub leads-inserted : (d : Contents (K × V) H) (v : V) → find eq (entries c) k ≡ None → Holds c ((k, v) ∷ entries c) d → Leads d (Insert k v) Inserted
  leads-inserted d v none h = as-answer d (Insert k v) Inserted refl (holds-changes (MapMoves eq) (Insert k v) Inserted c d ((k, v) ∷ entries c) h (λ number l p. (none, (p, refl))))

  -- an insertion of a key that is there
  pub leads-exists : (v : V) → IsSome (find eq (entries c) k) → Leads c (Insert k v) (Exists k v)
  leads-exists v there = inl (refl, (Exists k v, refl, (refl, there, refl)))

  -- an upsert of a new key
  pub leads-upserted : (d : Contents (K × V) H) (v : V) → find eq (entries c) k ≡ None → Holds c ((k, v) ∷ entries c) d → Leads d (Upsert k v) (Old None)
  leads-upserted d v none h = as-answer d (Upsert k v) (Old None) refl (holds-changes (MapMoves eq) (Upsert k v) (Old None) c d ((k, v) ∷ entries c) h (λ number l p. (none, (p, refl))))

  -- an upsert of a key that is there
  pub leads-written : (d : Contents (K × V) H) (v w : V) (l : K) → find eq (entries c) k ≡ Some (l, w) → HoldsExactly c (set_value (eq k) (entries c) v) d → Leads d (Upsert k v) (Old (Some w))
  leads-written d v w l is h = as-answer d (Upsert k v) (Old (Some w)) refl (exactly-changes (MapMoves eq) (Upsert k v) (Old (Some w)) c d (set_value (eq k) (entries c) v) h (λ e b. (l, is, (e, b))))

  -- a replacement of a key that is there
  pub leads-swapped : (d : Contents (K × V) H) (l : K) (v : V) → find eq (entries c) k ≡ Some (l, v) → HoldsExactly c (set_key (eq k) (entries c) k) d → Leads d (Replace k) (Key (Some l))
  leads-swapped d l v is h = as-answer d (Replace k) (Key (Some l)) refl (exactly-changes (MapMoves eq) (Replace k) (Key (Some l)) c d (set_key (eq k) (entries c) k) h (λ e b. (v, is, (e, b))))

  -- a removal of a key that is there
  pub leads-taken : (d : Contents (K × V) H) (p : K × V) → find eq (entries c) k ≡ Some p → Holds c (without eq (entries c) k) d → Leads d (Remove k) (Pair (Some p))
  leads-taken d p is h = as-answer d (Remove k) (Pair (Some p)) refl (holds-changes (MapMoves eq) (Remove k) (Pair (Some p)) c d (without eq (entries c) k) h (λ number l q. (is, (q, refl))))

  -- a read of a key that is there
  pub leads-read : (l : K) (w x : V) → find eq (entries c) k ≡ Some (l, w) → clone w x → Leads c (Read k) (Value (Some x))
  leads-read l w x is copied = inl (refl, (Value (Some w), copied, (rw is refl, refl)))

  -- a read, a replacement and a removal of a key that is missing
  pub leads-unread : find eq (entries c) k ≡ None → Leads c (Read k) (Value None)
  leads-unread none = inl (refl, (Value None, tt, (rw none refl, refl)))

  pub leads-unswapped : find eq (entries c) k ≡ None → Leads c (Replace k) (Key None)
  leads-unswapped none = inl (refl, (Key None, refl, (none, refl)))

  pub leads-untaken : find eq (entries c) k ≡ None → Leads c (Remove k) (Pair None)
  leads-untaken none = inl (refl, (Pair None, refl, (none, refl)))

module _ {E H : Type 0} (c d : Contents E H) where
  -- the setting stays if the call is refused
  pub rests-setting : Rests c d → run_setting d ≡ run_setting c
  rests-setting (inl u) = ap run_setting_by u.settings
  rests-setting (inr r) = ap run_setting_by r.1.settings

  -- and the state stays, or one resize was made
  pub rests-stays : Rests c d → Stays (λ (s : State E). s.1) (ResizesTo (run_setting c)) (state_of c) (state_of d)
  rests-stays (inl u) = subst (λ t. Stays (λ (s : State E). s.1) (ResizesTo (run_setting c)) (state_of c) t) (sym (unchanged-state c d u)) (stays-same (λ (s : State E). s.1) (ResizesTo (run_setting c)) (state_of c))
  rests-stays (inr r) = joined (λ (s : State E). s.1) (ResizesTo (run_setting c)) (state_of c) (state_of d) r.0 record { same = r.1.same; buckets = refl; lawful = lawful-size c d r.1.size r.0; minimum = r.1.size.minimum }

module _ {K V H : Type 0} (eq : K → K → Bool) (clone : V → V → Type 0) (c d : Contents (K × V) H) where
  -- a call that clears the map
  pub leads-cleared : Holds c [] d → MovesResized (λ (s : State (K × V)). s.1) (Answers (MapStems clone) (MapMoves eq)) (ResizesTo (run_setting c)) (state_of c) Clear Cleared (state_of d)
  leads-cleared h = answered (MapStems clone) (MapMoves eq) (λ (s : State (K × V)). s.1) (ResizesTo (run_setting c)) (state_of c) (state_of d) Clear Cleared Cleared refl (cleared eq c d h)
