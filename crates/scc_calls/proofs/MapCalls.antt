-- The calls of a map as calls on its state.
use Rattle.std.proofs.Common.{◌≡◌, ℕ, suc, arith, length, List, [], Bool, ◌∷◌, Option, None, Some, Ok, refl, sym, subst, inl, inr, ap}
use Rattle.std.specs.Prelude.{◌==◌, ◌<◌, count_by}
use Rattle.std.specs.List.Sorted.{IsPermutation}
use Rattle.std.proofs.lemmas.List.Sorted.{length_permutation}
use Rattle.std.specs.Map.{set_value}
use Rattle.std.proofs.lemmas.Bool.{cases_order}
use Rattle.scc_common.specs.Contents.{Contents, bucket_count, entries, settings_of}
use Rattle.scc_common.specs.Pairs.{find, without}
use Rattle.scc_common.specs.Routing.{bucket_number}
use Rattle.scc_common.specs.Steps.{Holds, Prepares}
use Rattle.scc_table.proofs.arrays.SameParts.{entries-same}
use Rattle.scc_owned.specs.MapSteps.{Inserts, Upserts, Removes}
use Rattle.scc_calls.specs.Resized.{MovesResized}
use Rattle.scc_calls.specs.States.{State, ResizesTo, state_of, run_setting, run_setting_by}
use Rattle.scc_calls.specs.MapCalls.{MapMoves}
use Rattle.scc_calls.specs.declared.calls_as_values.MapCall.TheVariants.{Insert, Upsert, Remove, Clear}
use Rattle.scc_calls.specs.declared.replies.Reply.TheVariants.{Inserted, Old, Pair, Cleared}
use Rattle.scc_calls.proofs.States.{holds-changes, exactly-changes, unchanged-changes}

pub none-left : {E : Type 0} (l : List E) → IsPermutation [] l → l ≡ []
none-left [] p = refl
none-left (x ∷ l) p = absurd (let n : suc (length l) ≡ 0 = length_permutation [] (x ∷ l) p in omega (arith, n))

module _ {K V H : Type 0} (eq : K → K → Bool) (hash : H → K → ℕ) (c d : Contents (K × V) H) where
  -- an insertion of a new key
  pub inserted : (k : K) (v : V) (u : Unit {0}) → Inserts eq (hash (settings_of c).hasher) c (k, v) (Ok u) d
      → MovesResized (λ s. s.1) (MapMoves eq) (ResizesTo (run_setting c)) (state_of c) (Insert k v) Inserted (state_of d)
  inserted k v u h = holds-changes (MapMoves eq) (Insert k v) Inserted c d ((k, v) ∷ entries c) h.1 (λ number l p. (h.0, (p, refl)))

  -- an upsert that is not refused
  pub upserted : (k : K) (v : V) (o : Option V) → Upserts eq (hash (settings_of c).hasher) c (k, v) (Ok o) d
      → MovesResized (λ s. s.1) (MapMoves eq) (ResizesTo (run_setting c)) (state_of c) (Upsert k v) (Old o) (state_of d)
  upserted k v None h = holds-changes (MapMoves eq) (Upsert k v) (Old None) c d ((k, v) ∷ entries c) h.1 (λ number l p. (h.0, (p, refl)))
  upserted k v (Some w) h = exactly-changes (MapMoves eq) (Upsert k v) (Old (Some w)) c d (set_value (eq k) (entries c) v) h.2 (λ e b. (h.0, h.1, (e, b)))

module _ {K V H : Type 0} (eq : K → K → Bool) (c d : Contents (K × V) H) where
  -- a call that clears the map
  pub cleared : Holds c [] d → MovesResized (λ s. s.1) (MapMoves eq) (ResizesTo (run_setting c)) (state_of c) Clear Cleared (state_of d)
  cleared h = holds-changes (MapMoves eq) Clear Cleared c d [] h (λ number l p. (none-left l p, refl))

  -- a removal
  pub removed : (k : K) (o : Option (K × V)) → Removes eq c k o d
      → MovesResized (λ s. s.1) (MapMoves eq) (ResizesTo (run_setting c)) (state_of c) (Remove k) (Pair o) (state_of d)
  removed k None h = unchanged-changes (MapMoves eq) (Remove k) (Pair None) c d h.1 (λ e. (h.0, e))
  removed k (Some p) h = holds-changes (MapMoves eq) (Remove k) (Pair (Some p)) c d (without eq (entries c) k) h.1 (λ number l q. (h.0, (q, refl)))

  pub removed-setting : (k : K) (o : Option (K × V)) → Removes eq c k o d → run_setting d ≡ run_setting c
  removed-setting k None h = ap run_setting_by h.1.settings
  removed-setting k (Some p) h = ap run_setting_by h.1.settings

-- two cases: a value was found, or none was found
pub by-find : {X : Type 0} {P : Type 0} (o : Option X) → ((x : X) → o ≡ Some x → P) → (o ≡ None → P) → P
by-find (Some x) f n = f x refl
by-find None f n = n refl

module _ {E K H : Type 0} (key : E → K) (absent : List E → Type 0) (hash : H → K → ℕ) (c d : Contents E H) (k : K) where
  -- there is an array, and the bucket of k holds fewer than 32 entries
  abbrev has_room : State E → Type 0
  has_room s = (0 < s.1) × (count_by (λ e. bucket_number (run_setting c).skipped s.1 (hash (run_setting c).hasher (key e)) == bucket_number (run_setting c).skipped s.1 (hash (run_setting c).hasher k)) s.0 < 32)

  -- if memory may be refused after room was made, it may be refused before too
  pub refuses-still : absent (entries c) → Prepares (hash (settings_of c).hasher) key c (hash (settings_of c).hasher k) d → absent (entries d) × (has_room (state_of d) → ⊥) → absent (entries c) × (has_room (state_of c) → ⊥)
  refuses-still none room h = (
    none,
    λ has. elim (cases_order (bucket_count d) (bucket_count c)) as (λ _. ⊥) [
      | inl e ↦
          let same : state_of d ≡ state_of c = let l = entries-same c d (room.same has.0 e).0 in cc in
          h.1 (subst has_room (sym same) has)
      | inr o ↦ room.due (λ e. elim o as (λ _. ⊥) [ inl less ↦ omega (arith, less, e) | inr more ↦ omega (arith, more, e) ]) has
    ],
  )
