-- What a contract sees of two arrays, by their fields.
use Rattle.std.proofs.Common.{◌≡◌, ℕ, ◌+◌, ◌⊎◌, Bool, List, [], length, sym, ap, ◌∙◌}
use Rattle.std.specs.List.{count_by}
use Rattle.scc_array.specs.Shelf.{Shelf}
use Rattle.scc_common.specs.Contents.{Contents, bucket_count, lists_of, settings_of, notes_of, overflow_of, waiting_of, pending_of}
use Rattle.scc_buckets.specs.Tables.{overflow_in}
use Rattle.scc_draining.specs.Drainings.{Draining}
use Rattle.scc_table.specs.TwoArrays.{together, IsTable}
use Rattle.scc_table.proofs.arrays.OneArray.{lists-alone, spilled-together}
use Rattle.scc_table.proofs.arrays.JoinedLists.{settings-together, refused-together, waiting-together, pending-together, count-together}

module _ {E S : Type 0} (hash : E → ℕ) (c : Contents E S) (ws : List Bool) (olds : List (Shelf E)) (d : Contents E S) (view : together hash c ws olds ≡ d) where
  pub settings-seen : settings_of d ≡ settings_of c
  settings-seen = ap settings_of (sym view) ∙ settings-together hash c ws olds

  pub refused-seen : notes_of d ≡ notes_of c
  refused-seen = ap notes_of (sym view) ∙ refused-together hash c ws olds

  pub waiting-seen : waiting_of d ≡ ws
  waiting-seen = ap waiting_of (sym view) ∙ waiting-together hash c ws olds

  pub pending-seen : pending_of d ≡ count_by (λ w. w) ws
  pending-seen = ap pending_of (sym view) ∙ pending-together hash c ws olds

  pub spilled-seen : overflow_of d ≡ overflow_of c + overflow_in olds
  spilled-seen = ap overflow_of (sym view) ∙ spilled-together hash c ws olds

  pub count-seen : (ws ≡ []) ⊎ (length ws ≡ bucket_count c) → bucket_count d ≡ bucket_count c
  count-seen flags = ap bucket_count (sym view) ∙ count-together hash c ws olds flags

  -- if no bucket waits, the lists are those of the current array
  pub lists-seen : ws ≡ [] → lists_of d ≡ lists_of c
  lists-seen none = ap lists_of (sym view) ∙ lists-alone hash c ws olds none

-- if the number of waiting buckets is 0, there are no flags
pub not_waiting-flags : {E K S : Type 0} {eq : K → K → Bool} {key : E → K} {hash : K → ℕ} {c : Contents E S} {drain : Draining E} (d : Contents E S) → IsTable eq key hash c drain → together (λ e. hash (key e)) c drain.waiting drain.array ≡ d → pending_of d ≡ 0 → drain.waiting ≡ []
not_waiting-flags {key = key} {hash = hash} {c = c} {drain = drain} d inv view none = inv.none (inv.counted ∙ sym (pending-seen (λ e. hash (key e)) c drain.waiting drain.array d view) ∙ none)
