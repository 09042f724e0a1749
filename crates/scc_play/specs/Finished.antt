-- The output of a finished run by one worker.
use Rattle.std.specs.Prelude.{◌≡◌, ℕ, List, [], ◌∷◌, length, nat_eq}
use Rattle.std.specs.List.{flat_map}
use Rattle.std.specs.List.Sorted.{IsPermutation, IsSorted}
use Rattle.std.specs.Ordering.{nat_cmp, ordering_then}
use Rattle.std.specs.declared.cmp.Ordering.{Ordering}
use Rattle.scc_common.specs.Routing.{bucket_number}
use Rattle.scc_calls.specs.Run.{IsRun}
use Rattle.scc_calls.specs.States.{ResizesTo}
use Rattle.scc_calls.specs.CacheCalls.{CacheMoves, CacheResizes}
use Rattle.scc_calls.specs.IndexCalls.{IndexMoves}
use Rattle.scc_calls.specs.MapCalls.{MapMoves}
use Rattle.scc_calls.specs.SetCalls.{SetMoves}
use Rattle.scc_calls.specs.declared.calls_as_values.CacheCall.{CacheCall}
use Rattle.scc_calls.specs.declared.calls_as_values.IndexCall.{IndexCall}
use Rattle.scc_calls.specs.declared.calls_as_values.MapCall.{MapCall}
use Rattle.scc_calls.specs.declared.calls_as_values.SetCall.{SetCall}
use Rattle.scc_calls.specs.declared.fixed.Setting.{Setting}
use Rattle.scc_script.specs.declared.same.Same.{Same}
use Rattle.scc_play.specs.Output.{reply_line, content_line, key_reply_line, key_line, output_of}

-- the order of pairs: by key, and then by value
abbrev pub pair_cmp : ℕ × ℕ → ℕ × ℕ → Ordering
pair_cmp x y = ordering_then (nat_cmp x.0 y.0) (nat_cmp x.1 y.1)

-- the text of a run from `start`: a reply to each call, one after another, and the items that the calls leave, in
-- rising order
pub record IsOutput {S C R X : Type 0} (moves : S → C → R → S → Type 0) (resizes : S → ℕ → S → Type 0) (start : S) (items : S → List X) (order : X → X → Ordering) (reply : R → List ℕ) (content : X → List ℕ) (calls : List C) (text : List ℕ) : Type 0 where
  pub replies : List R
  pub last : S
  pub shown : List X
  pub run : IsRun moves resizes start calls replies last
  pub all : length replies ≡ length calls
  pub same : IsPermutation (items last) shown
  pub rising : IsSorted order shown
  pub whole : text ≡ output_of reply content (replies ∷ []) shown (length calls)

-- the text of a run of these calls on a map without pairs
abbrev pub MapOutput : List (MapCall ℕ ℕ) → List ℕ → Type 0
MapOutput calls text = (setting : Setting Same) × IsOutput (MapMoves nat_eq) (ResizesTo setting) ([], 0) (λ s. s.0) pair_cmp reply_line content_line calls text

-- the text of a run of these calls on an empty set
abbrev pub SetOutput : List (SetCall ℕ) → List ℕ → Type 0
SetOutput calls text = (setting : Setting Same) × IsOutput (SetMoves nat_eq) (ResizesTo setting) ([], 0) (λ s. s.0) nat_cmp key_reply_line key_line calls text

-- the text of a run of these calls on an empty index
abbrev pub IndexOutput : List (IndexCall ℕ ℕ) → List ℕ → Type 0
IndexOutput calls text = (setting : Setting Same) × IsOutput (IndexMoves nat_eq (λ k l. l ≡ k)) (ResizesTo setting) ([], 0) (λ s. s.0) pair_cmp reply_line content_line calls text

-- the setting of a script's cache: no bit of a hash is skipped, no slots are asked for, and the maximum is 256 slots
abbrev pub script_setting : Setting Same
script_setting = record { hasher = record {}; skipped = 0; minimum = 0; maximum = 256 }

-- the number of the list of key k, among n lists; a key is its own hash
abbrev pub key_number : ℕ → ℕ → ℕ
key_number n k = bucket_number 0 n k

-- the text of a run of these calls on a cache without lists; its contents are the pairs of all lists
abbrev pub CacheOutput : List (CacheCall ℕ ℕ) → List ℕ → Type 0
CacheOutput calls text = IsOutput (CacheMoves nat_eq key_number) (CacheResizes script_setting key_number) [] (flat_map (λ l. l)) pair_cmp reply_line content_line calls text
