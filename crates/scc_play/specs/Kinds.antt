-- How a script of each kind is played: a key is its own hash.
use Rattle.std.specs.Prelude.{Option, Some, ◌≡◌, ℕ, ◌%◌, ◌^◌, ◌==◌, List, [], max, replicate, nat_eq}
use Rattle.std.specs.Hash.{le_bytes}
use Rattle.std.specs.List.Sorted.{IsPermutation}
use Rattle.std.specs.Ordering.{nat_cmp}
use Rattle.scc_common.specs.Contents.{Contents, entries, lists_of}
use Rattle.scc_common.specs.Sizes.{IsArraySize}
use Rattle.scc_owned_cache.specs.Caches.{Cached}
use Rattle.scc_calls.specs.CacheCalls.{cache_key, number_by, CacheMoves, CacheResizes}
use Rattle.scc_calls.specs.IndexCalls.{index_key, IndexMoves}
use Rattle.scc_calls.specs.IndexWhole.{IndexWholeMoves}
use Rattle.scc_calls.specs.MapCalls.{map_key, MapMoves}
use Rattle.scc_calls.specs.MapWhole.{joined, MapWholeMoves}
use Rattle.scc_calls.specs.Parted.{PartMoves, PartResizes}
use Rattle.scc_common.specs.Routing.{stripe_number}
use Rattle.scc_calls.specs.SetCalls.{key_of_set, SetMoves}
use Rattle.scc_calls.specs.SetWhole.{SetWholeMoves}
use Rattle.scc_calls.specs.States.{State, state_of, ResizesTo}
use Rattle.scc_calls.specs.WholeLaws.{counted_by}
use Rattle.scc_calls.specs.declared.calls_as_values.CacheCall.{CacheCall}
use Rattle.scc_calls.specs.declared.calls_as_values.IndexCall.{IndexCall}
use Rattle.scc_calls.specs.declared.calls_as_values.MapCall.{MapCall}
use Rattle.scc_calls.specs.declared.calls_as_values.SetCall.{SetCall}
use Rattle.scc_calls.specs.declared.fixed.Request.{Request}
use Rattle.scc_calls.specs.declared.replies.Reply.{Reply}
use Rattle.scc_calls.specs.declared.replies.Reply.TheVariants.{Count}
use Rattle.scc_recorded.specs.Setups.{request_of}
use Rattle.scc_play.specs.Finished.{pair_cmp}
use Rattle.scc_play.specs.Output.{reply_line, content_line, key_reply_line, key_line}
use Rattle.scc_script.specs.Hashes.{same_write}
use Rattle.scc_script.specs.declared.line.WorkerCall.{WorkerCall}
use Rattle.scc_script.specs.declared.same.Same.{Same}
use Rattle.scc_play.specs.Played.{IsPlayed, Machine}

-- the hash of a key of 64 bits
abbrev pub own_hash : ℕ → ℕ
own_hash k = k % 2 ^ 64

-- what each stripe of a script's container is made for: no array, and its share of the maximum of 256 slots
abbrev pub script_request : ℕ → Request Same
script_request stripes = request_of 0 256 (record {}) stripes

module _ (hash : ℕ → ℕ) where
  -- the stripe of a key
  abbrev pub route_by : ℕ → ℕ → ℕ
  route_by stripes k = stripe_number stripes (hash k)

  -- how a script of a map is played
  abbrev pub map_machine : Machine (Contents (ℕ × ℕ) Same) Same (State (ℕ × ℕ)) (List (ℕ × ℕ)) (MapCall ℕ ℕ) (Reply ℕ ℕ) ℕ (ℕ × ℕ)
  map_machine = record {
    limits = λ _ _ m. m ≡ 0;
    empty = λ b. ([], b);
    key_of = map_key;
    moves = λ _. MapMoves nat_eq;
    resizes = ResizesTo;
    whole = joined;
    whole_moves = λ g n i. MapWholeMoves nat_eq (λ k. route_by n k == i);
    whole_resizes = λ _ _ _ w _ v. IsPermutation w v;
    counted = counted_by;
    count = Count;
    state = state_of;
    shown = entries;
    order = pair_cmp;
    reply = reply_line;
    content = content_line;
  }

  -- how a script of a set is played
  abbrev pub set_machine : Machine (Contents ℕ Same) Same (State ℕ) (List ℕ) (SetCall ℕ) (Reply ℕ (Unit {0})) ℕ ℕ
  set_machine = record {
    limits = λ _ _ m. m ≡ 0;
    empty = λ b. ([], b);
    key_of = key_of_set;
    moves = λ _. SetMoves nat_eq;
    resizes = ResizesTo;
    whole = joined;
    whole_moves = λ g n i. SetWholeMoves nat_eq (λ k. route_by n k == i);
    whole_resizes = λ _ _ _ w _ v. IsPermutation w v;
    counted = counted_by;
    count = Count;
    state = state_of;
    shown = entries;
    order = nat_cmp;
    reply = key_reply_line;
    content = key_line;
  }

  -- how a script of an index is played
  abbrev pub index_machine : Machine (Contents (ℕ × ℕ) Same) Same (State (ℕ × ℕ)) (List (ℕ × ℕ)) (IndexCall ℕ ℕ) (Reply ℕ ℕ) ℕ (ℕ × ℕ)
  index_machine = record {
    limits = λ _ _ m. m ≡ 0;
    empty = λ b. ([], b);
    key_of = index_key;
    moves = λ _. IndexMoves nat_eq (λ k l. l ≡ k);
    resizes = ResizesTo;
    whole = joined;
    whole_moves = λ g n i. IndexWholeMoves nat_eq (λ k l. l ≡ k) (λ k. route_by n k == i);
    whole_resizes = λ _ _ _ w _ v. IsPermutation w v;
    counted = counted_by;
    count = Count;
    state = state_of;
    shown = entries;
    order = pair_cmp;
    reply = reply_line;
    content = content_line;
  }

  -- how a script of a cache is played
  abbrev pub cache_machine : Machine (Cached (ℕ × ℕ) Same) Same (List (List (ℕ × ℕ))) (List (List (List (ℕ × ℕ)))) (CacheCall ℕ ℕ) (Reply ℕ ℕ) ℕ (ℕ × ℕ)
  cache_machine = record {
    limits = λ asked slots m. IsArraySize (max asked slots) m;
    empty = λ b. replicate b [];
    key_of = cache_key;
    moves = λ g. CacheMoves nat_eq (number_by (λ h k. hash k) g);
    resizes = λ g. CacheResizes g (number_by (λ h k. hash k) g);
    whole = λ parts. parts;
    whole_moves = λ g n i. PartMoves (CacheMoves nat_eq (number_by (λ h k. hash k) g)) cache_key (λ k. route_by n k) i;
    whole_resizes = λ g n i. PartResizes (CacheResizes g (number_by (λ h k. hash k) g)) i;
    counted = counted_by;
    count = Count;
    state = λ c. lists_of c.contents;
    shown = λ c. entries c.contents;
    order = pair_cmp;
    reply = reply_line;
    content = content_line;
  }

-- the hash of a key as a script's hasher finishes with it
abbrev pub finished_hash : ℕ → ℕ
finished_hash k = (same_write (record { last = 0 }) (le_bytes 8 k)).last

-- What was played for the request that was chosen.
module _ {C S W A R X : Type 0} (machine : (ℕ → ℕ) → Machine C Same S W A R ℕ X) where
  -- if this request was chosen for such a script, the text is that of a play of the script
  abbrev pub PlayedFor : Option (Request Same) → ℕ → ℕ → List (WorkerCall A) → List ℕ → Type 0
  PlayedFor chosen workers stripes calls text = ∥ ((r : Request Same) × (chosen ≡ Some r) × IsPlayed (machine finished_hash) (route_by finished_hash) r workers stripes calls text) ∥₁

-- as `PlayedFor`, for a map
abbrev pub MapPlayedFor : Option (Request Same) → ℕ → ℕ → List (WorkerCall (MapCall ℕ ℕ)) → List ℕ → Type 0
MapPlayedFor chosen workers stripes calls text = PlayedFor map_machine chosen workers stripes calls text

-- as `PlayedFor`, for a set
abbrev pub SetPlayedFor : Option (Request Same) → ℕ → ℕ → List (WorkerCall (SetCall ℕ)) → List ℕ → Type 0
SetPlayedFor chosen workers stripes calls text = PlayedFor set_machine chosen workers stripes calls text

-- as `PlayedFor`, for an index
abbrev pub IndexPlayedFor : Option (Request Same) → ℕ → ℕ → List (WorkerCall (IndexCall ℕ ℕ)) → List ℕ → Type 0
IndexPlayedFor chosen workers stripes calls text = PlayedFor index_machine chosen workers stripes calls text

-- as `PlayedFor`, for a cache
abbrev pub CachePlayedFor : Option (Request Same) → ℕ → ℕ → List (WorkerCall (CacheCall ℕ ℕ)) → List ℕ → Type 0
CachePlayedFor chosen workers stripes calls text = PlayedFor cache_machine chosen workers stripes calls text

-- the text is that of a play of a map's script
abbrev pub MapPlayed : ℕ → ℕ → List (WorkerCall (MapCall ℕ ℕ)) → List ℕ → Type 0
MapPlayed workers stripes calls text = ∥ IsPlayed (map_machine own_hash) (route_by own_hash) (script_request stripes) workers stripes calls text ∥₁

-- the text is that of a play of a set's script
abbrev pub SetPlayed : ℕ → ℕ → List (WorkerCall (SetCall ℕ)) → List ℕ → Type 0
SetPlayed workers stripes calls text = ∥ IsPlayed (set_machine own_hash) (route_by own_hash) (script_request stripes) workers stripes calls text ∥₁

-- the text is that of a play of an index's script
abbrev pub IndexPlayed : ℕ → ℕ → List (WorkerCall (IndexCall ℕ ℕ)) → List ℕ → Type 0
IndexPlayed workers stripes calls text = ∥ IsPlayed (index_machine own_hash) (route_by own_hash) (script_request stripes) workers stripes calls text ∥₁

-- the text is that of a play of a cache's script
abbrev pub CachePlayed : ℕ → ℕ → List (WorkerCall (CacheCall ℕ ℕ)) → List ℕ → Type 0
CachePlayed workers stripes calls text = ∥ IsPlayed (cache_machine own_hash) (route_by own_hash) (script_request stripes) workers stripes calls text ∥₁
