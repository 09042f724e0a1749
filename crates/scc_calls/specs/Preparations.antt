-- What the preparation of a call does to a container, in one word for each kind.
use Rattle.std.specs.Prelude.{◌≡◌, ◌≢◌, ℕ, ◌≤◌, Bool, List, length, None, Option, Result, IfOk}
use Rattle.std.specs.Result.{OnOk, OnErr}
use Rattle.scc_buckets.specs.declared.place.Place.{Place}
use Rattle.scc_common.specs.Contents.{Contents, lists_of, settings_of, IsMarked}
use Rattle.scc_common.specs.Pairs.{find}
use Rattle.scc_owned_cache.specs.Caches.{Cached}
use Rattle.scc_calls.specs.CacheCalls.{cache_adds, cache_setting, number_by, CacheIsMade, CacheKnows, CacheMayRefuse, CacheResizes}
use Rattle.scc_calls.specs.Resized.{Stays}
use Rattle.scc_calls.specs.IndexCalls.{index_adds, IndexIsMade, IndexIsMadeFor, IndexKnows, IndexMayRefuse}
use Rattle.scc_calls.specs.MapCalls.{map_adds, MapFinds, MapIsMade, MapIsMadeFor, MapKnows, MapMayRefuse, MapRefuses}
use Rattle.scc_calls.specs.SetCalls.{set_adds, SetFinds, SetIsMade, SetIsMadeFor, SetKnows, SetMayRefuse, SetRefuses}
use Rattle.scc_calls.specs.States.{State, ResizesTo, run_setting, state_of}
use Rattle.scc_calls.specs.declared.calls_as_values.CacheCall.{CacheCall}
use Rattle.scc_calls.specs.declared.calls_as_values.IndexCall.{IndexCall}
use Rattle.scc_calls.specs.declared.calls_as_values.MapCall.{MapCall}
use Rattle.scc_calls.specs.declared.calls_as_values.SetCall.{SetCall}

module _ {G S X R : Type 0} (size : S → ℕ) (resizes : S → ℕ → S → Type 0) where
  -- what the preparation of the insertion of a key, with this result, does to the settings g and the state s, which
  -- become h and t. `wants` says that the insertion is prepared, `knows` what is known of what it returns,
  -- `refuses` in which states memory may be refused, and `unmarks` that no mark is left but one that was there before
  pub record PreparesKey (wants unmarks : Type 0) (knows : X → Type 0) (refuses : S → Type 0) (g : G) (s : S) (result : Result X R) (h : G) (t : S) : Type 0 where
    -- if it succeeds, the insertion is prepared
    pub made : OnOk result wants
    -- if it succeeds, what it returns is known
    pub known : IfOk result knows
    -- the state stays, or one resize was made
    pub stays : Stays size resizes s t
    -- the settings stay
    pub settings : h ≡ g
    -- the number of buckets doesn't fall
    pub grows : size s ≤ size t
    -- it fails only if memory may be refused
    pub refused : OnErr result (refuses s)
    -- if it fails, it leaves no mark but one that was there before
    pub unmarked : OnErr result unmarks
    -- if memory may be refused in t, it may be refused in s
    pub still : refuses t → refuses s

  -- what the preparation of a call, with this result, does to the settings g and the state s, which become h and t.
  -- `wants` says that the call is prepared, `brings` that it may add a key, `knows` what is known of what it returns,
  -- `refuses` in which states memory may be refused, and `unmarks` that no mark is left but one that was there before
  pub record PreparesCall (wants brings unmarks : Type 0) (knows : X → Type 0) (refuses : S → Type 0) (g : G) (s : S) (result : Result X R) (h : G) (t : S) : Type 0 where
    -- if it succeeds, the call is prepared
    pub made : OnOk result wants
    -- if it succeeds, what it returns is known
    pub known : IfOk result knows
    -- the state stays, or one resize was made
    pub stays : Stays size resizes s t
    -- the settings stay
    pub settings : h ≡ g
    -- the number of buckets doesn't fall
    pub grows : size s ≤ size t
    -- the number of buckets changes only if the call may add a key
    pub adds : size t ≢ size s → brings
    -- it fails only if memory for the call may be refused
    pub refused : OnErr result (refuses s)
    -- if it fails, it leaves no mark but one that was there before
    pub unmarked : OnErr result unmarks
    -- if memory may be refused in t, it may be refused in s
    pub still : refuses t → refuses s

module _ {K V H R : Type 0} (eq : K → K → Bool) (hash : H → K → ℕ) where
  -- what the preparation of the insertion of k into a map does
  abbrev pub MapPreparesKey : Contents (K × V) H → K → Result (Option Place) R → Contents (K × V) H → Type 0
  MapPreparesKey c k result d = PreparesKey (λ (s : State (K × V)). s.1) (ResizesTo (run_setting c)) (MapIsMadeFor eq (hash (settings_of d).hasher) d k) (IsMarked d → IsMarked c) (MapFinds eq d k) (λ s. MapRefuses eq hash (run_setting c) s k) (settings_of c) (state_of c) result (settings_of d) (state_of d)

  -- what the preparation of a call of a map does
  abbrev pub MapPreparesCall : Contents (K × V) H → MapCall K V → Result (Option Place) R → Contents (K × V) H → Type 0
  MapPreparesCall c call result d = PreparesCall (λ (s : State (K × V)). s.1) (ResizesTo (run_setting c)) (MapIsMade eq (hash (settings_of d).hasher) d call) (map_adds call) (IsMarked d → IsMarked c) (MapKnows eq d call) (λ s. MapMayRefuse eq hash (run_setting c) s call) (settings_of c) (state_of c) result (settings_of d) (state_of d)

  -- what the preparation of the insertion of k into an index does
  abbrev pub IndexPreparesKey : Contents (K × V) H → K → Result (Option Place) R → Contents (K × V) H → Type 0
  IndexPreparesKey c k result d = PreparesKey (λ (s : State (K × V)). s.1) (ResizesTo (run_setting c)) (IndexIsMadeFor eq (hash (settings_of d).hasher) d k) (IsMarked d → IsMarked c) (MapFinds eq d k) (λ s. find eq s.0 k ≡ None) (settings_of c) (state_of c) result (settings_of d) (state_of d)

  -- what the preparation of a call of an index does
  abbrev pub IndexPreparesCall : Contents (K × V) H → IndexCall K V → Result (Option Place) R → Contents (K × V) H → Type 0
  IndexPreparesCall c call result d = PreparesCall (λ (s : State (K × V)). s.1) (ResizesTo (run_setting c)) (IndexIsMade eq (hash (settings_of d).hasher) d call) (index_adds call) (IsMarked d → IsMarked c) (IndexKnows eq d call) (λ s. IndexMayRefuse eq s call) (settings_of c) (state_of c) result (settings_of d) (state_of d)

  -- what the preparation of a call of a cache does
  abbrev pub CachePreparesCall : Cached (K × V) H → CacheCall K V → Result (Option Place) R → Cached (K × V) H → Type 0
  CachePreparesCall c call result d = PreparesCall {S = List (List (K × V))} length (CacheResizes (cache_setting c) (number_by hash (cache_setting c))) (CacheIsMade eq (hash (settings_of d.contents).hasher) d call) (cache_adds call) (IsMarked d.contents → IsMarked c.contents) (CacheKnows eq (hash (settings_of d.contents).hasher) d call) (λ s. CacheMayRefuse eq (number_by hash (cache_setting c)) s call) (cache_setting c) (lists_of c.contents) result (cache_setting d) (lists_of d.contents)

module _ {K H R : Type 0} (eq : K → K → Bool) (hash : H → K → ℕ) where
  -- what the preparation of the insertion of k into a set does
  abbrev pub SetPreparesKey : Contents K H → K → Result (Option Place) R → Contents K H → Type 0
  SetPreparesKey c k result d = PreparesKey (λ (s : State K). s.1) (ResizesTo (run_setting c)) (SetIsMadeFor eq (hash (settings_of d).hasher) d k) (IsMarked d → IsMarked c) (SetFinds eq d k) (λ s. SetRefuses eq hash (run_setting c) s k) (settings_of c) (state_of c) result (settings_of d) (state_of d)

  -- what the preparation of a call of a set does
  abbrev pub SetPreparesCall : Contents K H → SetCall K → Result (Option Place) R → Contents K H → Type 0
  SetPreparesCall c call result d = PreparesCall (λ (s : State K). s.1) (ResizesTo (run_setting c)) (SetIsMade eq (hash (settings_of d).hasher) d call) (set_adds call) (IsMarked d → IsMarked c) (SetKnows eq d call) (λ s. SetMayRefuse eq hash (run_setting c) s call) (settings_of c) (state_of c) result (settings_of d) (state_of d)
