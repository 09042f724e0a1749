-- A step of one part of an index is a step of the whole.
use Rattle.std.proofs.Common.{◌≡◌, ◌∙◌, ℕ, ◌+◌, List, [], ◌∷◌, ◌++◌, length, Bool, true, false, Some, None, sym, subst, arith, suc}
use Rattle.std.specs.Prelude.{◌==◌}
use Rattle.std.specs.Map.{keys_of}
use Rattle.scc_calls.specs.IndexCalls.{IndexMoves, index_key}
use Rattle.scc_calls.specs.IndexWhole.{IndexWholeMoves}
use Rattle.scc_calls.specs.MapLaws.{map_call_is_whole, map_call_keeps}
use Rattle.scc_calls.specs.MapWhole.{joined}
use Rattle.scc_calls.specs.Parts.{Routed, KeyRouted, RoutedFrom}
use Rattle.scc_calls.specs.States.{State}
use Rattle.scc_calls.specs.declared.calls_as_values.IndexCall.{IndexCall}
use Rattle.scc_calls.specs.declared.calls_as_values.IndexCall.TheVariants.{Insert, Update, Remove, Read, Contains, Clear, Len}
use Rattle.scc_calls.specs.declared.calls_as_values.MapCall.TheVariants.{Insert as MapInsert, Upsert as MapUpsert, Replace as MapReplace, Remove as MapRemove, Read as MapRead, Contains as MapContains, Clear as MapClear, Len as MapLen}
use Rattle.scc_calls.specs.declared.replies.Reply.{Reply}
use Rattle.scc_calls.specs.declared.replies.Reply.TheVariants.{Old, Key, Pair, Has}

module _ {K V : Type 0} (route : K → ℕ) where
  -- the keys of the parts still route to their parts if the part in the middle gets another state whose keys route to
  -- it
  routed-instead : (j : ℕ) (before : List (State (K × V))) (old mid : State (K × V)) (after : List (State (K × V))) → RoutedFrom route (λ s. keys_of s.0) j (before ++ old ∷ after)
      → Routed route (j + length before) (keys_of mid.0) → RoutedFrom route (λ s. keys_of s.0) j (before ++ mid ∷ after)
  routed-instead j [] old mid after r m = (let e : j + 0 ≡ j = omega arith in rw e at m, r.1)
  routed-instead j (s ∷ before) old mid after r m =
      let e : j + suc (length before) ≡ (j + 1) + length before = omega arith in
      (r.0, routed-instead (j + 1) before old mid after r.1 (rw e at m))

  -- the keys of the part in the middle route to it
  routed-there : (j : ℕ) (before : List (State (K × V))) (old : State (K × V)) (after : List (State (K × V))) → RoutedFrom route (λ s. keys_of s.0) j (before ++ old ∷ after) → Routed route (j + length before) (keys_of old.0)
  routed-there j [] old after r = let e : j + 0 ≡ j = omega arith in rw e r.0
  routed-there j (s ∷ before) old after r =
      let e : j + suc (length before) ≡ (j + 1) + length before = omega arith in
      rw e (routed-there (j + 1) before old after r.1)

module _ {K V : Type 0} (eq : K → K → Bool) (clone : K → K → Type 0) (route : K → ℕ) (alike : (a b : K) → eq a b ≡ true → route a ≡ route b) where
  -- a step of the part to which the call's key belongs is a step of the whole
  pub index_call_is_whole : (before after : List (State (K × V))) (old new : State (K × V)) (call : IndexCall K V) (reply : Reply K V)
      → RoutedFrom route (λ s. keys_of s.0) 0 (before ++ old ∷ after) → KeyRouted route (length before) (index_key call) → IndexMoves eq clone old call reply new
      → IndexWholeMoves eq clone (λ k. route k == length before) (joined (before ++ old ∷ after)) call reply (joined (before ++ new ∷ after))
  index_call_is_whole before after old new (Insert k v) r routed key h = map_call_is_whole eq route alike before after old new (MapInsert k v) r routed key h
  index_call_is_whole before after old new (Update k v) (Has false) routed key h = map_call_is_whole eq route alike before after old new (MapReplace k) (Key None) routed key h
  index_call_is_whole before after old new (Update k v) (Has true) routed key h =
      let mid : State (K × V) = h.0 in
      let z : 0 + length before ≡ length before = omega arith in
      let there = subst (λ n. Routed route n (keys_of old.0)) z (routed-there route 0 before old after routed) in
      let kept = map_call_keeps eq route alike (length before) old mid (MapUpsert k v) (Old (Some h.3)) there key h.6 in
      let still = routed-instead route 0 before old mid after routed (subst (λ n. Routed route n (keys_of mid.0)) (sym z) kept) in (
        (joined (before ++ mid ∷ after), 0),
        h.1,
        h.2,
        h.3,
        h.4,
        h.5,
        map_call_is_whole eq route alike before after old mid (MapUpsert k v) (Old (Some h.3)) routed key h.6,
        map_call_is_whole eq route alike before after mid new (MapReplace h.1) (Key (Some h.2)) still (sym (alike k h.1 h.4) ∙ key) h.7,
      )
  index_call_is_whole before after old new (Remove k) (Has false) routed key h = map_call_is_whole eq route alike before after old new (MapRemove k) (Pair None) routed key h
  index_call_is_whole before after old new (Remove k) (Has true) routed key h = (h.0, map_call_is_whole eq route alike before after old new (MapRemove k) (Pair (Some h.0)) routed key h.1)
  index_call_is_whole before after old new (Read k) r routed key h = map_call_is_whole eq route alike before after old new (MapRead k) r routed key h
  index_call_is_whole before after old new (Contains k) r routed key h = map_call_is_whole eq route alike before after old new (MapContains k) r routed key h
  index_call_is_whole before after old new Clear r routed key h = map_call_is_whole eq route alike before after old new MapClear r routed key h
  index_call_is_whole before after old new Len r routed key h = map_call_is_whole eq route alike before after old new MapLen r routed key h
  index_call_is_whole before after old new call reply routed key h = absurd h

  -- after a call whose key belongs to part i, all keys of the part belong to part i
  pub index_call_keeps : (i : ℕ) (s t : State (K × V)) (call : IndexCall K V) (reply : Reply K V) → Routed route i (keys_of s.0) → KeyRouted route i (index_key call)
      → IndexMoves eq clone s call reply t → Routed route i (keys_of t.0)
  index_call_keeps i s t (Insert k v) r routed key h = map_call_keeps eq route alike i s t (MapInsert k v) r routed key h
  index_call_keeps i s t (Update k v) (Has false) routed key h = map_call_keeps eq route alike i s t (MapReplace k) (Key None) routed key h
  index_call_keeps i s t (Update k v) (Has true) routed key h =
      let kept = map_call_keeps eq route alike i s h.0 (MapUpsert k v) (Old (Some h.3)) routed key h.6 in
      map_call_keeps eq route alike i h.0 t (MapReplace h.1) (Key (Some h.2)) kept (sym (alike k h.1 h.4) ∙ key) h.7
  index_call_keeps i s t (Remove k) (Has false) routed key h = map_call_keeps eq route alike i s t (MapRemove k) (Pair None) routed key h
  index_call_keeps i s t (Remove k) (Has true) routed key h = map_call_keeps eq route alike i s t (MapRemove k) (Pair (Some h.0)) routed key h.1
  index_call_keeps i s t (Read k) r routed key h = map_call_keeps eq route alike i s t (MapRead k) r routed key h
  index_call_keeps i s t (Contains k) r routed key h = map_call_keeps eq route alike i s t (MapContains k) r routed key h
  index_call_keeps i s t Clear r routed key h = map_call_keeps eq route alike i s t MapClear r routed key h
  index_call_keeps i s t Len r routed key h = map_call_keeps eq route alike i s t MapLen r routed key h
  index_call_keeps i s t call reply routed key h = absurd h
