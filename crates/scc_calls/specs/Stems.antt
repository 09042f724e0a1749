-- How the reply that a caller gets stems from the reply that the step gives: a read answers a clone of what is stored,
-- each other call the very reply.
use Rattle.std.proofs.Common.{◌≡◌, Bool, true, Option, None, Some, inl, inr}
use Rattle.scc_common.specs.Copies.{IsCopied}
use Rattle.scc_calls.specs.Copies.{Alike, ClonesEqual}
use Rattle.scc_calls.specs.declared.replies.Reply.{Reply}
use Rattle.scc_calls.specs.declared.replies.Reply.TheVariants.{Key, Value}
use Rattle.scc_calls.specs.declared.calls_as_values.CacheCall.{CacheCall}
use Rattle.scc_calls.specs.declared.calls_as_values.CacheCall.TheVariants.{Get, Read}
use Rattle.scc_calls.specs.declared.calls_as_values.IndexCall.{IndexCall}
use Rattle.scc_calls.specs.declared.calls_as_values.IndexCall.TheVariants.{Read as IndexRead}
use Rattle.scc_calls.specs.declared.calls_as_values.MapCall.{MapCall}
use Rattle.scc_calls.specs.declared.calls_as_values.MapCall.TheVariants.{Read as MapRead}
use Rattle.scc_calls.specs.declared.calls_as_values.SetCall.{SetCall}
use Rattle.scc_calls.specs.declared.calls_as_values.SetCall.TheVariants.{Read as SetRead}

-- a clone of an optional value equals the value, or both are `None`
alike_copied : {X Z : Type 0} {clone : Z → Z → Type 0} {same : Z → Z → Bool} (clones : ClonesEqual clone same) (wrap : Option X → Z) (copy : X → X → Type 0) (none : same (wrap None) (wrap None) ≡ true) (some : (x y : X) → copy x y → clone (wrap (Some x)) (wrap (Some y)))
    → (o w : Option X) → IsCopied copy o w → Alike same (wrap o) (wrap w)
alike_copied clones wrap copy none some None None h = inr none
alike_copied clones wrap copy none some (Some x) (Some y) h = inr (clones (wrap (Some x)) (wrap (Some y)) (some x y h))
alike_copied clones wrap copy none some None (Some y) h = absurd h
alike_copied clones wrap copy none some (Some x) None h = absurd h

module _ {K V : Type 0} (clone : V → V → Type 0) where
  -- reply has a clone of the value of given
  abbrev pub ClonesValue : Reply K V → Reply K V → Type 0
  ClonesValue (Value o) (Value w) = IsCopied clone o w
  ClonesValue given reply = ⊥

  -- a map's read answers a clone of the value
  abbrev pub MapStems : MapCall K V → Reply K V → Reply K V → Type 0
  MapStems (MapRead k) given reply = ClonesValue given reply
  MapStems call given reply = reply ≡ given

  -- an index's read answers a clone of the value
  abbrev pub IndexStems : IndexCall K V → Reply K V → Reply K V → Type 0
  IndexStems (IndexRead k) given reply = ClonesValue given reply
  IndexStems call given reply = reply ≡ given

  -- a cache's read and its get answer a clone of the value
  abbrev pub CacheStems : CacheCall K V → Reply K V → Reply K V → Type 0
  CacheStems (Get k) given reply = ClonesValue given reply
  CacheStems (Read k) given reply = ClonesValue given reply
  CacheStems call given reply = reply ≡ given

module _ {K : Type 0} (clone : K → K → Type 0) where
  -- reply has a clone of the key of given
  abbrev pub ClonesKey : Reply K (Unit {0}) → Reply K (Unit {0}) → Type 0
  ClonesKey (Key o) (Key w) = IsCopied clone o w
  ClonesKey given reply = ⊥

  -- a set's read answers a clone of the key
  abbrev pub SetStems : SetCall K → Reply K (Unit {0}) → Reply K (Unit {0}) → Type 0
  SetStems (SetRead k) given reply = ClonesKey given reply
  SetStems call given reply = reply ≡ given

module _ {K V : Type 0} {copies : Reply K V → Reply K V → Type 0} {same : Reply K V → Reply K V → Bool} (clones : ClonesEqual copies same) (clone : V → V → Type 0)
    (none : same (Value None) (Value None) ≡ true) (some : (v w : V) → clone v w → copies (Value (Some v)) (Value (Some w))) where
  value_alike : (given reply : Reply K V) → ClonesValue clone given reply → Alike same given reply
  value_alike (Value o) (Value w) h = alike_copied clones Value clone none some o w h
  value_alike given reply h = absurd h

  -- the reply that a caller gets is alike to the reply of the step, for a map, an index and a cache
  pub map_stems_alike : (call : MapCall K V) (given reply : Reply K V) → MapStems clone call given reply → Alike same given reply
  map_stems_alike (MapRead k) given reply h = value_alike given reply h
  map_stems_alike call given reply h = inl h

  pub index_stems_alike : (call : IndexCall K V) (given reply : Reply K V) → IndexStems clone call given reply → Alike same given reply
  index_stems_alike (IndexRead k) given reply h = value_alike given reply h
  index_stems_alike call given reply h = inl h

  pub cache_stems_alike : (call : CacheCall K V) (given reply : Reply K V) → CacheStems clone call given reply → Alike same given reply
  cache_stems_alike (Get k) given reply h = value_alike given reply h
  cache_stems_alike (Read k) given reply h = value_alike given reply h
  cache_stems_alike call given reply h = inl h

module _ {K : Type 0} {copies : Reply K (Unit {0}) → Reply K (Unit {0}) → Type 0} {same : Reply K (Unit {0}) → Reply K (Unit {0}) → Bool} (clones : ClonesEqual copies same) (clone : K → K → Type 0)
    (none : same (Key None) (Key None) ≡ true) (some : (k l : K) → clone k l → copies (Key (Some k)) (Key (Some l))) where
  key_alike : (given reply : Reply K (Unit {0})) → ClonesKey clone given reply → Alike same given reply
  key_alike (Key o) (Key w) h = alike_copied clones Key clone none some o w h
  key_alike given reply h = absurd h

  -- the reply that a caller gets is alike to the reply of the step, for a set
  pub set_stems_alike : (call : SetCall K) (given reply : Reply K (Unit {0})) → SetStems clone call given reply → Alike same given reply
  set_stems_alike (SetRead k) given reply h = key_alike given reply h
  set_stems_alike call given reply h = inl h
