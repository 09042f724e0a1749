-- What two containers have in common that got the same calls, over keys and values for which equal ones need not be
-- the same.
use Rattle.std.specs.Prelude.{◌≡◌, Bool, true, List, [], ◌∷◌, Option, None, Some, is_some}
use Rattle.std.specs.Map.{lookup}
use Rattle.scc_owned_set.specs.Keys.{find}
use Rattle.scc_calls.specs.Copies.{Alike, AreSame}
use Rattle.scc_calls.specs.declared.calls_as_values.MapCall.{MapCall}
use Rattle.scc_calls.specs.declared.calls_as_values.MapCall.TheVariants.{Insert, Upsert, Replace, Read, Contains, Remove, Clear, Len}
use Rattle.scc_calls.specs.declared.replies.Reply.{Reply}
use Rattle.scc_calls.specs.declared.replies.Reply.TheVariants.{Inserted, Exists, Old, Key, Pair, Value, Has, Evicted, Cleared, Count}

-- both are `None`, or both have a value and the values are related
abbrev pub Both : {X : Type 0} → (X → X → Type 0) → Option X → Option X → Type 0
Both like None None = Unit {0}
Both like (Some a) (Some b) = like a b
Both like None (Some b) = ⊥
Both like (Some a) None = ⊥

-- as far as both lists go, the items at the same place are related
abbrev pub AgreeAlong : {X : Type 0} → (X → X → Type 0) → List X → List X → Type 0
AgreeAlong like [] ys = Unit {0}
AgreeAlong like (x ∷ xs) [] = Unit {0}
AgreeAlong like (x ∷ xs) (y ∷ ys) = like x y × AgreeAlong like xs ys

-- equal calls are the same call, and equal replies the same reply, as for numbers
abbrev pub AreExact : {C R : Type 0} → (C → C → Bool) → (R → R → Bool) → Type 0
AreExact calls replies = AreSame calls × AreSame replies

-- each look-up of a key finds alike values in both, or none in both
abbrev pub FindsAlike : {K V : Type 0} → (K → K → Bool) → (V → V → Bool) → List (K × V) → List (K × V) → Type 0
FindsAlike {K = K} keys values es ds = (q : K) → Both (Alike values) (lookup (keys q) es) (lookup (keys q) ds)

-- each look-up of a key finds the same value in both, or none in both
abbrev pub FindsSame : {K V : Type 0} → (K → K → Bool) → List (K × V) → List (K × V) → Type 0
FindsSame {K = K} keys es ds = (q : K) → lookup (keys q) ds ≡ lookup (keys q) es

-- each look-up finds an equal key in both, or in neither
abbrev pub HaveEqual : {K : Type 0} → (K → K → Bool) → List K → List K → Type 0
HaveEqual {K} keys ks ls = (q : K) → is_some (find keys ls q) ≡ is_some (find keys ks q)

module _ {K V : Type 0} (keys : K → K → Bool) (values : V → V → Bool) where
  -- the keys are equal, and the values are alike
  abbrev pub PairsAlike : K × V → K × V → Type 0
  PairsAlike p q = (keys p.0 q.0 ≡ true) × Alike values p.1 q.1

  -- both are the same reply, with equal keys and alike values
  abbrev pub RepliesAlike : Reply K V → Reply K V → Type 0
  RepliesAlike Inserted Inserted = Unit {0}
  RepliesAlike (Exists k v) (Exists l w) = (keys k l ≡ true) × Alike values v w
  RepliesAlike (Old o) (Old p) = Both (Alike values) o p
  RepliesAlike (Key o) (Key p) = Both (λ k l. keys k l ≡ true) o p
  RepliesAlike (Pair o) (Pair p) = Both PairsAlike o p
  RepliesAlike (Value o) (Value p) = Both (Alike values) o p
  RepliesAlike (Has a) (Has b) = a ≡ b
  RepliesAlike (Evicted o) (Evicted p) = Both PairsAlike o p
  RepliesAlike Cleared Cleared = Unit {0}
  RepliesAlike (Count m) (Count n) = m ≡ n
  RepliesAlike q r = ⊥

  -- both are the same call of a map, with equal keys and alike values
  abbrev pub MapCallsAlike : MapCall K V → MapCall K V → Type 0
  MapCallsAlike (Insert k v) (Insert l w) = (keys k l ≡ true) × Alike values v w
  MapCallsAlike (Upsert k v) (Upsert l w) = (keys k l ≡ true) × Alike values v w
  MapCallsAlike (Replace k) (Replace l) = keys k l ≡ true
  MapCallsAlike (Read k) (Read l) = keys k l ≡ true
  MapCallsAlike (Contains k) (Contains l) = keys k l ≡ true
  MapCallsAlike (Remove k) (Remove l) = keys k l ≡ true
  MapCallsAlike Clear Clear = Unit {0}
  MapCallsAlike Len Len = Unit {0}
  MapCallsAlike a b = ⊥
