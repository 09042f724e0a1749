-- What a call on a list of pairs may find and leave. `leaves` says which lists may be left: for a container, also in
-- another order and after a resize, or for a state in a run.
use Rattle.std.specs.Prelude.{◌≡◌, Bool, List, ◌∷◌, None, Some, IsSome}
use Rattle.std.specs.Map.{set_value, set_key}
use Rattle.scc_common.specs.Pairs.{find, without}

module _ {K V : Type 0} (eq : K → K → Bool) (es : List (K × V)) where
  -- the key of p is missing, and p is added
  abbrev pub AddsPair : K × V → (List (K × V) → Type 0) → Type 0
  AddsPair p leaves = (find eq es p.0 ≡ None) × leaves (p ∷ es)

  -- a key equal to that of p is present; q, which is p, is handed back, and nothing changes
  abbrev pub HandsBack : K × V → K × V → (List (K × V) → Type 0) → Type 0
  HandsBack p q leaves = (q ≡ p) × IsSome (find eq es p.0) × leaves es

  -- a key equal to that of p is present; its value is replaced by that of p, and `old` is the old value
  abbrev pub SetsValue : K × V → V → (List (K × V) → Type 0) → Type 0
  SetsValue p old leaves = (k : K) × (find eq es p.0 ≡ Some (k, old)) × leaves (set_value (eq p.0) es p.1)

  -- a key equal to k is present, and is replaced by k; `old` is the old key, and the value stays
  abbrev pub SwapsKey : K → K → (V → List (K × V) → Type 0) → Type 0
  SwapsKey k old leaves = (v : V) × (find eq es k ≡ Some (old, v)) × leaves v (set_key (eq k) es k)

  -- no key equals k, and nothing changes
  abbrev pub LacksKey : K → (List (K × V) → Type 0) → Type 0
  LacksKey k leaves = (find eq es k ≡ None) × leaves es

  -- p, the pair whose key equals k, is taken out
  abbrev pub TakesPair : K → K × V → (List (K × V) → Type 0) → Type 0
  TakesPair k p leaves = (find eq es k ≡ Some p) × leaves (without eq es k)
