-- A whole that is the list of its parts: a step changes one part, the part of the call's key. It serves a kind in
-- which the order within a part means something.
use Rattle.std.proofs.Common.{◌≡◌, ℕ, List, [], ◌∷◌, ◌++◌, length, Option, Some, refl, sym, ap}
use Rattle.std.specs.Prelude.{slice_get, slice_set}
use Rattle.scc_calls.specs.Parts.{KeyRouted}

module _ {S A R K : Type 0} where
  -- the call moves the part to which its key belongs, and no other part
  abbrev pub PartMoves : (S → A → R → S → Type 0) → (A → Option K) → (K → ℕ) → ℕ → List S → A → R → List S → Type 0
  PartMoves moves key_of route i old call reply new =
      KeyRouted route i (key_of call) × ((before : S) × (after : S) × (slice_get old i ≡ Some before) × moves before call reply after × (new ≡ slice_set old i after))

-- the resize changes part i, and no other part
abbrev pub PartResizes : {S : Type 0} → (S → ℕ → S → Type 0) → ℕ → List S → ℕ → List S → Type 0
PartResizes {S} resizes i old buckets new = (before : S) × (after : S) × (slice_get old i ≡ Some before) × resizes before buckets after × (new ≡ slice_set old i after)

module _ {S : Type 0} where
  get_here : (before after : List S) (old : S) → slice_get (before ++ old ∷ after) (length before) ≡ Some old
  get_here [] after old = refl
  get_here (b ∷ before) after old = get_here before after old

  set_here : (before after : List S) (old new : S) → slice_set (before ++ old ∷ after) (length before) new ≡ before ++ new ∷ after
  set_here [] after old new = refl
  set_here (b ∷ before) after old new = ap (λ l. b ∷ l) (set_here before after old new)

  -- a step of the part between two lists of parts is a step of all these parts
  pub parted_call : {A R K : Type 0} (moves : S → A → R → S → Type 0) (key_of : A → Option K) (route : K → ℕ) (before after : List S) (old new : S) (call : A) (reply : R)
      → KeyRouted route (length before) (key_of call) → moves old call reply new → PartMoves moves key_of route (length before) (before ++ old ∷ after) call reply (before ++ new ∷ after)
  parted_call moves key_of route before after old new call reply key s = (key, (old, new, get_here before after old, s, sym (set_here before after old new)))

  -- a resize of the part between two lists of parts is a resize of all these parts
  pub parted_resize : (resizes : S → ℕ → S → Type 0) (before after : List S) (old new : S) (buckets : ℕ) → resizes old buckets new → PartResizes resizes (length before) (before ++ old ∷ after) buckets (before ++ new ∷ after)
  parted_resize resizes before after old new buckets s = (old, new, get_here before after old, s, sym (set_here before after old new))
