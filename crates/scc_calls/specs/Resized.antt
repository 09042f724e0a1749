-- One call with at most one resize, and at most one resize without a call.
use Rattle.std.specs.Prelude.{◌≡◌, ℕ, ◌<◌, ◌⊎◌, ◌==◌, MatchBool}

-- one call that gives the reply, with a growth before it or a shrink after it
abbrev pub MovesResized : {S C R : Type 0} → (S → ℕ) → (S → C → R → S → Type 0) → (S → ℕ → S → Type 0) → S → C → R → S → Type 0
MovesResized {S} size moves resizes old call reply new =
    ((size new ≡ size old) × moves old call reply new)
    ⊎ ((size old < size new) × ((mid : S) × resizes old (size new) mid × moves mid call reply new))
    ⊎ ((size new < size old) × ((mid : S) × moves old call reply mid × resizes mid (size new) new))

-- no call: the same state, or one resize to another number of buckets
abbrev pub Stays : {S : Type 0} → (S → ℕ) → (S → ℕ → S → Type 0) → S → S → Type 0
Stays size resizes old new = MatchBool (size old == size new) (new ≡ old) (resizes old (size new) new)
