-- Copies that mean the same as their originals.
use Rattle.std.specs.Prelude.{◌≡◌, Bool, true, ◌⊎◌, Option, IsSome}

-- each clone equals its original
abbrev pub ClonesEqual : {X : Type 0} → (X → X → Type 0) → (X → X → Bool) → Type 0
ClonesEqual {X} is_clone eq = (x y : X) → is_clone x y → eq x y ≡ true

-- y is x, or equals x
abbrev pub Alike : {X : Type 0} → (X → X → Bool) → X → X → Type 0
Alike eq x y = (y ≡ x) ⊎ (eq x y ≡ true)

-- what a call does, if the reply that the caller gets stems from the reply that the step gives
abbrev pub Answers : {S C R : Type 0} → (C → R → R → Type 0) → (S → C → R → S → Type 0) → S → C → R → S → Type 0
Answers {R = R} stems moves old call reply new = (given : R) × stems call given reply × moves old call given new

-- what a clone of the call does
abbrev pub ByClone : {S C R : Type 0} → (C → C → Type 0) → (S → C → R → S → Type 0) → S → C → R → S → Type 0
ByClone {C = C} is_clone moves old call reply new = (copy : C) × is_clone call copy × moves old copy reply new

-- what some call and reply do that are alike to this call and reply
abbrev pub Means : {S C R : Type 0} → (C → C → Bool) → (R → R → Bool) → (S → C → R → S → Type 0) → S → C → R → S → Type 0
Means {C = C} {R = R} calls replies moves old call reply new = (made : C) × (given : R) × Alike calls made call × Alike replies given reply × moves old made given new

-- a clone of the value may be refused
abbrev pub MayNotClone : {X : Type 0} → (X → Type 0) → X → Type 0
MayNotClone is_infallible x = is_infallible x → ⊥

-- a clone of the call, and a reply that equals the given reply
abbrev pub AreCopies : {C R : Type 0} → (C → C → Type 0) → (R → R → Bool) → C → R → C → R → Type 0
AreCopies is_clone eq call reply copy given = is_clone call copy × (eq reply given ≡ true)

-- memory may be refused when a clone of the call is made: for that clone, for what the clone does, or, if the clone
-- has a key, for a clone of its reply
abbrev pub MayStop : {S C R K : Type 0} → (S → C → Type 0) → (C → Option K) → (S → C → R) → (C → C → Type 0) → (C → Type 0) → (R → Type 0) → S → C → Type 0
MayStop {C = C} may_refuse key_of answer is_clone is_infallible replies s call = MayNotClone is_infallible call ⊎ ((copy : C) × is_clone call copy × (may_refuse s copy ⊎ (IsSome (key_of copy) × MayNotClone replies (answer s copy))))

-- equal values are the same value
abbrev pub AreSame : {X : Type 0} → (X → X → Bool) → Type 0
AreSame {X} eq = (x y : X) → eq x y ≡ true → y ≡ x
