-- Merges of histories, as lists of places, and the merge in stamp order.
use Rattle.std.specs.Prelude.{◌≡◌, ℕ, ◌+◌, ◌<◌, ◌≤◌, List, [], ◌∷◌, length, map, min, Option, Some, None, slice_get, slice_set, slice_index, ◌⊎◌, drop}
use Rattle.std.specs.List.{AllByRecursion, AllPairs, filter_map}
use Rattle.scc_calls.specs.declared.steps.Step.{Step}
use Rattle.scc_calls.specs.declared.steps.Step.TheVariants.{Call, Resize}

-- `done` says how many steps of each list are done; each place is the next place of its list, and at the end no step
-- is left
abbrev pub MergeFrom : List ℕ → List ℕ → List (ℕ × ℕ) → Type 0
MergeFrom lengths done [] = done ≡ lengths
MergeFrom lengths done (place ∷ places) = (slice_get done place.0 ≡ Some place.1) × (place.1 < slice_index lengths place.0) × MergeFrom lengths (slice_set done place.0 (place.1 + 1)) places

-- all places (stripe, index) of the lists, the places of each list in their order
abbrev pub IsMergeOrder : {X : Type 0} → List (List X) → List (ℕ × ℕ) → Type 0
IsMergeOrder histories places = MergeFrom (map length histories) (map (λ _. 0) histories) places

-- item j of a list that may be missing, beside the number i of the list
abbrev pub at_list : {X : Type 0} → Option (List X) → ℕ → ℕ → Option (ℕ × X)
at_list None i j = None
at_list (Some xs) i j = at_item (slice_get xs j) i
  where
    at_item : {X : Type 0} → Option X → ℕ → Option (ℕ × X)
    at_item None i = None
    at_item (Some x) i = Some (i, x)

-- the steps at these places, each beside its stripe
abbrev pub steps_at : {X : Type 0} → List (List X) → List (ℕ × ℕ) → List (ℕ × X)
steps_at histories places = filter_map (λ (p : ℕ × ℕ). at_list (slice_get histories p.0) p.0 p.1) places

-- the stamp of a step
abbrev pub stamp_of : {A R : Type 0} → Step A R → ℕ
stamp_of (Call stamp pass call reply) = stamp
stamp_of (Resize stamp buckets) = stamp

-- the least stamp among these steps
abbrev pub least : {A R : Type 0} → List (Step A R) → ℕ
least [] = 18446744073709551615
least (step ∷ steps) = min (stamp_of step) (least steps)

-- the least stamp of a history from step j on; 0 if there is no history
abbrev pub number_in : {A R : Type 0} → Option (List (Step A R)) → ℕ → ℕ
number_in None j = 0
number_in (Some history) j = least (drop j history)

-- the order number of the step at a place: the least stamp of this step and of the later steps of its history
abbrev pub order_number : {A R : Type 0} → List (List (Step A R)) → ℕ × ℕ → ℕ
order_number histories place = number_in (slice_get histories place.0) place.1

-- place p doesn't come after place q, by order number and, if the order numbers are equal, by stripe
abbrev pub Comes : {A R : Type 0} → List (List (Step A R)) → ℕ × ℕ → ℕ × ℕ → Type 0
Comes histories p q = (order_number histories p < order_number histories q) ⊎ ((order_number histories p ≡ order_number histories q) × (p.0 ≤ q.0))

-- a merge along which no place comes after a later one
abbrev pub IsStampOrder : {A R : Type 0} → List (List (Step A R)) → List (ℕ × ℕ) → Type 0
IsStampOrder histories places = IsMergeOrder histories places × AllPairs (Comes histories) places

-- a stamp order, and there is no other
abbrev pub IsOnlyStampOrder : {A R : Type 0} → List (List (Step A R)) → List (ℕ × ℕ) → Type 0
IsOnlyStampOrder histories places = IsStampOrder histories places × ((others : List (ℕ × ℕ)) → IsStampOrder histories others → others ≡ places)

-- if both steps are calls, they stand in the order of their stamps and, if the stamps are equal, of their stripes i
-- and j
abbrev pub StampsComeAt : {A R : Type 0} → Option (Step A R) → Option (Step A R) → ℕ → ℕ → Type 0
StampsComeAt (Some (Call s p c r)) (Some (Call t q d u)) i j = (s < t) ⊎ ((s ≡ t) × (i ≤ j))
StampsComeAt step other i j = Unit {0}

-- the step at a place
abbrev pub step_at : {X : Type 0} → List (List X) → ℕ × ℕ → Option X
step_at histories place = in_history (slice_get histories place.0) place.1
  where
    in_history : {X : Type 0} → Option (List X) → ℕ → Option X
    in_history None j = None
    in_history (Some history) j = slice_get history j

-- along these places the calls stand in the order of their stamps and, if stamps are equal, of their stripes
abbrev pub StampsRise : {A R : Type 0} → List (List (Step A R)) → List (ℕ × ℕ) → Type 0
StampsRise histories places = AllPairs (λ p q. StampsComeAt (step_at histories p) (step_at histories q) p.0 q.0) places

-- at each of these places there is a step
abbrev pub AllStand : {X : Type 0} → List (List X) → List (ℕ × ℕ) → Type 0
AllStand histories places = AllByRecursion (λ p. (p.0 < length histories) × (p.1 < slice_index (map length histories) p.0)) places
