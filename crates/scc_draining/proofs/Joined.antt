-- Old buckets whose entries all belong to one bucket of the new array.
use Rattle.std.proofs.Common.{◌≡◌, ◌==◌, ℕ, zero, suc, ◌+◌, ◌-◌, ◌*◌, ◌/◌, ◌%◌, ◌<◌, ◌≤◌, ◌⊎◌, inl, inr, Bool, true, false, IsTrue, Some, List, [], ◌∷◌, ◌++◌, length, take, drop, get_or, refl, sym, ap, ◌∙◌, subst, arith, length-append, eq-eqb}
use Rattle.std.specs.List.{All, filter, flat_map, slice_get}
use Rattle.std.proofs.lemmas.List.Elements.{filter_passes, All-get_or}
use Rattle.std.proofs.lemmas.Option.{slice_get_within}
use Rattle.scc_array.proofs.Windows.{same_or_not}
use Rattle.scc_array.specs.Shelves.{shelf_of}
use Rattle.scc_array.proofs.ListsLemmas.{get-is, get-left}
use Rattle.scc_array.specs.Shelf.{Shelf, shelf_entries}
use Rattle.scc_buckets.specs.Pour.{destined_for}
use Rattle.scc_common.specs.Routing.{bucket_number}
use Rattle.scc_buckets.proofs.PairSplits.{by_answer}
use Rattle.scc_buckets.proofs.Pours.{destined_append}
use Rattle.scc_draining.specs.Moves.{AreJoined, AreOwn, AreSiblings, IsWithinSources}
use Rattle.scc_draining.proofs.Counted.{total-start, total-end}
use Rattle.scc_draining.proofs.Drains.{flat-left, flat-more, flat-parts}
use Rattle.scc_draining.proofs.Numbers.{number-div}
use Rattle.scc_draining.proofs.Sublists.{filter-each}

-- a bucket of the doubled array whose number, halved, is j is one of two siblings
one-of : (j i k b : ℕ) → (i ≡ 2 * j) ⊎ (i ≡ 2 * j + 1) → AreSiblings i k → b / 2 ≡ j → (b ≡ i) ⊎ (b ≡ k)
one-of j i k b from two half =
    let low : b ≡ 2 * (b / 2) + b % 2 = omega arith in
    let rest : b % 2 < 2 = omega arith in
    elim two.1 [
      | inl s ↦
          let i0 = s.0 in let k0 = s.1 in
          let same : two.0 ≡ j = elim from [ inl f ↦ omega arith | inr f ↦ omega arith ] in
          elim (same_or_not (b % 2) 0) [ inl z ↦ inl (omega arith) | inr z ↦ inr (omega arith) ]
      | inr s ↦
          let i0 = s.0 in let k0 = s.1 in
          let same : two.0 ≡ j = elim from [ inl f ↦ omega arith | inr f ↦ omega arith ] in
          elim (same_or_not (b % 2) 0) [ inl z ↦ inr (omega arith) | inr z ↦ inl (omega arith) ]
    ]

-- if one of two siblings is a bucket of the doubled array, the other sibling is a bucket too
pub sibling-within : (m i k : ℕ) → i < 2 * m → AreSiblings i k → k < 2 * m
sibling-within m i k l two = elim two.1 [ inl s ↦ let i0 = s.0 in let k0 = s.1 in omega arith | inr s ↦ let i0 = s.0 in let k0 = s.1 in omega arith ]

-- if an element passes, the filtered list isn't empty
filter-some : {X : Type 0} (p : X → Bool) (xs : List X) (j : ℕ) (d : X) → j < length xs → p (get_or xs j d) ≡ true → filter p xs ≡ [] → ⊥
filter-some p [] j d l h e = omega arith
filter-some p (x ∷ xs) zero d l h e = let z : x ∷ filter p xs ≡ [] = rw h at e in cc
filter-some p (x ∷ xs) (suc j) d l h e = by_answer (p x) (λ q. let z : x ∷ filter p xs ≡ [] = rw q at e in cc) (λ q. filter-some p xs j d (omega arith) h (rw q at e))

no-parts : {X : Type 0} (xs ys : List X) → xs ++ ys ≡ [] → (xs ≡ []) × (ys ≡ [])
no-parts [] ys e = (refl, e)
no-parts (x ∷ xs) ys e = absurd (let z : x ∷ (xs ++ ys) ≡ [] = e in cc)

-- if no entry of an array belongs to a bucket, no entry of one old bucket belongs to it
none-there : {E : Type 0} (hash : E → ℕ) (t n i j : ℕ) (olds : List (Shelf E)) → j < length olds → destined_for hash t n i (flat_map shelf_entries olds) ≡ [] → destined_for hash t n i (shelf_entries (shelf_of olds j)) ≡ []
none-there hash t n i j olds l none =
    let xs = flat_map shelf_entries (take j olds) in
    let ys = shelf_entries (shelf_of olds j) in
    let zs = flat_map shelf_entries (drop (j + 1) olds) in
    let parts : flat_map shelf_entries olds ≡ xs ++ (ys ++ zs) = flat-parts j olds ∙ ap (λ r. xs ++ r) (flat-left j olds l) in
    let all = sym (ap (destined_for hash t n i) parts ∙ destined_append hash t n i xs (ys ++ zs)) ∙ none in
    let later = (no-parts _ _ all).1 in
    (no-parts _ _ (sym (destined_append hash t n i ys zs) ∙ later)).0

module _ {E : Type 0} (hash : E → ℕ) (t n i : ℕ) where
  are-joined : (first last : ℕ) (olds : List (Shelf E)) → AreOwn hash t olds → last ≤ length olds
      → ((s h : ℕ) → first ≤ bucket_number s (length olds) h → bucket_number s (length olds) h < last → bucket_number s n h ≡ i) → AreJoined hash t n i first last olds
  are-joined first last olds own within joined = record {
    all = λ j low high.
        let es = shelf_entries (shelf_of olds j) in
        filter-each (λ e. bucket_number t n (hash e) == i) es
        (λ k d lk.
        let at = (own.own j (omega arith)).routed k d lk in
        eq-eqb _ _ (joined t (hash (get_or es k d)) (omega (arith, at)) (omega (arith, at))));
  }

  -- if the array doubled and no entry of the sibling is left, the one old bucket has only entries of the target
  alone-joined : (first last k : ℕ) (olds : List (Shelf E)) → AreOwn hash t olds → last ≤ length olds → n ≡ 2 * length olds → last ≡ first + 1 → (i ≡ 2 * first) ⊎ (i ≡ 2 * first + 1) → AreSiblings i k
      → destined_for hash t n k (flat_map shelf_entries olds) ≡ [] → AreJoined hash t n i first last olds
  alone-joined first last k olds own within twice next from two none = record {
    all = λ j low high.
        let es = shelf_entries (shelf_of olds j) in
        let at : j ≡ first = omega arith in
        filter-each (λ e. bucket_number t n (hash e) == i) es
        (λ m d lm.
        let e = get_or es m d in
        let number = (own.own j (omega arith)).routed m d lm in
        let half : bucket_number t n (hash e) / 2 ≡ j = ap (λ z. bucket_number t z (hash e) / 2) twice ∙ number-div t (length olds) 2 (hash e) (omega arith) ∙ number in
        elim (one-of first i k (bucket_number t n (hash e)) from two (half ∙ at)) [
          | inl h ↦ eq-eqb _ _ h
          | inr h ↦ absurd (filter-some (λ x. bucket_number t n (hash x) == k) es m d lm (eq-eqb _ _ h) (none-there hash t n k j olds (omega arith) none))
        ]);
  }

  -- if the array shrank or doubled, the old buckets from `first` to `last` have only entries of the target
  pub whole-joined : (first last : ℕ) (olds : List (Shelf E)) (flags : List Bool) (whole : Bool) → AreOwn hash t olds → last ≤ length olds
      → (n < length olds → (s h : ℕ) → first ≤ bucket_number s (length olds) h → bucket_number s (length olds) h < last → bucket_number s n h ≡ i)
      → (n ≡ 2 * length olds → (last ≡ first + 1) × ((i ≡ 2 * first) ⊎ (i ≡ 2 * first + 1)))
      → ((k : ℕ) → k < n → get_or flags k false ≡ false → destined_for hash t n k (flat_map shelf_entries olds) ≡ [])
      → (IsTrue whole → (n < length olds) ⊎ ((n ≡ 2 * length olds) × (k : ℕ) × (AreSiblings i k) × (k < n) × (get_or flags k false ≡ false)))
      → IsTrue whole → AreJoined hash t n i first last olds
  whole-joined first last olds flags whole own within joined doubled not_waiting answer is = elim (answer is) [
    | inl less ↦ are-joined first last olds own within (joined less)
    | inr z ↦
        let d = doubled z.0 in
        alone-joined first last z.1 olds own within z.0 d.0 d.1 z.2 (not_waiting z.1 z.3 z.4)
  ]

  -- each entry of such an old bucket belongs to the target
  pub joined-flag : (s : Shelf E) (k : ℕ) (e : E) → destined_for hash t n i (shelf_entries s) ≡ shelf_entries s → slice_get s.slots k ≡ Some e → true ≡ (bucket_number t n (hash e) == i)
  joined-flag s k e all got =
      let es = shelf_entries s in
      let there : slice_get es k ≡ Some e = get-left s.slots s.overflow k e got in
      let p = All-get_or (λ y. (bucket_number t n (hash y) == i) ≡ true) es k e (slice_get_within es k e there) (subst (All (λ y. (bucket_number t n (hash y) == i) ≡ true)) all (filter_passes (λ y. bucket_number t n (hash y) == i) es)) in
      sym p ∙ ap (λ y. bucket_number t n (hash y) == i) (sym (get-is es k e e there))

  -- the entries of the target in these old buckets are counted by the lengths of the buckets
  pub total-joined : (first last : ℕ) (olds : List (Shelf E)) → AreJoined hash t n i first last olds → last ≤ length olds → length (destined_for hash t n i (flat_map shelf_entries (take first olds))) ≡ 0
      → (k : ℕ) → first + k ≤ last → length (flat_map shelf_entries (take first olds)) + length (destined_for hash t n i (flat_map shelf_entries (take (first + k) olds))) ≡ length (flat_map shelf_entries (take (first + k) olds))
  total-joined first last olds joined within none zero l = let z : first + 0 ≡ first = omega arith in rw z (omega (arith, none))
  total-joined first last olds joined within none (suc k) l =
      let m = first + k in
      let rest = total-joined first last olds joined within none k (omega arith) in
      let xs = flat_map shelf_entries (take m olds) in
      let ys = shelf_entries (shelf_of olds m) in
      let next : first + suc k ≡ m + 1 = omega arith in
      let all = flat-more m olds (omega arith) in
      let n1 = ap length all ∙ length-append xs ys in
      let n2 = ap (λ z. length (destined_for hash t n i z)) all ∙ ap length (destined_append hash t n i xs ys) ∙ length-append (destined_for hash t n i xs) (destined_for hash t n i ys) ∙ ap (λ z. length (destined_for hash t n i xs) + length z) (joined.all m (omega arith) (omega arith)) in
      rw next (omega (arith, rest, n1, n2))

  pub total-row : (first last : ℕ) (olds : List (Shelf E)) → IsWithinSources hash t n i first last olds → AreJoined hash t n i first last olds
      → length (flat_map shelf_entries (take first olds)) + length (destined_for hash t n i (flat_map shelf_entries olds)) ≡ length (flat_map shelf_entries (take last olds))
  total-row first last olds sources joined =
      let end : first + (last - first) ≡ last = omega (arith, sources.order) in
      let row = total-joined first last olds joined sources.within (total-start hash t n i first last olds sources) (last - first) (omega (arith, end)) in
      let at = rw end at row in
      omega (arith, at, total-end hash t n i first last olds sources)
