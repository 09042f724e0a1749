-- Walks over the places of a cache.
use Rattle.std.proofs.Common.{◌≡◌, ◌<◌, List, [], ◌∷◌, ◌++◌, length, map, refl, ap, ◌∙◌, arith, length-append}
use Rattle.std.specs.List.{flat_map, remove}
use Rattle.std.specs.List.Sorted.{IsPermutation}
use Rattle.std.proofs.lemmas.List.Edits.{length-remove}
use Rattle.std.proofs.lemmas.List.Sorted.{length_permutation}
use Rattle.std.proofs.lemmas.List.{nil_from_length}
use Rattle.scc_common.specs.Contents.{Contents, entries, bucket_count, lists_of}
use Rattle.scc_table.specs.Places.{IsPlace, index_of, spot_of}
use Rattle.scc_common.specs.Steps.{HoldsExactly}
use Rattle.scc_buckets.proofs.Standing.{index-below}
use Rattle.scc_buckets.specs.declared.place.Place.{Place}

-- if lists hold no element together, each list is empty
empty-lists : {X : Type 0} (ls ms : List (List X)) → flat_map (λ l. l) ms ≡ [] → length ms ≡ length ls → ms ≡ map (λ _. []) ls
empty-lists [] [] none e = refl
empty-lists [] (m ∷ ms) none e = absurd (omega arith)
empty-lists (l ∷ ls) [] none e = absurd (omega arith)
empty-lists {X} (l ∷ ls) (m ∷ ms) none e =
    let both = length-append m (flat_map (λ x. x) ms) in
    let zero : length (m ++ flat_map (λ x. x) ms) ≡ 0 = ap length none in
    let here : m ≡ [] = nil_from_length m (omega arith) in
    let rest : flat_map (λ x. x) ms ≡ [] = nil_from_length (flat_map (λ x. x) ms) (omega arith) in
    ap (λ y. y ∷ ms) here ∙ ap (λ y. let r : List (List X) = [] ∷ y in r) (empty-lists ls ms rest (omega arith))

pub empties : {E S : Type 0} (c d : Contents E S) → entries d ≡ [] → bucket_count d ≡ bucket_count c → lists_of d ≡ map (λ _. []) (lists_of c)
unfolding entries bucket_count lists_of
empties c d none e = empty-lists c.lists d.lists none e

module _ {E S : Type 0} (c d : Contents E S) (p : Place) (within : IsPlace c p) (out : HoldsExactly c (remove (entries c) (index_of c p)) d) where
  pub left-shorter : length (entries d) < length (entries c)
  left-shorter = let b = index-below c (spot_of c p) within in omega (arith, length-remove (entries c) (index_of c p) b, ap length out.exact)

pub none-permuted : {X : Type 0} (xs ys : List X) → IsPermutation xs ys → xs ≡ [] → ys ≡ []
none-permuted xs ys h e = nil_from_length ys (let n = length_permutation xs ys h in let m : length xs ≡ 0 = ap length e in omega arith)
