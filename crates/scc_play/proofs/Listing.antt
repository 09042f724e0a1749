-- Contents that are taken out of one part after another.
use Rattle.std.proofs.Common.{◌≡◌, List, [], ◌∷◌, ◌++◌, ap, ◌∙◌, sym, subst}
use Rattle.std.specs.List.{flat_map}
use Rattle.std.specs.List.Sorted.{IsPermutation}
use Rattle.std.proofs.lemmas.List.{append_assoc, append-nil}
use Rattle.std.proofs.lemmas.List.Concat.{flat_map-cons}
use Rattle.std.proofs.lemmas.List.Sorted.{IsPermutation-append_left, IsPermutation-append_right, IsPermutation-trans}

module _ {C X : Type 0} (shown : C → List X) where
  -- the contents of the first part that is left are appended to the items so far
  pub taken-more : (all : List X) (left : List C) (part : C) (rest : List C) (old new more : List X) → left ≡ part ∷ rest → IsPermutation all (old ++ flat_map shown left) → new ≡ old ++ more → IsPermutation (shown part) more
      → IsPermutation all (new ++ flat_map shown rest)
  taken-more all left part rest old new more first before added here =
      let P : List X → List X → Type 0 = IsPermutation in
      let rs = flat_map shown rest in
      let split : flat_map shown left ≡ shown part ++ rs = ap (λ l. flat_map shown l) first ∙ flat_map-cons shown part rest in
      let start : P all (old ++ (shown part ++ rs)) = subst (λ l. P all (old ++ l)) split before in
      let step : P (old ++ (shown part ++ rs)) (old ++ (more ++ rs)) = IsPermutation-append_right old (shown part ++ rs) (more ++ rs) (IsPermutation-append_left rs (shown part) more here) in
      let moved : old ++ (more ++ rs) ≡ new ++ rs = sym (append_assoc old more rs) ∙ ap (λ l. l ++ rs) (sym added) in
      subst (P all) moved (IsPermutation-trans all (old ++ (shown part ++ rs)) (old ++ (more ++ rs)) start step)

  -- if no part is left, the items so far are all items
  pub taken-all : (all : List X) (left : List C) (items : List X) → left ≡ [] → IsPermutation all (items ++ flat_map shown left) → IsPermutation all items
  taken-all all left items none before =
      let P : List X → Type 0 = IsPermutation all in
      subst P (append-nil items) (subst (λ l. P (items ++ flat_map shown l)) none before)
