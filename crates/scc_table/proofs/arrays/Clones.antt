-- Clones of the entries of both arrays.
use Rattle.std.proofs.Common.{◌≡◌, ℕ, zero, suc, ◌*◌, ◌^◌, ◌<◌, ◌≤◌, ◌++◌, List, [], ◌∷◌, length, get_or, set, refl, sym, ap, ◌∙◌, subst, arith, length-append}
use Rattle.std.specs.List.{AllZip, flat_map, swap}
use Rattle.std.specs.List.Sorted.{IsPermutation, SwapsInRange, apply_swaps}
use Rattle.std.proofs.lemmas.List.{get_or_past}
use Rattle.std.proofs.lemmas.List.Elements.{AllZip-get_or, length_all_zip}
use Rattle.std.proofs.lemmas.List.Sorted.{IsPermutation-append_right, IsPermutation-sym, IsPermutation-trans, length_permutation}
use native.Mathlib.Decide.{dec_lt}
use Rattle.scc_array.specs.Shelves.{shelf_of}
use Rattle.scc_array.specs.Shelf.{Shelf, empty_shelf, shelf_entries}
use Rattle.scc_common.specs.Clones.{AddsClones, HasClones}
use Rattle.scc_common.specs.Contents.{Contents, entries, bucket_count, settings_of}
use Rattle.scc_buckets.specs.Tables.{overflow_in}
use Rattle.scc_draining.specs.Moves.{AreOwn}
use Rattle.scc_draining.proofs.FromBuckets.{few-each}

zip-set : {E : Type 0} (R : E → E → Type 0) (xs cs : List E) (i : ℕ) (x c : E) → AllZip R xs cs → R x c → AllZip R (set xs i x) (set cs i c)
zip-set R [] [] zero x c h r = tt
zip-set R [] [] (suc i) x c h r = tt
zip-set R [] (d ∷ cs) i x c h r = absurd h
zip-set R (y ∷ xs) [] i x c h r = absurd h
zip-set R (y ∷ xs) (d ∷ cs) zero x c h r = (r, h.1)
zip-set R (y ∷ xs) (d ∷ cs) (suc i) x c h r = (h.0, zip-set R xs cs i x c h.1 r)

zip-swap : {E : Type 0} (R : E → E → Type 0) (xs cs : List E) (i j : ℕ) → AllZip R xs cs → i < length xs → j < length xs → AllZip R (swap xs i j) (swap cs i j)
zip-swap R [] [] i j h p q = tt
zip-swap R [] (c ∷ cs) i j h p q = absurd h
zip-swap R (x ∷ xs) [] i j h p q = absurd h
zip-swap R (x ∷ xs) (c ∷ cs) i j h p q =
    zip-set R (set (x ∷ xs) i (get_or (x ∷ xs) j x)) (set (c ∷ cs) i (get_or (c ∷ cs) j c)) j (get_or (x ∷ xs) i x) (get_or (c ∷ cs) i c)
    (zip-set R (x ∷ xs) (c ∷ cs) i (get_or (x ∷ xs) j x) (get_or (c ∷ cs) j c) h (AllZip-get_or R (x ∷ xs) (c ∷ cs) j x c h q))
    (AllZip-get_or R (x ∷ xs) (c ∷ cs) i x c h p)

zip-swaps : {E : Type 0} (R : E → E → Type 0) (xs cs : List E) (ps : List (ℕ × ℕ)) → AllZip R xs cs → SwapsInRange (length xs) ps → AllZip R (apply_swaps xs ps) (apply_swaps cs ps)
zip-swaps R xs cs [] h r = h
zip-swaps R xs cs (p ∷ ps) h r =
    let l : length xs ≡ length (apply_swaps xs ps) = sym (length_permutation xs (apply_swaps xs ps) (record { moves = ps; below = r.2; is = refl })) in
    zip-swap R (apply_swaps xs ps) (apply_swaps cs ps) p.0 p.1 (zip-swaps R xs cs ps h r.2) (subst (λ n. p.0 < n) l r.0) (subst (λ n. p.1 < n) l r.1)

zip-both : {E : Type 0} (R : E → E → Type 0) (xs cs ys ds : List E) → AllZip R xs cs → AllZip R ys ds → AllZip R (xs ++ ys) (cs ++ ds)
zip-both R [] [] ys ds h k = k
zip-both R [] (c ∷ cs) ys ds h k = absurd h
zip-both R (x ∷ xs) [] ys ds h k = absurd h
zip-both R (x ∷ xs) (c ∷ cs) ys ds h k = (h.0, zip-both R xs cs ys ds h.1 k)

-- clones of the entries of the current array and of those of the old array are together clones of all entries
pub clones-together : {E S : Type 0} (C : E → E → Type 0) (B : S → S → Type 0) (all c d e f : Contents E S) (olds : List (Shelf E)) → IsPermutation (flat_map shelf_entries olds ++ entries c) (entries all) → bucket_count all ≡ bucket_count c → settings_of all ≡ settings_of c
    → HasClones C B c d → AddsClones C (flat_map shelf_entries olds) d e → entries f ≡ entries e → bucket_count f ≡ bucket_count e → settings_of f ≡ settings_of e → HasClones C B all f
clones-together C B all c d e f olds gathered count settings h a same count-f settings-f =
    let es = flat_map shelf_entries olds in
    let zipped = zip-both C es a.copies (entries c) h.copies a.cloned h.cloned in
    let ms = gathered.moves in
    let moved = apply_swaps (a.copies ++ h.copies) ms in
    let long : length (es ++ entries c) ≡ length (a.copies ++ h.copies) = length_all_zip C (es ++ entries c) (a.copies ++ h.copies) zipped in
    let perm : IsPermutation (a.copies ++ h.copies) moved = record { moves = ms; below = subst (λ n. SwapsInRange n ms) long gathered.below; is = refl } in
    let there : IsPermutation (a.copies ++ h.copies) (entries e) =
    IsPermutation-trans (a.copies ++ h.copies) (a.copies ++ entries d) (entries e) (IsPermutation-append_right a.copies h.copies (entries d) h.same) a.same in
    let now = settings-f ∙ a.settings in
    record {
      copies = moved;
      cloned = subst (λ l. AllZip C l moved) (sym gathered.is) (zip-swaps C (es ++ entries c) (a.copies ++ h.copies) ms zipped gathered.below);
      same = subst (λ l. IsPermutation moved l) (sym same) (IsPermutation-trans moved (a.copies ++ h.copies) (entries e) (IsPermutation-sym (a.copies ++ h.copies) moved perm) there);
      buckets = count-f ∙ a.buckets ∙ h.buckets ∙ sym count;
      hasher = subst (λ s. B s.hasher (settings_of f).hasher) (sym settings) (subst (λ s. B (settings_of c).hasher s.hasher) (sym now) h.hasher);
      skipped = ap (λ s. s.skipped) now ∙ h.skipped ∙ ap (λ s. s.skipped) (sym settings);
      asked = ap (λ s. s.asked) now ∙ h.asked ∙ ap (λ n. 32 * n) (sym count);
      reserved = ap (λ s. s.reserved) now ∙ h.reserved;
    }

-- the number of entries of each old bucket fits into a word
pub old-short : {E : Type 0} (hash : E → ℕ) (t : ℕ) (olds : List (Shelf E)) (aside : ℕ) → AreOwn hash t olds → overflow_in olds ≤ aside → aside < 2 ^ 62 → (j : ℕ) → length (shelf_entries (shelf_of olds j)) < 2 ^ 63
old-short hash t olds aside own over few j = elim (dec_lt j (length olds)) [
  | yes l ↦
      let w = (own.own j l).within in
      let o = few-each olds aside over few j in
      let n = length-append (shelf_of olds j).slots (shelf_of olds j).overflow in
      omega arith
  | no far ↦
      let e : shelf_of olds j ≡ empty_shelf = get_or_past olds j empty_shelf (omega arith) in
      let n : length (shelf_entries (shelf_of olds j)) ≡ 0 = ap (λ (b : Shelf _). length (shelf_entries b)) e in
      omega arith
]
