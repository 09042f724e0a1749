-- Clones that are added one after another.
use Rattle.std.proofs.Common.{◌≡◌, ℕ, suc, ◌*◌, ◌<◌, List, [], ◌∷◌, ◌++◌, length, take, get_or, add-one, zero, ◌+◌, arith, refl, sym, ap, subst, ◌∙◌, inl, inr}
use Rattle.std.specs.List.{AllZip}
use Rattle.std.specs.List.Sorted.{IsPermutation}
use Rattle.std.proofs.lemmas.List.Sorted.{IsPermutation-append_comm, IsPermutation-append_left, IsPermutation-append_right, IsPermutation-trans, IsPermutation-refl}
use Rattle.scc_common.specs.Clones.{AddsClones, HasClones}
use Rattle.scc_common.specs.Contents.{Contents, entries, bucket_count, settings_of}
use Rattle.scc_common.specs.Sizes.{IsLawful, IsBucketCount}

zip-append : {E : Type 0} (C : E → E → Type 0) (xs cs ys ds : List E) → AllZip C xs cs → AllZip C ys ds → AllZip C (xs ++ ys) (cs ++ ds)
zip-append C [] [] ys ds h k = k
zip-append C [] (c ∷ cs) ys ds h k = absurd h
zip-append C (x ∷ xs) [] ys ds h k = absurd h
zip-append C (x ∷ xs) (c ∷ cs) ys ds h k = (h.0, zip-append C xs cs ys ds h.1 k)

append-nil : {E : Type 0} (xs : List E) → xs ++ [] ≡ xs
append-nil [] = refl
append-nil (x ∷ xs) = ap (λ l. x ∷ l) (append-nil xs)

append-assoc : {E : Type 0} (xs ys zs : List E) → (xs ++ ys) ++ zs ≡ xs ++ (ys ++ zs)
append-assoc [] ys zs = refl
append-assoc (x ∷ xs) ys zs = ap (λ l. x ∷ l) (append-assoc xs ys zs)

module _ {E S : Type 0} (C : E → E → Type 0) where
  pub adds-none : (c : Contents E S) → AddsClones C [] c c
  adds-none c = record { copies = []; cloned = tt; same = IsPermutation-refl (entries c); buckets = refl; settings = refl; noted = refl }

  pub adds-more : (xs ys : List E) (c d e : Contents E S) → AddsClones C xs c d → AddsClones C ys d e → AddsClones C (xs ++ ys) c e
  adds-more xs ys c d e a b =
      let swapped = IsPermutation-append_left (entries c) (a.copies ++ b.copies) (b.copies ++ a.copies) (IsPermutation-append_comm a.copies b.copies) in
      let moved = IsPermutation-append_right b.copies (a.copies ++ entries c) (entries d) a.same in
      record {
        copies = a.copies ++ b.copies;
        cloned = zip-append C xs a.copies ys b.copies a.cloned b.cloned;
        same = IsPermutation-trans ((a.copies ++ b.copies) ++ entries c) (b.copies ++ entries d) (entries e)
            (IsPermutation-trans ((a.copies ++ b.copies) ++ entries c) ((b.copies ++ a.copies) ++ entries c) (b.copies ++ entries d) swapped (subst (λ l. IsPermutation l (b.copies ++ entries d)) (sym (append-assoc b.copies a.copies (entries c))) moved))
            b.same;
        buckets = b.buckets ∙ a.buckets;
        settings = b.settings ∙ a.settings;
        noted = b.noted ∙ a.noted;
      }

  -- clones of all entries, added to an empty table, make a clone of the table
  pub adds-whole : (B : S → S → Type 0) (xs : List E) (h : S) (c d e : Contents E S) → entries c ≡ xs → entries d ≡ [] → bucket_count d ≡ bucket_count c → B (settings_of c).hasher h
      → settings_of d ≡ record { hasher = h; skipped = (settings_of c).skipped; asked = 32 * bucket_count c; reserved = 0 } → AddsClones C xs d e → HasClones C B c e
  adds-whole B xs h c d e same none count clone settings a =
      let now = a.settings ∙ settings in
      record {
        copies = a.copies;
        cloned = subst (λ l. AllZip C l a.copies) (sym same) a.cloned;
        same = subst (λ l. IsPermutation l (entries e)) (ap (λ l. a.copies ++ l) none ∙ append-nil a.copies) a.same;
        buckets = a.buckets ∙ count;
        hasher = subst (B (settings_of c).hasher) (sym (ap (λ s. s.hasher) now)) clone;
        skipped = ap (λ s. s.skipped) now;
        asked = ap (λ s. s.asked) now;
        reserved = ap (λ s. s.reserved) now;
      }

-- a lawful number of buckets that isn't 0 is the number of an array's buckets
pub array-of_some : (n : ℕ) → IsLawful n → (n ≡ 0 → ⊥) → IsBucketCount n
array-of_some n (inl none) some = absurd (some none)
array-of_some n (inr array) some = array

take-next : {X : Type 0} (xs : List X) (i : ℕ) (x : X) → i < length xs → x ≡ get_or xs i x → take (suc i) xs ≡ take i xs ++ x ∷ []
take-next [] i x l e = absurd (omega arith)
take-next (y ∷ xs) zero x l e = ap (λ z. z ∷ []) (sym e)
take-next (y ∷ xs) (suc i) x l e = ap (λ l. y ∷ l) (take-next xs i x (omega arith) e)

module _ {E S : Type 0} (C : E → E → Type 0) where
  -- the clone of the next entry is added after the clones of the first i entries
  pub adds-next : (xs : List E) (i : ℕ) (x : E) (c d e : Contents E S) → i < length xs → x ≡ get_or xs i x → AddsClones C (take i xs) c d → AddsClones C (x ∷ []) d e → AddsClones C (take (i + 1) xs) c e
  adds-next xs i x c d e l at a b =
      subst (λ ys. AddsClones C ys c e) (sym (ap (λ n. take n xs) (add-one i) ∙ take-next xs i x l at)) (adds-more C (take i xs) (x ∷ []) c d e a b)
