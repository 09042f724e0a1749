-- An entry that is inserted into one list, and sublists.
use Rattle.std.proofs.Common.{◌≡◌, ℕ, zero, suc, ◌+◌, ◌<◌, ◌≤◌, inl, Bool, true, cond, List, [], ◌∷◌, ◌++◌, length, set, get_or, Some, None, refl, sym, ap, ◌∙◌, subst, arith, append_assoc, length-set, get_or-set_same}
use Rattle.std.specs.List.{flat_map, count_by, insert, position, slice_get}
use Rattle.std.specs.List.Sorted.{IsPermutation}
use Rattle.std.specs.Option.{option_map}
use Rattle.std.proofs.lemmas.List.{append-nil}
use Rattle.std.proofs.lemmas.List.Edits.{length-insert}
use Rattle.std.proofs.lemmas.List.Sorted.{IsPermutation-insert, IsPermutation-trans, IsPermutation-append_comm, IsPermutation-append_left, IsPermutation-append_right}
use Rattle.std.proofs.lemmas.List.Sums.{sum_by-cons}
use Rattle.scc_common.specs.Contents.{Contents, entries, bucket_count, list_of, lists_of}
use Rattle.scc_buckets.specs.OneList.{IsPutIn}
use Rattle.scc_buckets.specs.Places.{IsInsertedAtSpot, IsSpot}
use Rattle.scc_common.specs.Steps.{Holds}
use Rattle.scc_buckets.specs.declared.place.Place.{Place}
use Rattle.scc_buckets.proofs.FindingLemmas.{position_hit, position_cons}
use Rattle.scc_buckets.proofs.Inserts.{none_left}
use Rattle.scc_buckets.proofs.PairSplits.{by_answer}
use Rattle.scc_buckets.proofs.Spots.{place-get}
use Rattle.scc_draining.proofs.Sublists.{Sub, none, keep, skip, keep_all, skip_all}

-- if no element of a list passes p, no element of a sublist passes p
pub absent-sub : {X : Type 0} (p : X → Bool) {xs ys : List X} → Sub xs ys → position p ys ≡ None → position p xs ≡ None
absent-sub p none h = h
absent-sub p (keep {x} {xs} {ys} s) h = by_answer (p x)
    (λ q. absurd (let z : Some 0 ≡ None = sym (position_hit p x ys q) ∙ h in cc))
    (λ q. position_cons p x xs q ∙ ap (option_map suc) (absent-sub p s (none_left (position p ys) (sym (position_cons p x ys q) ∙ h))))
absent-sub p (skip {y} {xs} {ys} s) h = by_answer (p y)
    (λ q. absurd (let z : Some 0 ≡ None = sym (position_hit p y ys q) ∙ h in cc))
    (λ q. absent-sub p s (none_left (position p ys) (sym (position_cons p y ys q) ∙ h)))

-- a sublist has no more elements that pass p than the list
pub count-sub : {X : Type 0} (p : X → Bool) {xs ys : List X} → Sub xs ys → count_by p xs ≤ count_by p ys
count-sub p none = omega arith
count-sub {X} p (keep {x} {xs} {ys} s) =
    let f : X → ℕ = λ z. cond (p z) 1 0 in
    let a = sum_by-cons f x xs in
    let b = sum_by-cons f x ys in
    let r : count_by p xs ≤ count_by p ys = count-sub p s in
    omega arith
count-sub {X} p (skip {y} {xs} {ys} s) =
    let f : X → ℕ = λ z. cond (p z) 1 0 in
    let b = sum_by-cons f y ys in
    let r : count_by p xs ≤ count_by p ys = count-sub p s in
    omega arith

pub count-whole : {X : Type 0} (p : X → Bool) (xs : List X) → ((j : ℕ) (d : X) → j < length xs → p (get_or xs j d) ≡ true) → count_by p xs ≡ length xs
count-whole p [] h = refl
count-whole {X} p (x ∷ xs) h =
    let f : X → ℕ = λ z. cond (p z) 1 0 in
    let one : f x ≡ 1 = ap (λ (v : Bool). cond {A = ℕ} v 1 0) (h 0 x (omega arith)) in
    let a = sum_by-cons f x xs in
    let r : count_by p xs ≡ length xs = count-whole p xs (λ j d l. h (suc j) d (omega arith)) in
    omega arith

-- each list is a sublist of all lists joined
pub one-sub : {X : Type 0} (ls : List (List X)) (i : ℕ) → i < length ls → Sub (get_or ls i []) (flat_map (λ l. l) ls)
one-sub [] i l = absurd (omega arith)
one-sub (x ∷ ls) zero l = subst (λ z. Sub z (x ++ flat_map (λ y. y) ls)) (append-nil x) (keep_all x (subst (Sub []) (append-nil (flat_map (λ y. y) ls)) (skip_all (flat_map (λ y. y) ls) none)))
one-sub (x ∷ ls) (suc i) l = skip_all x (one-sub ls i (omega arith))

flat-put : {X : Type 0} (ls : List (List X)) (i slot : ℕ) (e : X) → i < length ls → IsPermutation (e ∷ flat_map (λ l. l) ls) (flat_map (λ l. l) (set ls i (insert (get_or ls i []) slot e)))
flat-put [] i slot e l = absurd (omega arith)
flat-put (x ∷ ls) zero slot e l = IsPermutation-append_left (flat_map (λ y. y) ls) (e ∷ x) (insert x slot e) (IsPermutation-insert x slot e)
flat-put (x ∷ ls) (suc i) slot e l =
    let rest = flat_map (λ y. y) ls in
    let later = flat_map (λ y. y) (set ls i (insert (get_or ls i []) slot e)) in
    let moved : IsPermutation (e ∷ (x ++ rest)) ((x ++ e ∷ []) ++ rest) = IsPermutation-append_left rest (e ∷ x) (x ++ e ∷ []) (IsPermutation-append_comm (e ∷ []) x) in
    let turned : (x ++ e ∷ []) ++ rest ≡ x ++ (e ∷ rest) = append_assoc x (e ∷ []) rest in
    let inner : IsPermutation (x ++ (e ∷ rest)) (x ++ later) = IsPermutation-append_right x (e ∷ rest) later (flat-put ls i slot e (omega arith)) in
    IsPermutation-trans (e ∷ (x ++ rest)) (x ++ (e ∷ rest)) (x ++ later) (subst (IsPermutation (e ∷ (x ++ rest))) turned moved) inner

get-insert : {X : Type 0} (xs : List X) (k : ℕ) (x : X) → k ≤ length xs → slice_get (insert xs k x) k ≡ Some x
get-insert xs zero x l = refl
get-insert [] (suc k) x l = absurd (omega arith)
get-insert (y ∷ xs) (suc k) x l = get-insert xs k x (omega arith)

module _ {E S : Type 0} (c : Contents E S) (i : ℕ) (e : E) (d : Contents E S) (p : Place) (put : IsPutIn c i e d p) (l : i < bucket_count c) where
  pub put-count : bucket_count d ≡ bucket_count c
  unfolding bucket_count lists_of list_of
  put-count = ap length put.lists ∙ length-set c.lists i (insert (get_or c.lists i []) p.slot e)

  pub put-list : list_of d i ≡ insert (list_of c i) p.slot e
  unfolding bucket_count lists_of list_of
  put-list = ap (λ ls. get_or ls i []) put.lists ∙ get_or-set_same c.lists i (insert (get_or c.lists i []) p.slot e) [] l

  pub put-permuted : IsPermutation (e ∷ entries c) (entries d)
  unfolding entries bucket_count lists_of list_of
  put-permuted = subst (λ ls. IsPermutation (e ∷ flat_map (λ x. x) c.lists) (flat_map (λ x. x) ls)) (sym put.lists) (flat-put c.lists i p.slot e l)

  pub put-holds : Holds c (e ∷ entries c) d
  put-holds = record {
    same = put-permuted;
    size = record { lawful = inl put-count; minimum = λ less. absurd (omega (arith, put-count)) };
    settings = put.settings;
  }

  pub put-within : IsSpot d p
  put-within = record {
    bucket = omega (arith, put.bucket, put-count);
    slot =
        let here : length (list_of d p.bucket) ≡ length (list_of c i) + 1 = ap (λ k. length (list_of d k)) put.bucket ∙ ap length put-list ∙ length-insert (list_of c i) p.slot e put.slot in
        omega (arith, put.slot);
  }

  -- in the list of its bucket, the inserted entry e stands at the slot of p
  pub put-here : slice_get (list_of d p.bucket) p.slot ≡ Some e
  put-here = ap (λ k. slice_get (list_of d k) p.slot) put.bucket ∙ ap (λ z. slice_get z p.slot) put-list ∙ get-insert (list_of c i) p.slot e put.slot

  -- among all entries, the inserted entry e stands at the spot p
  pub put-inserted : IsInsertedAtSpot c e d p
  put-inserted = record {
    holds = put-holds;
    within = put-within;
    here = place-get d p put-within e put-here;
  }
