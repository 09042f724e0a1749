-- One old bucket whose entries are parted by flags. The flags say which entries belong to a target.
use Rattle.std.proofs.Common.{◌≡◌, ◌==◌, ℕ, zero, suc, ◌+◌, ◌<◌, ◌≤◌, Bool, true, false, not, cond, Some, None, List, [], ◌∷◌, ◌++◌, length, map, set, get_or, refl, sym, ap, ◌∙◌, inl, inr, arith, length-append}
use Rattle.std.specs.List.{slice_get, filter}
use Rattle.std.proofs.lemmas.List.{append-nil, map-append}
use Rattle.scc_array.specs.Shelves.{shelf_of}
use Rattle.scc_array.specs.Sifts.{picked, unflagged, shelf_unflagged, shelf_with}
use Rattle.scc_array.specs.Shelf.{Shelf, shelf_entries}
use Rattle.scc_buckets.proofs.Arrays.{put-is, put-own}
use Rattle.scc_buckets.specs.Pour.{destined_for, IsPacked}
use Rattle.scc_common.specs.Routing.{bucket_number, tag_of}
use Rattle.scc_buckets.specs.Tables.{IsOwn}
use Rattle.scc_draining.specs.Moves.{others_for, Pulls}

module _ {X : Type 0} where
  module _ (q : X → Bool) where
    -- if the flags say which elements pass, the picked elements are the filtered ones
    pub picked-filter : (fs : List Bool) (xs : List X) → ((j : ℕ) (x : X) → slice_get xs j ≡ Some x → slice_get fs j ≡ Some (q x)) → picked fs xs ≡ filter q xs
    picked-filter [] [] h = refl
    picked-filter (f ∷ fs) [] h = refl
    picked-filter [] (x ∷ xs) h = absurd (let z : None ≡ Some (q x) = h 0 x refl in cc)
    picked-filter (f ∷ fs) (x ∷ xs) h =
        let z : Some f ≡ Some (q x) = h 0 x refl in
        let e : f ≡ q x = cc in
        ap (λ b. cond b (x ∷ picked fs xs) (picked fs xs)) e ∙ ap (λ (l : List X). cond (q x) (x ∷ l) l) (picked-filter fs xs (λ j y. h (suc j) y))

    turned : (b : Bool) (ks : List X) (x : X) → cond b ks (x ∷ ks) ≡ cond (not b) (x ∷ ks) ks
    turned true ks x = refl
    turned false ks x = refl

    pub kept-filter : (fs : List Bool) (xs : List X) → ((j : ℕ) (x : X) → slice_get xs j ≡ Some x → slice_get fs j ≡ Some (q x)) → unflagged fs xs ≡ filter (λ x. not (q x)) xs
    kept-filter [] [] h = refl
    kept-filter (f ∷ fs) [] h = refl
    kept-filter [] (x ∷ xs) h = absurd (let z : None ≡ Some (q x) = h 0 x refl in cc)
    kept-filter (f ∷ fs) (x ∷ xs) h =
        let z : Some f ≡ Some (q x) = h 0 x refl in
        let e : f ≡ q x = cc in
        ap (λ b. cond b (unflagged fs xs) (x ∷ unflagged fs xs)) e ∙ ap (λ (l : List X). cond (q x) l (x ∷ l)) (kept-filter fs xs (λ j y. h (suc j) y)) ∙ turned (q x) (filter (λ x. not (q x)) xs) x

  pub picked-map : {Y : Type 0} (f : X → Y) (fs : List Bool) (xs : List X) → picked fs (map f xs) ≡ map f (picked fs xs)
  picked-map f [] xs = refl
  picked-map f (b ∷ fs) [] = refl
  picked-map f (b ∷ fs) (x ∷ xs) = ap (λ l. cond b (f x ∷ l) l) (picked-map f fs xs) ∙ (elim b as (λ c. cond c (f x ∷ map f (picked fs xs)) (map f (picked fs xs)) ≡ map f (cond c (x ∷ picked fs xs) (picked fs xs))) [ true ↦ refl | false ↦ refl ])

  pub kept-map : {Y : Type 0} (f : X → Y) (fs : List Bool) (xs : List X) → unflagged fs (map f xs) ≡ map f (unflagged fs xs)
  kept-map f [] xs = refl
  kept-map f (b ∷ fs) [] = refl
  kept-map f (b ∷ fs) (x ∷ xs) = ap (λ l. cond b l (f x ∷ l)) (kept-map f fs xs) ∙ (elim b as (λ c. cond c (map f (unflagged fs xs)) (f x ∷ map f (unflagged fs xs)) ≡ map f (cond c (unflagged fs xs) (x ∷ unflagged fs xs))) [ true ↦ refl | false ↦ refl ])

  -- each element that stays was in the list before
  pub kept-from : (fs : List Bool) (xs : List X) (j : ℕ) (d : X) → j < length (unflagged fs xs) → (k : ℕ) × (k < length xs) × (get_or (unflagged fs xs) j d ≡ get_or xs k d)
  kept-from [] xs j d l = absurd (omega arith)
  kept-from (f ∷ fs) [] j d l = absurd (omega arith)
  kept-from (true ∷ fs) (x ∷ xs) j d l = let r = kept-from fs xs j d l in (suc r.0, omega (arith, r.1), r.2)
  kept-from (false ∷ fs) (x ∷ xs) zero d l = (0, omega arith, refl)
  kept-from (false ∷ fs) (x ∷ xs) (suc j) d l = let r = kept-from fs xs j d (omega arith) in (suc r.0, omega (arith, r.1), r.2)

  pub picked-fewer : (fs : List Bool) (xs : List X) → length (picked fs xs) ≤ length xs
  picked-fewer [] xs = omega arith
  picked-fewer (f ∷ fs) [] = omega arith
  picked-fewer (f ∷ fs) (x ∷ xs) = let h = picked-fewer fs xs in elim f as (λ b. length (cond b (x ∷ picked fs xs) (picked fs xs)) ≤ suc (length xs)) [ true ↦ omega arith | false ↦ omega arith ]

  pub kept-fewer : (fs : List Bool) (xs : List X) → length (unflagged fs xs) ≤ length xs
  kept-fewer [] xs = omega arith
  kept-fewer (f ∷ fs) [] = omega arith
  kept-fewer (f ∷ fs) (x ∷ xs) = let h = kept-fewer fs xs in elim f as (λ b. length (cond b (unflagged fs xs) (x ∷ unflagged fs xs)) ≤ suc (length xs)) [ true ↦ omega arith | false ↦ omega arith ]

  pub no-elements : (xs : List X) → length xs ≡ 0 → xs ≡ []
  no-elements [] e = refl
  no-elements (x ∷ xs) e = absurd (omega arith)

module _ {E : Type 0} (hash : E → ℕ) (t n i j : ℕ) (olds : List (Shelf E)) (a : Shelf E) (fs : List Bool) (l : j < length olds) (bare : (shelf_of olds j).overflow ≡ []) (own : IsOwn hash t (length olds) j (shelf_of olds j)) (packed : IsPacked hash a)
    (room : length a.slots + length (shelf_of olds j).slots ≤ 32) (flags : (k : ℕ) (e : E) → slice_get (shelf_of olds j).slots k ≡ Some e → slice_get fs k ≡ Some (bucket_number t n (hash e) == i)) where
  abbrev s : Shelf E
  s = shelf_of olds j

  abbrev xs : List E
  xs = s.slots

  abbrev tag_by : E → ℕ
  tag_by e = tag_of (hash e)

  all-slots : shelf_entries s ≡ xs
  all-slots = ap (λ o. xs ++ o) bare ∙ append-nil xs

  destined-picked : destined_for hash t n i (shelf_entries s) ≡ picked fs xs
  destined-picked = ap (destined_for hash t n i) all-slots ∙ sym (picked-filter (λ e. bucket_number t n (hash e) == i) fs xs flags)

  others-kept : unflagged fs xs ++ s.overflow ≡ others_for hash t n i (shelf_entries s)
  others-kept = ap (λ o. unflagged fs xs ++ o) bare ∙ append-nil (unflagged fs xs) ∙ kept-filter (λ e. bucket_number t n (hash e) == i) fs xs flags ∙ ap (others_for hash t n i) (sym all-slots)

  kept-own : IsOwn hash t (length olds) j (shelf_unflagged fs s)
  kept-own = record {
    tagged = ap (unflagged fs) own.tagged ∙ kept-map tag_by fs xs;
    routed = λ k d h.
        let flat : unflagged fs xs ++ s.overflow ≡ unflagged fs xs = ap (λ o. unflagged fs xs ++ o) bare ∙ append-nil (unflagged fs xs) in
        let r = kept-from fs xs k d (let m = ap length flat in omega arith) in
        let m = ap length all-slots in
        ap (λ (z : List E). bucket_number t (length olds) (hash (get_or z k d))) flat ∙ ap (λ e. bucket_number t (length olds) (hash e)) (r.2 ∙ ap (λ z. get_or z r.0 d) (sym all-slots)) ∙ own.routed r.0 d (omega (arith, r.1));
    within = let f = kept-fewer fs xs in let w = own.within in omega arith;
  }

  -- the bucket `a` has no entries in its overflow list, or it takes no entries
  with-entries : shelf_entries (shelf_with a fs s) ≡ shelf_entries a ++ picked fs xs
  with-entries = elim packed.last [
    | inl full ↦
        let none : picked fs xs ≡ [] = let f = picked-fewer fs xs in no-elements (picked fs xs) (omega arith) in
        ap (λ z. (a.slots ++ z) ++ a.overflow) none ∙ ap (λ z. z ++ a.overflow) (append-nil a.slots) ∙ sym (append-nil (shelf_entries a)) ∙ ap (λ z. shelf_entries a ++ z) (sym none)
    | inr e ↦ ap (λ o. (a.slots ++ picked fs xs) ++ o) e ∙ append-nil (a.slots ++ picked fs xs) ∙ ap (λ z. z ++ picked fs xs) (sym (append-nil a.slots) ∙ ap (λ o. a.slots ++ o) (sym e))
  ]

  with-packed : IsPacked hash (shelf_with a fs s)
  with-packed =
      let n1 = length-append a.slots (picked fs xs) in let f = picked-fewer fs xs in
      record {
        last = elim packed.last [ inl h ↦ inl (omega arith) | inr e ↦ inr e ];
        tagged = ap (λ z. a.tags ++ picked fs z) own.tagged ∙ ap (λ z. a.tags ++ z) (picked-map tag_by fs xs) ∙ ap (λ z. z ++ map tag_by (picked fs xs)) packed.tagged ∙ sym (map-append tag_by a.slots (picked fs xs));
        within = omega arith;
      }

  module _ (news : List (Shelf E)) (put : news ≡ set olds j (shelf_unflagged fs s)) (b : Shelf E) (is : b ≡ shelf_with a fs s) where
    pub parted-pulls : Pulls hash t n i j olds a news b
    parted-pulls =
        let here = put-is olds j l news (shelf_unflagged fs s) put in
        record {
          same = put-own olds j l news (shelf_unflagged fs s) put;
          kept = ap shelf_entries here ∙ others-kept;
          own = rw here kept-own;
          overflow = let e = ap (λ (z : Shelf E). length z.overflow) here in omega arith;
          moved = rw is (record { entries_are = with-entries ∙ ap (λ z. shelf_entries a ++ z) (sym destined-picked); room = omega arith; packed = with-packed });
        }
