-- The place of an entry among all entries.
use Rattle.std.proofs.Common.{◌≡◌, ℕ, zero, suc, ◌+◌, ◌-◌, ◌<◌, ◌≤◌, ◌≢◌, Bool, true, false, List, [], ◌∷◌, ◌++◌, length, take, map, get_or, refl, sym, ap, ◌∙◌, subst, arith, Option, Some, None, nat_lt, rules, length-append}
use Rattle.std.specs.List.{flat_map, position, position_or_len}
use Rattle.std.specs.Option.{option_map}
use Rattle.std.proofs.lemmas.List.{length-map, get_or_default, get_or-map, get_or-append_right, get_or_append_left}
use native.Mathlib.Decide.{dec_lt}
use Rattle.scc_array.specs.Shelf.{Shelf, shelf_entries, empty_shelf, HasTag}
use Rattle.scc_array.proofs.Search.{position_is, found, none_by}
use Rattle.scc_common.specs.Routing.{bucket_number, tag_of}
use Rattle.scc_buckets.specs.Tables.{IsOwn, IsBuckets}
use Rattle.scc_common.specs.Contents.{Contents, Settings, entries}
use Rattle.scc_buckets.specs.Places.{IsFoundAtSpot, index_of_spot}
use Rattle.scc_buckets.proofs.Views.{view_of, count-view, list-view, entries-view}

-- no element passes p
pub record NoneOf {X : Type 0} (p : X → Bool) (xs : List X) : Type 0 where
  pub fails : (j : ℕ) (d : X) → j < length xs → p (get_or xs j d) ≡ false

none_tail : {X : Type 0} (p : X → Bool) (x : X) (xs : List X) → NoneOf p (x ∷ xs) → NoneOf p xs
none_tail p x xs h = record { fails = λ j d l. h.fails (suc j) d (omega arith) }

none_head : {X : Type 0} (p : X → Bool) (x : X) (xs : List X) → NoneOf p (x ∷ xs) → p x ≡ false
none_head p x xs h = h.fails 0 x (omega arith)

none_append : {X : Type 0} (p : X → Bool) (xs ys : List X) → NoneOf p xs → NoneOf p ys → NoneOf p (xs ++ ys)
none_append p xs ys a b = record {
  fails = λ j d l. elim (dec_lt j (length xs)) [
    | yes q ↦ rw (get_or_append_left xs ys d j q) (a.fails j d q)
    | no q ↦ rw (get_or-append_right xs ys (length xs) j d refl (omega arith)) (b.fails (j - length xs) d (omega (arith, length-append xs ys)))
  ];
}

pub position_cons : {X : Type 0} (p : X → Bool) (x : X) (xs : List X) → p x ≡ false → position p (x ∷ xs) ≡ option_map suc (position p xs)
position_cons p x xs h =
    let n : ℕ = position_or_len p xs in
    let e : position_or_len p (x ∷ xs) ≡ suc n = rw h (omega arith) in
    elim (dec_lt n (length xs)) [
      | yes q ↦ found p (x ∷ xs) (suc n) (omega arith) e ∙ sym (ap (option_map suc) (found p xs n q refl))
      | no q ↦
          let far : nat_lt (suc n) (length (x ∷ xs)) ≡ false = let r : length (x ∷ xs) ≤ suc n = omega arith in search rules in
          let near : nat_lt n (length xs) ≡ false = let r : length xs ≤ n = omega arith in search rules in
          none_by p (x ∷ xs) (suc n) e far ∙ sym (ap (option_map suc) (none_by p xs n refl near))
    ]

pub position_hit : {X : Type 0} (p : X → Bool) (x : X) (xs : List X) → p x ≡ true → position p (x ∷ xs) ≡ Some 0
position_hit p x xs h = position_is p (x ∷ xs) 0 x (omega arith) (λ k l. absurd (omega arith)) h

pub position_none : {X : Type 0} (p : X → Bool) (xs : List X) → NoneOf p xs → position p xs ≡ None
position_none p [] h = refl
position_none p (x ∷ xs) h = position_cons p x xs (none_head p x xs h) ∙ ap (option_map suc) (position_none p xs (none_tail p x xs h))

map_zero : (q : Option ℕ) → q ≡ option_map (λ k. 0 + k) q
map_zero None = refl
map_zero (Some k) = let s : k ≡ 0 + k = omega arith in ap (λ x. Some x) s

map_add : (a b : ℕ) (n : ℕ) (q : Option ℕ) → n ≡ a + b → option_map (λ k. a + k) (option_map (λ k. b + k) q) ≡ option_map (λ k. n + k) q
map_add a b n None e = refl
map_add a b n (Some k) e = let s : a + (b + k) ≡ n + k = omega arith in ap (λ x. Some x) s

map_suc : (a : ℕ) (q : Option ℕ) → option_map suc (option_map (λ k. a + k) q) ≡ option_map (λ k. suc a + k) q
map_suc a None = refl
map_suc a (Some k) = let s : suc (a + k) ≡ suc a + k = omega arith in ap (λ x. Some x) s

position_skip : {X : Type 0} (p : X → Bool) (xs ys : List X) → NoneOf p xs → position p (xs ++ ys) ≡ option_map (λ k. length xs + k) (position p ys)
position_skip p [] ys h = map_zero (position p ys)
position_skip p (x ∷ xs) ys h =
    position_cons p x (xs ++ ys) (none_head p x xs h) ∙ ap (option_map suc) (position_skip p xs ys (none_tail p x xs h)) ∙ map_suc (length xs) (position p ys)

stop_at : {X : Type 0} (p : X → Bool) (x : X) (xs ys : List X) (b : Bool) → p x ≡ b → position p (xs ++ ys) ≡ position p xs → position p (x ∷ (xs ++ ys)) ≡ position p (x ∷ xs)
stop_at p x xs ys true e ih = position_hit p x (xs ++ ys) e ∙ sym (position_hit p x xs e)
stop_at p x xs ys false e ih = position_cons p x (xs ++ ys) e ∙ ap (option_map suc) ih ∙ sym (position_cons p x xs e)

position_stop : {X : Type 0} (p : X → Bool) (xs ys : List X) → NoneOf p ys → position p (xs ++ ys) ≡ position p xs
position_stop p [] ys h = position_none p ys h
position_stop p (x ∷ xs) ys h = stop_at p x xs ys (p x) refl (position_stop p xs ys h)

flat_none : {X : Type 0} (p : X → Bool) (ls : List (List X)) → ((j : ℕ) (d : List X) → j < length ls → NoneOf p (get_or ls j d)) → NoneOf p (flat_map (λ l. l) ls)
flat_none p [] f = record { fails = λ j d l. absurd (omega arith) }
flat_none p (l ∷ ls) f = none_append p l (flat_map (λ x. x) ls) (f 0 l (omega arith)) (flat_none p ls (λ j d q. f (suc j) d (omega arith)))

-- if only list i can have an element that passes, the first of all lists is the first of list i
pub position_flat : {X : Type 0} (p : X → Bool) (ls : List (List X)) (i : ℕ) (d : List X) → i < length ls → ((j : ℕ) (e : List X) → j < length ls → j ≢ i → NoneOf p (get_or ls j e))
    → position p (flat_map (λ l. l) ls) ≡ option_map (λ k. length (flat_map (λ l. l) (take i ls)) + k) (position p (get_or ls i d))
position_flat p [] i d q f = absurd (omega arith)
position_flat p (l ∷ ls) zero d q f =
    position_stop p l (flat_map (λ x. x) ls) (flat_none p ls (λ j e r. f (suc j) e (omega arith) (omega arith))) ∙ map_zero (position p l)
position_flat p (l ∷ ls) (suc i) d q f =
    position_skip p l (flat_map (λ x. x) ls) (f 0 l (omega arith) (omega arith))
    ∙ ap (option_map (λ k. length l + k)) (position_flat p ls i d (omega arith) (λ j e r n. f (suc j) e (omega arith) (omega arith)))
    ∙ map_add (length l) (length (flat_map (λ x. x) (take i ls))) _ (position p (get_or ls i d)) (length-append l (flat_map (λ x. x) (take i ls)))

pub position-below : {X : Type 0} (p : X → Bool) (xs : List X) (i : ℕ) → position p xs ≡ Some i → i < length xs
position-below p xs i e = elim (dec_lt (position_or_len p xs) (length xs)) [
  | yes q ↦ let s : Some (position_or_len p xs) ≡ Some i = sym (found p xs (position_or_len p xs) q refl) ∙ e in let w : position_or_len p xs ≡ i = cc in omega arith
  | no q ↦ let far : nat_lt (position_or_len p xs) (length xs) ≡ false = let r : length xs ≤ position_or_len p xs = omega arith in search rules in
      let s : None ≡ Some i = sym (none_by p xs (position_or_len p xs) refl far) ∙ e in cc
]

-- the entries that pass p have the hash h
pub record HashOf {E : Type 0} (p : E → Bool) (hash : E → ℕ) (h : ℕ) : Type 0 where
  pub same : (e : E) → p e ≡ true → hash e ≡ h

pub has_tag : {E : Type 0} (p : E → Bool) (hash : E → ℕ) (h t m i : ℕ) (b : Shelf E) → HashOf p hash h → IsOwn hash t m i b → HasTag p (tag_of h) b
has_tag p hash h t m i b a o =
    λ j e l w. ap (λ x. get_or x j 0) o.tagged ∙ get_or-map (λ x. tag_of (hash x)) b.slots j e 0 l ∙ ap tag_of (a.same _ w)

not_true : (b : Bool) → (b ≡ true → ⊥) → b ≡ false
not_true true h = absurd (h refl)
not_true false h = refl

own_none : {E : Type 0} (p : E → Bool) (hash : E → ℕ) (h t m j : ℕ) (b : Shelf E) → HashOf p hash h → IsOwn hash t m j b → j ≢ bucket_number t m h → NoneOf p (shelf_entries b)
own_none p hash h t m j b a o n = record {
  fails = λ k d l. not_true _ (λ w. n (sym (o.routed k d l) ∙ ap (bucket_number t m) (a.same _ w)));
}

module _ {E : Type 0} (p : E → Bool) (hash : E → ℕ) (h t n o i : ℕ) (bs : List (Shelf E)) (own : IsBuckets hash t bs n o) (a : HashOf p hash h) (e : i ≡ bucket_number t (length bs) h) where
  others : (j : ℕ) (d : List E) → j < length (map shelf_entries bs) → j ≢ i → NoneOf p (get_or (map shelf_entries bs) j d)
  others j d q ne =
      let l : j < length bs = simp length-map at q in
      let b : Shelf E = get_or bs j empty_shelf in
      let at : b ≡ get_or bs j b = get_or_default bs j empty_shelf b l in
      subst (NoneOf p) (sym (get_or-map shelf_entries bs j empty_shelf d l)) (own_none p hash h t (length bs) j b a (own.own j b l at) (λ z. ne (z ∙ sym e)))

  found_in_lists : (b : Shelf E) (r : Option ℕ) → i < length bs → b ≡ get_or bs i b → r ≡ position p (shelf_entries b)
      → option_map (λ k. length (flat_map (λ l. l) (take i (map shelf_entries bs))) + k) r ≡ position p (flat_map (λ l. l) (map shelf_entries bs))
  found_in_lists b r l at here_found =
      let ls : List (List E) = map shelf_entries bs in
      let here : get_or ls i (shelf_entries b) ≡ shelf_entries b = get_or-map shelf_entries bs i b (shelf_entries b) l ∙ ap shelf_entries (sym at) in
      ap (option_map (λ k. length (flat_map (λ x. x) (take i ls)) + k)) (here_found ∙ ap (position p) (sym here))
      ∙ sym (position_flat p ls i (shelf_entries b) (simp length-map l) (λ j d q ne. others j d q ne))

  module _ {S : Type 0} (s : Settings S) {f : Bool × Bool} (c : Contents E S) (view : view_of f bs s ≡ c) (b : Shelf E) (l : i < length bs) (at : b ≡ get_or bs i b) where
    -- if the bucket of the hash has an entry that passes, the table has it at that place
    pub found_at : (slot : ℕ) → Some slot ≡ position p (shelf_entries b) → IsFoundAtSpot p c (record { bucket = i; slot = slot })
    unfolding index_of_spot entries
    found_at slot found = record {
      within = record { bucket = rw (count-view bs s c view) l; slot = rw (list-view bs s c view i b l at) (position-below p (shelf_entries b) slot (sym found)) };
      found = ap (λ (x : Contents E S). position p (flat_map (λ l. l) x.lists)) (sym view) ∙ sym (found_in_lists b (Some slot) l at found)
          ∙ ap (λ (x : Contents E S). Some (length (flat_map (λ l. l) (take i x.lists)) + slot)) view;
    }

    -- if the bucket of the hash has no entry that passes, the table has none
    pub missed_at : position p (shelf_entries b) ≡ None → position p (entries c) ≡ None
    unfolding entries
    missed_at missed = ap (λ (x : Contents E S). position p (flat_map (λ l. l) x.lists)) (sym view) ∙ sym (found_in_lists b None l at (sym missed))

-- a table without buckets has no entries
pub no-entries : {E S : Type 0} (bs : List (Shelf E)) (s : Settings S) {f : Bool × Bool} (c : Contents E S) → view_of f bs s ≡ c → length bs ≡ 0 → entries c ≡ []
no-entries [] s c view n = entries-view [] s c view
no-entries (b ∷ bs) s c view n = absurd (omega arith)
