-- A table with one entry written, whose new key equals its old one.
use Rattle.std.proofs.Common.{◌≡◌, ℕ, zero, suc, ◌+◌, ◌-◌, ◌<◌, ◌≤◌, Bool, true, false, List, [], ◌∷◌, ◌++◌, length, map, set, get_or, nat_lt, rules, refl, sym, ap, subst, ◌∙◌, arith, length-set, Some, None}
use Rattle.std.specs.Cmp.{IsEquivalence}
use Rattle.std.specs.List.{flat_map, slice_get, IsDistinct, AllByRecursion}
use Rattle.std.proofs.lemmas.List.{get_or-map, map-set}
use Rattle.std.proofs.lemmas.Map.Keys.{IsDistinct-head, IsDistinct-tail, IsDistinct-cons}
use native.Mathlib.Decide.{dec_lt}
use Rattle.scc_common.specs.Contents.{Contents, Settings, entries, bucket_count, settings_of, list_of}
use Rattle.scc_buckets.specs.Places.{IsSpot, index_of_spot}
use Rattle.scc_common.specs.Routing.{bucket_number, tag_of}
use Rattle.scc_array.specs.Shelf.{Shelf, shelf_entries}
use Rattle.scc_common.specs.Steps.{HoldsExactly}
use Rattle.std.proofs.lemmas.List.Sums.{sum_by-set}
use Rattle.scc_buckets.specs.Tables.{IsOwn, IsBuckets, overflow_in}
use Rattle.scc_array.specs.ShelfWrites.{write_at, shelf_write_at, length-write_at}
use Rattle.scc_buckets.specs.Writes.{with_write_at_spot}
use Rattle.scc_buckets.specs.declared.place.Place.{Place}
use Rattle.scc_buckets.proofs.Inserts.{table_set}
use Rattle.scc_array.proofs.ListsLemmas.{get-below, get-is}
use Rattle.scc_buckets.proofs.Spots.{before, flat-get, flat-set, place-get}
use Rattle.scc_buckets.proofs.Views.{view_of, entries-view}
use Rattle.scc_array.proofs.Writing.{set-write_at}

-- if f is equal at an entry before and after a write, the write changes no value of f
map-write_at : {E X Y : Type 0} (put : E → X → E) (f : E → Y) (es : List E) (i : ℕ) (e : E) (w : X) → slice_get es i ≡ Some e → f (put e w) ≡ f e → map f (write_at put es i w) ≡ map f es
map-write_at put f [] i e w got same = refl
map-write_at put f (x ∷ es) zero e w got same = let s : x ≡ e = cc in ap (λ y. y ∷ map f es) (ap (λ z. f (put z w)) s ∙ same ∙ ap f (sym s))
map-write_at put f (x ∷ es) (suc i) e w got same = ap (λ z. f x ∷ z) (map-write_at put f es i e w got same)

read-write_at : {E X Y : Type 0} (put : E → X → E) (f : E → Y) (es : List E) (i j : ℕ) (d e : E) (w : X) → slice_get es i ≡ Some e → f (put e w) ≡ f e → j < length es → f (get_or (write_at put es i w) j d) ≡ f (get_or es j d)
read-write_at put f [] i j d e w got same l = refl
read-write_at put f (x ∷ es) zero zero d e w got same l = let s : x ≡ e = cc in ap (λ z. f (put z w)) s ∙ same ∙ ap f (sym s)
read-write_at put f (x ∷ es) zero (suc j) d e w got same l = refl
read-write_at put f (x ∷ es) (suc i) zero d e w got same l = refl
read-write_at put f (x ∷ es) (suc i) (suc j) d e w got same l = read-write_at put f es i j d e w got same (omega arith)

write_at-left : {E X : Type 0} (put : E → X → E) (xs ys : List E) (i : ℕ) (w : X) → i < length xs → write_at put (xs ++ ys) i w ≡ write_at put xs i w ++ ys
write_at-left put [] ys i w l = absurd (omega arith)
write_at-left put (x ∷ xs) ys zero w l = refl
write_at-left put (x ∷ xs) ys (suc i) w l = ap (λ z. x ∷ z) (write_at-left put xs ys i w (omega arith))

write_at-right : {E X : Type 0} (put : E → X → E) (xs ys : List E) (i k : ℕ) (w : X) → i ≡ length xs + k → write_at put (xs ++ ys) i w ≡ xs ++ write_at put ys k w
write_at-right put [] ys i k w e = let z : i ≡ k = omega arith in ap (λ n. write_at put ys n w) z
write_at-right put (x ∷ xs) ys zero k w e = absurd (omega arith)
write_at-right put (x ∷ xs) ys (suc i) k w e = ap (λ z. x ∷ z) (write_at-right put xs ys i k w (omega arith))

pub entries_write : {E X : Type 0} (put : E → X → E) (b : Shelf E) (i : ℕ) (w : X) → shelf_entries (shelf_write_at put b i w) ≡ write_at put (shelf_entries b) i w
entries_write put b i w = elim (dec_lt i (length b.slots)) [
  | yes q ↦ let t : nat_lt i (length b.slots) ≡ true = search rules in rw t (sym (write_at-left put b.slots b.overflow i w q))
  | no q ↦ let far : length b.slots ≤ i = omega arith in let t : nat_lt i (length b.slots) ≡ false = search rules in
      rw t (sym (write_at-right put b.slots b.overflow i (i - length b.slots) w (omega arith)))
]

slots_write : {E X : Type 0} (put : E → X → E) (b : Shelf E) (i : ℕ) (w : X) → (length (shelf_write_at put b i w).slots ≡ length b.slots) × (length (shelf_write_at put b i w).overflow ≡ length b.overflow)
slots_write put b i w = elim (dec_lt i (length b.slots)) [
  | yes q ↦ let t : nat_lt i (length b.slots) ≡ true = search rules in rw t (length-write_at put b.slots i w, refl)
  | no q ↦ let far : length b.slots ≤ i = omega arith in let t : nat_lt i (length b.slots) ≡ false = search rules in rw t (refl, length-write_at put b.overflow (i - length b.slots) w)
]

get-in_slots : {E : Type 0} (xs ys : List E) (i : ℕ) (e : E) → i < length xs → slice_get (xs ++ ys) i ≡ Some e → slice_get xs i ≡ Some e
get-in_slots [] ys i e l got = absurd (omega arith)
get-in_slots (x ∷ xs) ys zero e l got = got
get-in_slots (x ∷ xs) ys (suc i) e l got = get-in_slots xs ys i e (omega arith) got

tags_write : {E X : Type 0} (put : E → X → E) (f : E → ℕ) (b : Shelf E) (i : ℕ) (e : E) (w : X) → slice_get (shelf_entries b) i ≡ Some e → f (put e w) ≡ f e → b.tags ≡ map f b.slots → (shelf_write_at put b i w).tags ≡ map f (shelf_write_at put b i w).slots
tags_write put f b i e w got same h = elim (dec_lt i (length b.slots)) [
  | yes q ↦ let t : nat_lt i (length b.slots) ≡ true = search rules in rw t (h ∙ sym (map-write_at put f b.slots i e w (get-in_slots b.slots b.overflow i e q got) same))
  | no q ↦ let far : length b.slots ≤ i = omega arith in let t : nat_lt i (length b.slots) ≡ false = search rules in rw t h
]

own_write : {E X : Type 0} (put : E → X → E) (hash : E → ℕ) (t m k : ℕ) (b : Shelf E) (i : ℕ) (e : E) (w : X) → slice_get (shelf_entries b) i ≡ Some e → hash (put e w) ≡ hash e → IsOwn hash t m k b → IsOwn hash t m k (shelf_write_at put b i w)
own_write put hash t m k b i e w got same o = record {
  tagged = tags_write put (λ x. tag_of (hash x)) b i e w got (ap tag_of same) o.tagged;
  routed = λ j d lj.
      let all = entries_write put b i w in
      let lb : j < length (shelf_entries b) = let n = length-write_at put (shelf_entries b) i w in let m : length (shelf_entries (shelf_write_at put b i w)) ≡ length (write_at put (shelf_entries b) i w) = ap length all in omega arith in
      ap (λ z. bucket_number t m (hash (get_or z j d))) all ∙ read-write_at put (λ x. bucket_number t m (hash x)) (shelf_entries b) i j d e w got (ap (bucket_number t m) same) lb ∙ o.routed j d lb;
  within = let n = (slots_write put b i w).0 in let q = o.within in omega arith;
}

all-along : {K : Type 0} {P Q : K → Type 0} → ((k : K) → P k → Q k) → (ks : List K) → AllByRecursion P ks → AllByRecursion Q ks
all-along f [] h = h
all-along f (k ∷ ks) h = (f k h.0, all-along f ks h.1)

all-got : {E K : Type 0} (P : K → Type 0) (key : E → K) (es : List E) (i : ℕ) (e : E) → slice_get es i ≡ Some e → AllByRecursion P (map key es) → P (key e)
all-got P key [] i e got h = absurd (let n : None ≡ Some e = got in cc)
all-got P key (x ∷ es) zero e got h = let s : x ≡ e = cc in subst (λ z. P (key z)) s h.0
all-got P key (x ∷ es) (suc i) e got h = all-got P key es i e got h.1

all-write : {E X K : Type 0} (P : K → Type 0) (key : E → K) (put : E → X → E) (es : List E) (i : ℕ) (e : E) (w : X) → slice_get es i ≡ Some e → P (key (put e w)) → AllByRecursion P (map key es) → AllByRecursion P (map key (write_at put es i w))
all-write P key put [] i e w got y h = h
all-write P key put (x ∷ es) zero e w got y h = let s : x ≡ e = cc in (subst (λ z. P (key (put z w))) (sym s) y, h.1)
all-write P key put (x ∷ es) (suc i) e w got y h = (h.0, all-write P key put es i e w got y h.1)

-- keys stay distinct if an entry is written whose new key equals its old one
pub distinct-write : {E X K : Type 0} {eq : K → K → Bool} (laws : IsEquivalence eq) (key : E → K) (put : E → X → E) (es : List E) (i : ℕ) (e : E) (w : X) → slice_get es i ≡ Some e → eq (key (put e w)) (key e) ≡ true
    → IsDistinct eq (map key es) → IsDistinct eq (map key (write_at put es i w))
distinct-write laws key put [] i e w got y d = d
distinct-write {eq = eq} laws key put (x ∷ es) zero e w got y d =
    let s : x ≡ e = cc in
    let z : eq (key (put x w)) (key x) ≡ true = rw s y in
    IsDistinct-cons eq (key (put x w)) (map key es) (all-along (λ k n. laws.congr (key (put x w)) (key x) k z ∙ n) (map key es) (IsDistinct-head eq (key x) (map key es) d)) (IsDistinct-tail eq (key x) (map key es) d)
distinct-write {eq = eq} laws key put (x ∷ es) (suc i) e w got y d =
    let apart = IsDistinct-head eq (key x) (map key es) d in
    let away : eq (key x) (key (put e w)) ≡ false = laws.symm (key x) (key (put e w)) ∙ laws.congr (key (put e w)) (key e) (key x) y ∙ laws.symm (key e) (key x) ∙ all-got (λ k. eq (key x) k ≡ false) key es i e got apart in
    IsDistinct-cons eq (key x) (map key (write_at put es i w)) (all-write (λ k. eq (key x) k ≡ false) key put es i e w got away apart) (distinct-write laws key put es i e w got y (IsDistinct-tail eq (key x) (map key es) d))

module _ {E S X : Type 0} (put : E → X → E) (c : Contents E S) (p : Place) (within : IsSpot c p) (e : E) (got : slice_get (list_of c p.bucket) p.slot ≡ Some e) (w : X) where
  -- a write at a place is a write at the place's index among all entries
  pub entries-write : entries (with_write_at_spot put c p w) ≡ write_at put (entries c) (index_of_spot c p) w
  unfolding entries list_of bucket_count index_of_spot with_write_at_spot
  entries-write =
      let ls : List (List E) = c.lists in
      let li : List E = get_or ls p.bucket [] in
      let there = flat-get ls p.bucket p.slot e within.bucket got in
      ap (λ z. flat_map (λ l. l) (set ls p.bucket z)) (sym (set-write_at put li p.slot e w within.slot (get-is li p.slot e e got)))
      ∙ flat-set ls p.bucket p.slot (put e w) within.bucket within.slot
      ∙ set-write_at put (flat_map (λ l. l) ls) (before ls p.bucket + p.slot) e w (get-below (flat_map (λ l. l) ls) (before ls p.bucket + p.slot) e there) (get-is (flat_map (λ l. l) ls) (before ls p.bucket + p.slot) e e there)

  pub exactly-write : HoldsExactly c (write_at put (entries c) (index_of_spot c p) w) (with_write_at_spot put c p w)
  unfolding bucket_count settings_of with_write_at_spot
  exactly-write = record { exact = entries-write; buckets = length-set c.lists p.bucket _; settings = refl }

module _ {E S X : Type 0} (put : E → X → E) (hash : E → ℕ) (t n o : ℕ) (p : Place) (bs : List (Shelf E)) (h : IsBuckets hash t bs n o) (s : Settings S) {f : Bool × Bool} (c : Contents E S) (view : view_of f bs s ≡ c) (b : Shelf E) (l : p.bucket < length bs) (at : b ≡ get_or bs p.bucket b)
    (e : E) (got : slice_get (shelf_entries b) p.slot ≡ Some e) (w : X) where
  pub written-table : hash (put e w) ≡ hash e → IsBuckets hash t (set bs p.bucket (shelf_write_at put b p.slot w)) n o
  written-table same =
      let d : Shelf E = shelf_write_at put b p.slot w in
      let len : length (shelf_entries d) ≡ length (shelf_entries b) = ap length (entries_write put b p.slot w) ∙ length-write_at put (shelf_entries b) p.slot w in
      let over = (slots_write put b p.slot w).1 in
      table_set hash t n o n o p.bucket bs b d h l at (own_write put hash t (length bs) p.bucket b p.slot e w got same (h.own p.bucket b l at)) (omega arith) (omega arith) h.few

  pub written-view : view_of f (set bs p.bucket (shelf_write_at put b p.slot w)) s ≡ with_write_at_spot put c p w
  unfolding list_of with_write_at_spot
  written-view =
      let here : get_or (map shelf_entries bs) p.bucket [] ≡ shelf_entries b = get_or-map shelf_entries bs p.bucket b [] l ∙ ap shelf_entries (sym at) in
      let over = (slots_write put b p.slot w).1 in
      let spill : overflow_in (set bs p.bucket (shelf_write_at put b p.slot w)) ≡ overflow_in bs =
      let f : Shelf E → ℕ = λ x. length x.overflow in
      let sums = sum_by-set f bs p.bucket (shelf_write_at put b p.slot w) b l in
      let e : f (get_or bs p.bucket b) ≡ f b = ap f (sym at) in
      omega (arith, over) in
      ap (λ n. let r : Contents E S = record { lists = map shelf_entries (set bs p.bucket (shelf_write_at put b p.slot w)); settings = s; refused = f; spilled = n; waiting = []; owed = [] } in r) spill
      ∙ ap (λ z. let r : Contents E S = record { lists = z; settings = s; refused = f; spilled = overflow_in bs; waiting = []; owed = [] } in r)
      (map-set shelf_entries bs p.bucket (shelf_write_at put b p.slot w) ∙ ap (set (map shelf_entries bs) p.bucket) (entries_write put b p.slot w ∙ ap (λ z. write_at put z p.slot w) (sym here)))
      ∙ ap (λ (x : Contents E S). let r : Contents E S = record { lists = set x.lists p.bucket (write_at put (get_or x.lists p.bucket []) p.slot w); settings = x.settings; refused = x.refused; spilled = x.spilled; waiting = x.waiting; owed = x.owed } in r) view

  pub written-unique : IsSpot c p → slice_get (list_of c p.bucket) p.slot ≡ Some e → {K : Type 0} {eq : K → K → Bool} (laws : IsEquivalence eq) (key : E → K) → eq (key (put e w)) (key e) ≡ true → IsDistinct eq (map key (flat_map shelf_entries bs))
      → IsDistinct eq (map key (flat_map shelf_entries (set bs p.bucket (shelf_write_at put b p.slot w))))
  written-unique within here {eq = eq} laws key equal u =
      let there = place-get c p within e here in
      let old : IsDistinct eq (map key (entries c)) = rw (entries-view bs s c view) u in
      let new = distinct-write laws key put (entries c) (index_of_spot c p) e w there equal old in
      let all : flat_map shelf_entries (set bs p.bucket (shelf_write_at put b p.slot w)) ≡ write_at put (entries c) (index_of_spot c p) w =
      sym (entries-view (set bs p.bucket (shelf_write_at put b p.slot w)) s (with_write_at_spot put c p w) written-view) ∙ entries-write put c p within e here w in
      subst (λ (z : List E). IsDistinct eq (map key z)) (sym all) new
