-- The entries of one bucket among all entries.
use Rattle.std.proofs.Common.{◌≡◌, ◌≢◌, ◌==◌, ℕ, zero, suc, ◌+◌, ◌<◌, true, false, Some, List, [], ◌∷◌, ◌++◌, length, get_or, refl, sym, ap, ◌∙◌, arith, eq-eqb, eqb-true}
use Rattle.std.specs.List.{count_by, filter, flat_map, slice_get}
use Rattle.std.proofs.lemmas.List.{append-nil}
use Rattle.std.proofs.lemmas.List.Elements.{filter-append, filter_passes, All-get_or}
use Rattle.scc_array.proofs.ListsLemmas.{get-below, get-is}
use Rattle.scc_buckets.specs.Pour.{destined_for}
use Rattle.std.proofs.lemmas.List.Sums.{length-filter}
use Rattle.scc_common.specs.Contents.{Contents, entries, bucket_count, list_of, settings_of, IsRouted}
use Rattle.scc_common.specs.Routing.{bucket_number}
use Rattle.scc_draining.proofs.Others.{not_equal}

-- each of the entries that belong to bucket i of n has that bucket
pub destined-own : {E : Type 0} (hash : E → ℕ) (t n i : ℕ) (es : List E) (j : ℕ) (e : E) → slice_get (destined_for hash t n i es) j ≡ Some e → bucket_number t n (hash e) ≡ i
destined-own {E} hash t n i es j e got =
    let xs = destined_for hash t n i es in
    let own = All-get_or (λ (y : E). (bucket_number t n (hash y) == i) ≡ true) xs j e (get-below xs j e got) (filter_passes (λ (y : E). bucket_number t n (hash y) == i) es) in
    ap (λ y. bucket_number t n (hash y)) (get-is xs j e e got) ∙ eqb-true _ _ own

module _ {E : Type 0} (f : E → ℕ) (i : ℕ) where
  pub filter-all : (xs : List E) → ((m : ℕ) (e : E) → slice_get xs m ≡ Some e → f e ≡ i) → filter (λ e. f e == i) xs ≡ xs
  filter-all [] h = refl
  filter-all (x ∷ xs) h = let t : (f x == i) ≡ true = eq-eqb (f x) i (h 0 x refl) in rw t (ap (λ z. x ∷ z) (filter-all xs (λ m. h (suc m))))

  pub filter-no : (k : ℕ) → k ≢ i → (xs : List E) → ((m : ℕ) (e : E) → slice_get xs m ≡ Some e → f e ≡ k) → filter (λ e. f e == i) xs ≡ []
  filter-no k ne [] h = refl
  filter-no k ne (x ∷ xs) h = let t : (f x == i) ≡ false = not_equal (f x) i (λ z. ne (sym (h 0 x refl) ∙ z)) in rw t (filter-no k ne xs (λ m. h (suc m)))

  flat-no : (j : ℕ) (ls : List (List E)) → ((k m : ℕ) (e : E) → slice_get (get_or ls k []) m ≡ Some e → f e ≡ j + k) → i < j → filter (λ e. f e == i) (flat_map (λ l. l) ls) ≡ []
  flat-no j [] h l = refl
  flat-no j (x ∷ ls) h l =
      let here = filter-no (j + 0) (λ z. absurd (omega arith)) x (h 0) in
      let rest = flat-no (suc j) ls (λ k m e g. let z : j + suc k ≡ suc j + k = omega arith in h (suc k) m e g ∙ z) (omega arith) in
      filter-append (λ e. f e == i) x (flat_map (λ y. y) ls) ∙ ap (λ z. z ++ filter (λ e. f e == i) (flat_map (λ y. y) ls)) here ∙ rest

  flat-at : (j k : ℕ) (ls : List (List E)) → ((k m : ℕ) (e : E) → slice_get (get_or ls k []) m ≡ Some e → f e ≡ j + k) → i ≡ j + k → filter (λ e. f e == i) (flat_map (λ l. l) ls) ≡ get_or ls k []
  flat-at j k [] h at = refl
  flat-at j zero (x ∷ ls) h at =
      let here = filter-all x (λ m e g. let z : j + 0 ≡ i = omega arith in h 0 m e g ∙ z) in
      let rest = flat-no (suc j) ls (λ k m e g. let z : j + suc k ≡ suc j + k = omega arith in h (suc k) m e g ∙ z) (omega arith) in
      filter-append (λ e. f e == i) x (flat_map (λ y. y) ls) ∙ ap (λ z. z ++ filter (λ e. f e == i) (flat_map (λ y. y) ls)) here ∙ ap (λ z. x ++ z) rest ∙ append-nil x
  flat-at j (suc k) (x ∷ ls) h at =
      let here = filter-no (j + 0) (λ z. absurd (omega arith)) x (h 0) in
      let rest = flat-at (suc j) k ls (λ k m e g. let z : j + suc k ≡ suc j + k = omega arith in h (suc k) m e g ∙ z) (omega arith) in
      filter-append (λ e. f e == i) x (flat_map (λ y. y) ls) ∙ ap (λ z. z ++ filter (λ e. f e == i) (flat_map (λ y. y) ls)) here ∙ rest

-- the number of entries that belong to bucket i is the length of its list
pub count-listed : {E S : Type 0} (hash : E → ℕ) (d : Contents E S) (i : ℕ) → IsRouted hash d → count_by (λ e. bucket_number (settings_of d).skipped (bucket_count d) (hash e) == i) (entries d) ≡ length (list_of d i)
unfolding entries list_of
count-listed {E} hash d i routed =
    let f : E → ℕ = λ e. bucket_number (settings_of d).skipped (bucket_count d) (hash e) in
    let z : i ≡ 0 + i = omega arith in
    sym (length-filter (λ e. f e == i) (flat_map (λ l. l) d.lists)) ∙ ap length (flat-at f i 0 i d.lists (λ k m e g. let y : k ≡ 0 + k = omega arith in routed.routed k m e g ∙ y) z)

-- the bucket of the hash h has as many entries as its list, which has m
pub room-listed : {E K S : Type 0} (hash : K → ℕ) (key : E → K) (d : Contents E S) (h : ℕ) {i m : ℕ} → i ≡ bucket_number (settings_of d).skipped (bucket_count d) h → IsRouted (λ e. hash (key e)) d → m ≡ length (list_of d i)
    → count_by (λ e. bucket_number (settings_of d).skipped (bucket_count d) (hash (key e)) == bucket_number (settings_of d).skipped (bucket_count d) h) (entries d) ≡ m
room-listed hash key d h {i} at routed len = ap (λ n. count_by (λ e. bucket_number (settings_of d).skipped (bucket_count d) (hash (key e)) == n) (entries d)) (sym at) ∙ count-listed (λ e. hash (key e)) d i routed ∙ sym len

-- the entries that belong to bucket i are those of its list, in their order
pub listed-is : {E S : Type 0} (hash : E → ℕ) (d : Contents E S) (i : ℕ) → IsRouted hash d → filter (λ e. bucket_number (settings_of d).skipped (bucket_count d) (hash e) == i) (entries d) ≡ list_of d i
unfolding entries list_of
listed-is {E} hash d i routed =
    let f : E → ℕ = λ e. bucket_number (settings_of d).skipped (bucket_count d) (hash e) in
    let z : i ≡ 0 + i = omega arith in
    flat-at f i 0 i d.lists (λ k m e g. let y : k ≡ 0 + k = omega arith in routed.routed k m e g ∙ y) z
