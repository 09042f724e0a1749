-- The entries of one bucket, picked from all entries.
use Rattle.std.proofs.Common.{◌≡◌, ◌==◌, ℕ, zero, suc, ◌+◌, ◌<◌, ◌≢◌, true, false, List, [], ◌∷◌, ◌++◌, length, get_or, refl, sym, ap, ◌∙◌, arith, eq-eqb, rules}
use Rattle.std.specs.List.{filter, flat_map, count_by}
use Rattle.std.proofs.lemmas.List.{append-nil}
use Rattle.std.proofs.lemmas.List.Elements.{filter-append}
use Rattle.std.proofs.lemmas.List.Sums.{length-filter}
use Rattle.scc_common.specs.Routing.{bucket_number}
use Rattle.scc_array.specs.Shelf.{Shelf, shelf_entries}
use Rattle.scc_buckets.specs.Tables.{IsBuckets}

filter-same : {E : Type 0} (f : E → ℕ) (i : ℕ) (xs : List E) → ((j : ℕ) (d : E) → j < length xs → f (get_or xs j d) ≡ i) → filter (λ e. f e == i) xs ≡ xs
filter-same f i [] h = refl
filter-same f i (x ∷ xs) h =
    let here : f x ≡ i = h 0 x (omega arith) in
    let t : (f x == i) ≡ true = eq-eqb (f x) i here in
    rw t (ap (λ z. x ∷ z) (filter-same f i xs (λ j d l. h (suc j) d (omega arith))))

not_equal : (a b : ℕ) → a ≢ b → (a == b) ≡ false
not_equal a b h = search rules

filter-none : {E : Type 0} (f : E → ℕ) (i k : ℕ) (xs : List E) → k ≢ i → ((j : ℕ) (d : E) → j < length xs → f (get_or xs j d) ≡ k) → filter (λ e. f e == i) xs ≡ []
filter-none f i k [] n h = refl
filter-none f i k (x ∷ xs) n h =
    let here : f x ≡ k = h 0 x (omega arith) in
    let t : (f x == i) ≡ false = not_equal (f x) i (λ z. n (sym here ∙ z)) in
    rw t (filter-none f i k xs n (λ j d l. h (suc j) d (omega arith)))

-- bucket number j and the later buckets hold only entries that belong there
record OwnFrom {E : Type 0} (f : E → ℕ) (j : ℕ) (bs : List (Shelf E)) : Type 0 where
  own : (k : ℕ) (b : Shelf E) → k < length bs → b ≡ get_or bs k b → (m : ℕ) (d : E) → m < length (shelf_entries b) → f (get_or (shelf_entries b) m d) ≡ j + k

own-tail : {E : Type 0} (f : E → ℕ) (j : ℕ) (b : Shelf E) (bs : List (Shelf E)) → OwnFrom f j (b ∷ bs) → OwnFrom f (suc j) bs
own-tail f j b bs o = record { own = λ k a l at m d lm. let e = o.own (suc k) a (omega arith) at m d lm in let s : j + suc k ≡ suc j + k = omega arith in e ∙ s }

flat-none : {E : Type 0} (f : E → ℕ) (i j : ℕ) (bs : List (Shelf E)) → OwnFrom f j bs → i < j → filter (λ e. f e == i) (flat_map shelf_entries bs) ≡ []
flat-none f i j [] o l = refl
flat-none f i j (b ∷ bs) o l =
    let here : filter (λ e. f e == i) (shelf_entries b) ≡ [] = filter-none f i (j + 0) (shelf_entries b) (omega arith) (λ m d lm. o.own 0 b (omega arith) refl m d lm) in
    filter-append (λ e. f e == i) (shelf_entries b) (flat_map shelf_entries bs) ∙ ap (λ z. z ++ filter (λ e. f e == i) (flat_map shelf_entries bs)) here ∙ flat-none f i (suc j) bs (own-tail f j b bs o) (omega arith)

flat-here : {E : Type 0} (f : E → ℕ) (i j k : ℕ) (bs : List (Shelf E)) (d : Shelf E) → OwnFrom f j bs → i ≡ j + k → k < length bs → filter (λ e. f e == i) (flat_map shelf_entries bs) ≡ shelf_entries (get_or bs k d)
flat-here f i j k [] d o e l = absurd (omega arith)
flat-here f i j zero (b ∷ bs) d o e l =
    let here : filter (λ e. f e == i) (shelf_entries b) ≡ shelf_entries b = filter-same f i (shelf_entries b) (λ m a lm. o.own 0 b (omega arith) refl m a lm ∙ sym e) in
    let rest : filter (λ e. f e == i) (flat_map shelf_entries bs) ≡ [] = flat-none f i (suc j) bs (own-tail f j b bs o) (omega arith) in
    filter-append (λ e. f e == i) (shelf_entries b) (flat_map shelf_entries bs) ∙ ap (λ z. z ++ filter (λ e. f e == i) (flat_map shelf_entries bs)) here ∙ ap (λ z. shelf_entries b ++ z) rest ∙ append-nil (shelf_entries b)
flat-here f i j (suc k) (b ∷ bs) d o e l =
    let here : filter (λ e. f e == i) (shelf_entries b) ≡ [] = filter-none f i (j + 0) (shelf_entries b) (omega arith) (λ m a lm. o.own 0 b (omega arith) refl m a lm) in
    filter-append (λ e. f e == i) (shelf_entries b) (flat_map shelf_entries bs) ∙ ap (λ z. z ++ filter (λ e. f e == i) (flat_map shelf_entries bs)) here
    ∙ flat-here f i (suc j) k bs d (own-tail f j b bs o) (omega arith) (omega arith)

module _ {E : Type 0} (hash : E → ℕ) (t n o i : ℕ) (bs : List (Shelf E)) (b : Shelf E) (h : IsBuckets hash t bs n o) (l : i < length bs) (at : b ≡ get_or bs i b) where
  -- the entries that belong to a bucket are the entries of its shelf
  pub entries-of_bucket : filter (λ e. bucket_number t (length bs) (hash e) == i) (flat_map shelf_entries bs) ≡ shelf_entries b
  entries-of_bucket =
      let z : i ≡ 0 + i = omega arith in
      flat-here (λ e. bucket_number t (length bs) (hash e)) i 0 i bs b (record { own = λ k a lk ak m d lm. let q : 0 + k ≡ k = omega arith in (h.own k a lk ak).routed m d lm ∙ sym q }) z l ∙ ap shelf_entries (sym at)

  pub count-in_bucket : count_by (λ e. bucket_number t (length bs) (hash e) == i) (flat_map shelf_entries bs) ≡ length (shelf_entries b)
  count-in_bucket = sym (length-filter (λ e. bucket_number t (length bs) (hash e) == i) (flat_map shelf_entries bs)) ∙ ap length entries-of_bucket
