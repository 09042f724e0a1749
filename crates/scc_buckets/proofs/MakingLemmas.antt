-- Tables without entries.
use Rattle.std.proofs.Common.{◌≡◌, ℕ, suc, ◌^◌, ◌≤◌, Bool, List, [], ◌∷◌, ◌++◌, length, map, refl, sym, ap, ◌∙◌, inl, inr, arith, length-append}
use Rattle.scc_common.specs.Contents.{Settings, entries}
use Rattle.scc_buckets.proofs.Views.{view_of, entries-view}
use Rattle.std.specs.List.{IsDistinct, flat_map, sum_by}
use Rattle.std.proofs.lemmas.List.{nil_from_length}
use Rattle.std.proofs.lemmas.List.Sums.{sum_by-cons}
use Rattle.scc_common.specs.Routing.{tag_of}
use Rattle.scc_array.specs.Shelf.{Shelf, shelf_entries}
use Rattle.scc_common.specs.Sizes.{IsBucketCount, IsLawful}
use Rattle.scc_buckets.specs.Tables.{IsBuckets, AreBuckets, AllEmpty}

pub flat-empty : {E : Type 0} (bs : List (Shelf E)) → AllEmpty bs → flat_map shelf_entries bs ≡ []
flat-empty [] h = refl
flat-empty (b ∷ bs) h = rw (h.empty 0 b (omega arith) refl).0 (flat-empty bs (record { empty = λ i a l at. h.empty (suc i) a (omega arith) at }))

pub sums-empty : {E : Type 0} (bs : List (Shelf E)) → AllEmpty bs → (sum_by (λ b. length (shelf_entries b)) bs ≡ 0) × (sum_by (λ b. length b.overflow) bs ≡ 0)
sums-empty [] h = (refl, refl)
sums-empty {E} (b ∷ bs) h =
    let ih = sums-empty bs (record { empty = λ i a l at. h.empty (suc i) a (omega arith) at }) in
    let e = h.empty 0 b (omega arith) refl in
    let n : length (shelf_entries b) ≡ 0 = ap length e.0 in
    let m = length-append b.slots b.overflow in
    let one = sum_by-cons (λ (x : Shelf E). length (shelf_entries x)) b bs in
    let two = sum_by-cons (λ (x : Shelf E). length x.overflow) b bs in
    (omega arith, omega arith)

pub slots-none : {E : Type 0} (b : Shelf E) → shelf_entries b ≡ [] → b.slots ≡ []
slots-none b e =
    let n : length (b.slots ++ b.overflow) ≡ 0 = ap length e in
    let m = length-append b.slots b.overflow in
    let z : length b.slots ≡ 0 = omega arith in
    nil_from_length b.slots z

pub table-empty : {E : Type 0} (hash : E → ℕ) (t : ℕ) (bs : List (Shelf E)) → AllEmpty bs → IsLawful (length bs) → IsBuckets hash t bs 0 0
table-empty hash t bs h size =
    let s = sums-empty bs h in
    record {
      sized = size;
      counted = sym s.0;
      spilled = sym s.1;
      few = omega arith;
      own = λ i b l at.
          let e = h.empty i b l at in
          let none = slots-none b e.0 in
          record {
            tagged = e.1 ∙ ap (map (λ x. tag_of (hash x))) (sym none);
            routed = λ j d lj. absurd (let z : length (shelf_entries b) ≡ 0 = ap length e.0 in omega arith);
            within = let z : length b.slots ≡ 0 = ap length none in omega arith;
          };
    }

pub kept-empty : {E K : Type 0} (eq : K → K → Bool) (key : E → K) (hash : K → ℕ) (t minimum : ℕ) (bs : List (Shelf E)) → AllEmpty bs → IsLawful (length bs) → minimum ≤ 2 ^ 63 → AreBuckets eq key hash t minimum bs 0 0
unfolding IsDistinct
kept-empty eq key hash t minimum bs h size small =
    record { table = table-empty (λ e. hash (key e)) t bs h size; small_minimum = small; unique = rw (flat-empty bs h) tt }

pub none-empty : {E : Type 0} → AllEmpty {E = E} []
none-empty = record { empty = λ i b l at. absurd (omega arith) }

pub kept-none : {E K : Type 0} (eq : K → K → Bool) (key : E → K) (hash : K → ℕ) (t minimum : ℕ) → minimum ≤ 2 ^ 63 → AreBuckets eq key hash t minimum [] 0 0
kept-none eq key hash t minimum small = kept-empty eq key hash t minimum [] none-empty (inl refl) small

-- without buckets the counts are 0
pub counts-none : {E : Type 0} (hash : E → ℕ) (t n o : ℕ) (bs : List (Shelf E)) → length bs ≡ 0 → IsBuckets hash t bs n o → (n ≡ 0) × (o ≡ 0)
counts-none hash t n o [] l h = (h.counted, h.spilled)
counts-none hash t n o (b ∷ bs) l h = absurd (omega arith)

pub kept-fresh : {E K : Type 0} (eq : K → K → Bool) (key : E → K) (hash : K → ℕ) (t minimum count n o : ℕ) (bs : List (Shelf E)) → AllEmpty bs → length bs ≡ count → IsBucketCount count → minimum ≤ 2 ^ 63 → n ≡ 0 → o ≡ 0
    → AreBuckets eq key hash t minimum bs n o
kept-fresh eq key hash t minimum count n o bs h e a small en eo = rw (en, eo) (kept-empty eq key hash t minimum bs h (inr (rw e a)) small)

-- an empty table has no entries
pub entries-fresh : {E S : Type 0} (bs : List (Shelf E)) (s : Settings S) (f : Bool × Bool) → AllEmpty bs → entries (view_of f bs s) ≡ []
entries-fresh bs s f h = entries-view bs s (view_of f bs s) refl ∙ flat-empty bs h
