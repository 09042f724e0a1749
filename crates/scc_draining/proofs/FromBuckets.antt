-- Facts about the old buckets from which a bucket takes its entries.
use Rattle.std.proofs.Common.{◌≡◌, ◌==◌, ℕ, ◌+◌, ◌^◌, ◌<◌, ◌≤◌, ◌⊎◌, inl, inr, List, length, get_or, refl, sym, ap, ◌∙◌, subst, arith, eqb-true, length-append}
use Rattle.std.specs.List.{flat_map, sum_by}
use Rattle.std.proofs.lemmas.List.{get_or_past, get_or_default}
use Rattle.std.proofs.lemmas.List.Concat.{length-flat_map}
use Rattle.std.proofs.lemmas.List.Sums.{get_or-le-sum_by}
use native.Mathlib.Decide.{dec_lt}
use Rattle.scc_array.specs.Shelves.{shelf_of}
use Rattle.scc_array.specs.Shelf.{Shelf, shelf_entries, empty_shelf}
use Rattle.scc_buckets.specs.Pour.{destined_for}
use Rattle.scc_common.specs.Routing.{bucket_number}
use Rattle.scc_common.specs.Sizes.{IsBucketCount}
use Rattle.scc_buckets.specs.Tables.{IsOwn, IsBuckets, overflow_in}
use Rattle.scc_buckets.proofs.Inserts.{table-bound}
use Rattle.scc_buckets.proofs.PairSplits.{by_answer}
use Rattle.scc_draining.specs.Moves.{AreOwn, IsWithinSources}
use Rattle.scc_draining.proofs.Sublists.{filter-none}

outside : (first last j m : ℕ) → (j < first) ⊎ (last ≤ j) → m ≡ j → first ≤ m → m < last → ⊥
outside first last j m out e low high = elim out [ inl q ↦ omega arith | inr q ↦ omega arith ]

-- the old buckets outside the sources hold none of the target's entries
pub within-sources : {E : Type 0} (hash : E → ℕ) (t n i first last : ℕ) (olds : List (Shelf E)) → AreOwn hash t olds → first ≤ last → last ≤ length olds
    → ((s h : ℕ) → bucket_number s n h ≡ i → (first ≤ bucket_number s (length olds) h) × (bucket_number s (length olds) h < last)) → IsWithinSources hash t n i first last olds
within-sources hash t n i first last olds own order within only = record {
  order = order;
  within = within;
  none = λ j out. elim (dec_lt j (length olds)) [
    | yes l ↦
        let es = shelf_entries (shelf_of olds j) in
        filter-none (λ e. bucket_number t n (hash e) == i) es
        (λ k d lk. by_answer (bucket_number t n (hash (get_or es k d)) == i)
        (λ q.
        let r = only t (hash (get_or es k d)) (eqb-true _ _ q) in
        absurd (outside first last j _ out ((own.own j l).routed k d lk) r.0 r.1))
        (λ q. q))
    | no l ↦ ap (λ z. destined_for hash t n i (shelf_entries z)) (get_or_past olds j empty_shelf (omega arith))
  ];
}

-- if the old buckets before `last` hold all entries of bucket i, so do those before a greater `more`
pub sources-more : {E : Type 0} (hash : E → ℕ) (t n i first last more : ℕ) (olds : List (Shelf E)) → IsWithinSources hash t n i first last olds → last ≤ more → more ≤ length olds → IsWithinSources hash t n i first more olds
sources-more hash t n i first last more olds w l m = record {
  order = omega (arith, w.order);
  within = m;
  none = λ j out. w.none j (elim out [ inl q ↦ inl q | inr q ↦ inr (omega arith) ]);
}

-- each old bucket has fewer than 2 ^ 62 entries in its overflow list
pub few-each : {E : Type 0} (olds : List (Shelf E)) (aside : ℕ) → overflow_in olds ≤ aside → aside < 2 ^ 62 → (j : ℕ) → length (shelf_of olds j).overflow < 2 ^ 62
few-each {E} olds aside le few j = elim (dec_lt j (length olds)) [
  | yes l ↦ let f : Shelf E → ℕ = λ x. length x.overflow in let m : f (get_or olds j empty_shelf) ≤ sum_by f olds = get_or-le-sum_by f olds j empty_shelf l in omega arith
  | no l ↦ let z : length (shelf_of olds j).overflow ≡ 0 = ap (λ x. length x.overflow) (get_or_past olds j empty_shelf (omega arith)) in
      let s : 0 < 2 ^ 62 = omega arith in
      omega arith
]

-- the number of entries of each old bucket fits into a word
pub few-entries : {E : Type 0} (hash : E → ℕ) (t : ℕ) (olds : List (Shelf E)) (aside : ℕ) → AreOwn hash t olds → overflow_in olds ≤ aside → aside < 2 ^ 62 → (j : ℕ) → length (shelf_entries (shelf_of olds j)) < 2 ^ 63
few-entries hash t olds aside keeps le few j =
    let o = few-each olds aside le few j in
    let n = length-append (shelf_of olds j).slots (shelf_of olds j).overflow in
    elim (dec_lt j (length olds)) [
      | yes l ↦ let w = (keeps.own j l).within in omega arith
      | no far ↦ let z : length (shelf_entries (shelf_of olds j)) ≡ 0 = ap (λ b. length (shelf_entries b)) (get_or_past olds j empty_shelf (omega arith)) in omega arith
    ]

-- the number of entries in the old array fits in 64 bits
pub most-entry_count : {E : Type 0} (hash : E → ℕ) (t : ℕ) (olds : List (Shelf E)) → IsBucketCount (length olds) → AreOwn hash t olds → overflow_in olds < 2 ^ 62 → length (flat_map shelf_entries olds) < 2 ^ 63 + 2 ^ 62
most-entry_count {E} hash t olds sized own few =
    let f : Shelf E → ℕ = λ b. length (shelf_entries b) in
    let table : IsBuckets hash t olds (sum_by f olds) (overflow_in olds) = record {
      sized = inr sized;
      counted = refl;
      spilled = refl;
      few = few;
      own = λ j b l at. subst (IsOwn hash t (length olds) j) (sym (at ∙ get_or_default olds j b empty_shelf l)) (own.own j l);
    } in
    let bound = table-bound hash t (sum_by f olds) (overflow_in olds) olds table in
    let e : length (flat_map shelf_entries olds) ≡ sum_by f olds = length-flat_map shelf_entries olds in
    omega arith
