-- A removal after which the array may shrink.
use Rattle.std.proofs.Common.{◌≡◌, ◌+◌, ◌≤◌, Bool, true, ◌∙◌, ap, sym, subst, length}
use Rattle.std.specs.List.{remove}
use Rattle.std.proofs.lemmas.List.Sorted.{length_permutation}
use Rattle.scc_common.specs.Contents.{Contents, entries, bucket_count, minimum_of, pending_of, IsUniqueBy}
use Rattle.scc_common.specs.Sizes.{IsSmaller}
use Rattle.scc_common.specs.Steps.{Resizes, Shrinks, ShrinksWhenDue}
use Rattle.scc_buckets.proofs.Resizes.{smaller-by, shrinks-after, then-resized}
use Rattle.scc_buckets.specs.declared.place.Place.{Place}
use Rattle.scc_table.specs.Places.{index_of}
use Rattle.scc_table.specs.Relocates.{IsShrinkDue, Spreads}
use Rattle.scc_table.specs.Removals.{RemovesAt, SwapTakesAt}
use Rattle.scc_table.specs.TwoArrays.{waits_at}
use Rattle.scc_table.proofs.arrays.SameParts.{pending-same}

pub removed-at : {E K S : Type 0} {eq : K → K → Bool} {key : E → K} (c d e : Contents E S) (p : Place) (x : E) → SwapTakesAt eq key c p x d → Resizes d e → Shrinks d e → ShrinksWhenDue d e → Spreads (IsShrinkDue (minimum_of d) d) d e → IsUniqueBy eq key e → RemovesAt eq key c p x e
removed-at c d e p x took resizes shrinks due spreads unique =
    let minimum = ap (λ s. s.asked + s.reserved) took.settings in
    record {
      entry = took.entry;
      others = then-resized c d e (remove (entries c) (index_of c p)) took.others took.buckets took.settings resizes;
      smaller = smaller-by d e (minimum_of c) (bucket_count c) shrinks minimum took.buckets;
      due = shrinks-after c d e took.buckets took.noted due;
      all = λ ne. spreads.all (λ z. ne (z ∙ took.buckets));
      fewer = λ z i w. subst (λ ws. waits_at ws i ≡ true) took.waiting (spreads.fewer (z ∙ sym took.buckets) i w);
      less = λ z. subst (λ n. pending_of e ≤ n) (pending-same c d took.waiting) (spreads.less (z ∙ sym took.buckets));
      waiting =
          let same = sym (length_permutation (entries d) (entries e) resizes.same) in
          λ none. spreads.waiting (λ due. none due.buckets
          (subst (λ m. IsSmaller m (length (entries e)) (bucket_count c) due.buckets) minimum
          (subst (λ n. IsSmaller (minimum_of d) n (bucket_count c) due.buckets) same
          (subst (λ n. IsSmaller (minimum_of d) (length (entries d)) n due.buckets) took.buckets due.smaller)))) ∙ took.waiting;
      unique = unique;
    }
