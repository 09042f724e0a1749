-- Which buckets wait after a write, and after a removal that follows a write.
use Rattle.std.proofs.Common.{◌≡◌, ◌∙◌, refl, arith, ap, sym, subst}
use Rattle.std.proofs.lemmas.List.Sorted.{length_permutation}
use Rattle.scc_common.specs.Contents.{Contents, entries, bucket_count, minimum_of, waiting_of}
use Rattle.scc_common.specs.Sizes.{IsSmaller}
use Rattle.scc_common.specs.Steps.{Resizes}
use Rattle.scc_buckets.specs.Writes as writes
use Rattle.scc_buckets.specs.declared.place.Place.{Place}
use Rattle.scc_table.specs.Places.{with_write_at}
use Rattle.scc_table.specs.Relocates.{IsShrinkDue, Spreads}
use Rattle.scc_table.proofs.arrays.SameParts.{pending-same}
use Rattle.scc_table.specs.Relocations.{RelocatesNone}
use Rattle.scc_table.specs.TwoArrays.{waits_at}

module _ {E S : Type 0} where
  -- a write doesn't change which buckets wait
  pub waiting-write : {X : Type 0} (put : E → X → E) (c : Contents E S) (p : Place) (w : X) → waiting_of (with_write_at put c p w) ≡ waiting_of c
  unfolding writes.with_write_at_spot waiting_of
  waiting-write put c p w = refl

  pub removed-after : (a b c : Contents E S) → bucket_count b ≡ bucket_count a → minimum_of b ≡ minimum_of a → waiting_of b ≡ waiting_of a → RelocatesNone b c → RelocatesNone a c
  removed-after a b c buckets minimum waiting r = record {
    all = rw buckets at r.all;
    fewer = rw (buckets, waiting) at r.fewer;
    less = rw (buckets, pending-same a b waiting) at r.less;
    waiting = rw (buckets, minimum, waiting) at r.waiting;
  }

  -- a shrink after a change that keeps the number of buckets and the waiting buckets relocates none
  pub shrunk-after : (a b c : Contents E S) → bucket_count b ≡ bucket_count a → minimum_of b ≡ minimum_of a → waiting_of b ≡ waiting_of a → Resizes b c → Spreads (IsShrinkDue (minimum_of b) b) b c → RelocatesNone a c
  shrunk-after a b c buckets minimum waiting r s = removed-after a b c buckets minimum waiting record {
    all = s.all;
    fewer = s.fewer;
    less = s.less;
    waiting = λ none. s.waiting (λ due. none due.buckets (subst (λ n. IsSmaller (minimum_of b) n (bucket_count b) due.buckets) (sym (length_permutation (entries b) (entries c) r.same)) due.smaller));
  }

  -- a change that keeps the number of buckets and the waiting buckets, without a resize, relocates none
  pub kept-after : (a b : Contents E S) → bucket_count b ≡ bucket_count a → waiting_of b ≡ waiting_of a → RelocatesNone a b
  kept-after a b buckets waiting = record {
    all = λ ne. absurd (ne buckets);
    fewer = λ _ i up. ap (λ ws. waits_at ws i) (sym waiting) ∙ up;
    less = λ _. omega (arith, pending-same a b waiting);
    waiting = λ _. waiting;
  }
