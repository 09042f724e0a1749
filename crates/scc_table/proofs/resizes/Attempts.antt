-- Which buckets wait after a resize is tried.
use Rattle.std.proofs.Common.{◌≡◌, ◌≢◌, ℕ, ◌*◌, ◌<◌, ◌≤◌, length, max, sym, ap, ◌∙◌, subst, arith}
use Rattle.scc_common.specs.Contents.{Contents, entries, bucket_count, minimum_of, pending_of, waiting_of, owed_of}
use Rattle.scc_common.specs.Sizes.{IsArraySize, IsSmaller}
use Rattle.scc_buckets.proofs.Powers.{size-once}
use Rattle.scc_table.specs.Relocates.{IsBelowMinimum, IsShrinkDue, Spreads}
use Rattle.scc_table.specs.TwoArrays.{IsWaiting, waits_at}
use Rattle.scc_table.proofs.arrays.SameParts.{pending-same}

module _ {E S : Type 0} {due : Type 0} (c d : Contents E S) where
  -- if the resize is made and all buckets wait, `Spreads` holds
  pub spreads-all : (n : ℕ) → bucket_count d ≡ n → n ≢ bucket_count c → pending_of d ≡ n → due → Spreads due c d
  spreads-all n count other pending is =
      record { all = λ ne. pending ∙ sym count; fewer = λ e i w. absurd (other (sym count ∙ e)); less = λ e. absurd (other (sym count ∙ e)); waiting = λ no. absurd (no is); owed = λ no. absurd (no is) }

  -- if the resize is refused and no bucket starts to wait, `Spreads` holds
  pub spreads-less : bucket_count d ≡ bucket_count c → ((i : ℕ) → IsWaiting d i → IsWaiting c i) → pending_of d ≤ pending_of c → due → Spreads due c d
  spreads-less count fewer less is = record { all = λ ne. absurd (ne count); fewer = λ e. fewer; less = λ e. less; waiting = λ no. absurd (no is); owed = λ no. absurd (no is) }

-- an array with fewer buckets than the array of the minimum is below the minimum
pub growth-due : {E S : Type 0} (m n : ℕ) (c : Contents E S) → 0 < bucket_count c → IsArraySize m (32 * n) → bucket_count c < n → IsBelowMinimum m c
growth-due m n c some size less = record { array = some; fewer = λ slots is. let e = size-once _ _ _ size is in omega arith }

-- a shrink that is made is due
pub shrink-due : {E S : Type 0} (k l : ℕ) (c : Contents E S) → IsArraySize (minimum_of c) (32 * k) → IsArraySize (2 * length (entries c)) (32 * l) → length (entries c) ≤ 4 * bucket_count c → max k l < bucket_count c → IsShrinkDue (minimum_of c) c
shrink-due k l c sm sl few less = record {
  buckets = max k l;
  smaller = record { few = omega arith; fewer = less; size = λ m n am an. let em = size-once _ _ _ sm am in let en = size-once _ _ _ sl an in omega arith };
}

-- `Spreads` holds if a resize is tried after a change that keeps the waiting buckets
pub spreads-after : {E S : Type 0} {due later : Type 0} (a b d : Contents E S) → bucket_count b ≡ bucket_count a → waiting_of b ≡ waiting_of a → owed_of b ≡ owed_of a → (due → later) → Spreads due b d → Spreads later a d
spreads-after a b d counts waiting left is s = record {
  all = λ ne. s.all (λ e. ne (e ∙ counts));
  fewer = λ e i w. ap (λ ws. waits_at ws i) (sym waiting) ∙ s.fewer (e ∙ sym counts) i w;
  less = λ e. let z = s.less (e ∙ sym counts) in let p = pending-same a b waiting in omega arith;
  waiting = λ no. s.waiting (λ x. no (is x)) ∙ waiting;
  owed = λ no. s.owed (λ x. no (is x)) ∙ left;
}

pub growth-due_after : {E S : Type 0} (m n : ℕ) (a b : Contents E S) → m ≡ n → bucket_count b ≡ bucket_count a → IsBelowMinimum m b → IsBelowMinimum n a
growth-due_after m n a b same counts h = record { array = omega (arith, h.array, counts); fewer = λ slots is. let z = h.fewer slots (subst (λ k. IsArraySize k slots) (sym same) is) in omega (arith, counts) }

pub shrink-due_after : {E S : Type 0} (m n : ℕ) (a b : Contents E S) → m ≡ n → bucket_count b ≡ bucket_count a → entries b ≡ entries a → IsShrinkDue m b → IsShrinkDue n a
shrink-due_after m n a b same counts all h =
    record { buckets = h.buckets; smaller = subst (λ k. IsSmaller k (length (entries a)) (bucket_count a) h.buckets) same (subst (λ k. IsSmaller m (length (entries a)) k h.buckets) counts (subst (λ es. IsSmaller m (length es) (bucket_count b) h.buckets) all h.smaller)) }
