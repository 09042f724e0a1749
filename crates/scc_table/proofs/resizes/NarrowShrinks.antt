-- A shrink that is due by the number of entries, after which each bucket holds at most 32 of them.
use Rattle.std.proofs.Common.{◌≡◌, ℕ, ◌*◌, ◌<◌, ◌≤◌, length, max, sym, ◌∙◌, subst, arith}
use Rattle.scc_buckets.specs.Bounded.{IsBounded, IsListed, IsResized, MayShrinkWithin}
use Rattle.scc_buckets.specs.Pour.{IsRegrouped, destined_for}
use Rattle.scc_common.specs.Contents.{Contents, bucket_count, entries, minimum_of, settings_of}
use Rattle.scc_common.specs.Sizes.{IsArraySize, IsBucketCount, IsSmaller}
use Rattle.scc_buckets.proofs.Powers.{max-array, smaller-only, smaller-to}
use Rattle.scc_table.proofs.relocations.ShortLists.{listed-resized}

-- n is the greater of the numbers of buckets that the minimum of a and twice its entries ask for
pub record IsNarrow {E S : Type 0} (a : Contents E S) (k l n : ℕ) : Type 0 where
  pub greater : n ≡ max k l
  pub least : IsArraySize (minimum_of a) (32 * k)
  pub fitting : IsArraySize (2 * length (entries a)) (32 * l)

pub narrow-is : {E S : Type 0} (a : Contents E S) {k l n m w : ℕ} → n ≡ max k l → m ≡ minimum_of a → IsArraySize m (32 * k) → w ≡ length (entries a) → IsArraySize (2 * w) (32 * l) → IsNarrow a k l n
narrow-is a {k} {l} greater minimum least held fitting = record { greater = greater; least = subst (λ z. IsArraySize z (32 * k)) minimum least; fitting = subst (λ z. IsArraySize (2 * z) (32 * l)) held fitting }

module _ {E S : Type 0} {a : Contents E S} {k l n : ℕ} (x : IsNarrow a k l n) where
  -- a shrink that may be made goes to n buckets
  pub narrow-only : {m : ℕ} → IsSmaller (minimum_of a) (length (entries a)) (bucket_count a) m → m ≡ n
  narrow-only {m} smaller = smaller-only k l m _ _ _ x.least x.fitting smaller ∙ sym x.greater

  -- a shrink to n buckets may be made if they are fewer than the present ones and no bucket would hold more than 32
  pub narrow-may : (hash : E → ℕ) → IsBucketCount k → IsBucketCount l → length (entries a) ≤ 4 * bucket_count a → n < bucket_count a
      → ((i : ℕ) → i < n → length (destined_for hash (settings_of a).skipped n i (entries a)) ≤ 32) → MayShrinkWithin hash a n
  narrow-may hash first second few less short = record {
    array = subst IsBucketCount (sym x.greater) (max-array k l first second);
    smaller = subst (λ m. IsSmaller (minimum_of a) (length (entries a)) (bucket_count a) m) (sym x.greater) (smaller-to k l _ _ _ x.least x.fitting (omega arith) (omega (arith, x.greater, less)));
    short = short;
  }

-- after a shrink to n buckets that may be made
module _ {E S : Type 0} (hash : E → ℕ) {a d : Contents E S} {n : ℕ} (may : MayShrinkWithin hash a n) (lists : IsRegrouped hash n a d) (bounded : IsBounded d) where
  pub narrowed : IsResized hash a d
  narrowed = record {
    array = subst IsBucketCount (sym lists.count) may.array;
    lists = subst (λ m. IsRegrouped hash m a d) (sym lists.count) lists;
    bounded = bounded;
  }

  pub narrowed-smaller : IsSmaller (minimum_of a) (length (entries a)) (bucket_count a) (bucket_count d)
  narrowed-smaller = subst (λ m. IsSmaller (minimum_of a) (length (entries a)) (bucket_count a) m) (sym lists.count) may.smaller

  pub narrowed-listed : IsListed hash d
  narrowed-listed = listed-resized hash a d narrowed (subst (λ m. (i : ℕ) → i < m → length (destined_for hash (settings_of a).skipped m i (entries a)) ≤ 32) (sym lists.count) may.short)
