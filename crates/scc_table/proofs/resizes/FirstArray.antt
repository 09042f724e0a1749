-- The first array is made.
use Rattle.std.proofs.Common.{◌≡◌, ℕ, ◌*◌, ◌⊎◌, inl, inr, Bool, List, [], length, map, sym, ap, ◌∙◌, subst, arith}
use Rattle.std.specs.List.{IsDistinct}
use Rattle.std.specs.List.Sorted.{IsPermutation}
use Rattle.std.proofs.lemmas.List.{nil_from_length}
use Rattle.std.proofs.lemmas.List.Sorted.{IsPermutation-refl}
use Rattle.scc_common.specs.Contents.{Contents, entries, bucket_count, minimum_of, settings_of, overflow_of}
use Rattle.scc_common.specs.Sizes.{IsBucketCount, IsArraySize}
use Rattle.scc_common.specs.Steps.{Grows, IsUnchanged, Rests}
use Rattle.scc_draining.specs.Drainings.{Draining}
use Rattle.scc_table.specs.TwoArrays.{IsTable, together}
use Rattle.scc_table.proofs.arrays.CurrentCalls.{fields-lone}
use Rattle.scc_table.proofs.arrays.Views.{count-seen}
use Rattle.scc_draining.proofs.Arriving.{IsDistinct-nil}

-- without buckets there are no flags
no-flags : (ws : List Bool) (n : ℕ) → (ws ≡ []) ⊎ (length ws ≡ n) → n ≡ 0 → ws ≡ []
no-flags ws n flags none = elim flags [ inl z ↦ z | inr z ↦ nil_from_length ws (z ∙ none) ]

pub first-flags : {E K S : Type 0} {eq : K → K → Bool} {key : E → K} {hash : K → ℕ} {c a : Contents E S} {drain : Draining E} → IsTable eq key hash c drain → together (λ e. hash (key e)) c drain.waiting drain.array ≡ a → bucket_count a ≡ 0 → drain.waiting ≡ []
first-flags {key = key} {hash} {c} {a} {drain} inv view none = no-flags drain.waiting (bucket_count c) inv.arrays.flags (sym (count-seen (λ e. hash (key e)) c drain.waiting drain.array a view inv.arrays.flags) ∙ none)

module _ {E S : Type 0} (a d : Contents E S) where
  pub first-rests : bucket_count a ≡ 0 → entries a ≡ [] → entries d ≡ [] → settings_of d ≡ settings_of a → IsBucketCount (bucket_count d) → Rests a d
  first-rests none bare still settings array = inr (
    λ z. absurd (omega (arith, array.least)),
    record {
      same = subst (λ es. IsPermutation es (entries d)) (still ∙ sym bare) (IsPermutation-refl (entries d));
      size = record { lawful = inr array; minimum = λ less. absurd (omega arith) };
      settings = settings;
    },
  )

  pub first-grows : bucket_count a ≡ 0 → IsArraySize (minimum_of a) (32 * bucket_count d) → Grows a d
  first-grows none size = record { first = λ z ne. size; half = λ some ne. absurd (omega arith); below = λ some ne. absurd (omega arith); doubled = λ some ne. absurd (omega arith); not_waiting = λ some ne. absurd (omega arith) }

pub same-rests : {E S : Type 0} (a d : Contents E S) → d ≡ a → IsUnchanged a d × Grows a d
same-rests a d same = (record { exact = ap entries same; buckets = ap bucket_count same; settings = ap settings_of same }, record { first = λ z ne. absurd (ne (ap bucket_count same)); half = λ z ne. absurd (ne (ap bucket_count same)); below = λ z ne. absurd (ne (ap bucket_count same)); doubled = λ z ne. absurd (ne (ap bucket_count same)); not_waiting = λ z ne. absurd (ne (ap bucket_count same)) })

-- if no bucket waits and d has no entries, the invariant `IsTable` holds of d
pub fields-first : {E K S : Type 0} (eq : K → K → Bool) (key : E → K) (hash : K → ℕ) (c d : Contents E S) (drain : Draining E) → IsTable eq key hash c drain → drain.waiting ≡ [] → settings_of d ≡ settings_of c → entries d ≡ [] → overflow_of d ≡ 0
    → IsTable eq key hash d drain
fields-first eq key hash c d drain inv none settings still bounded = fields-lone eq key hash c d drain inv none settings (omega (arith, bounded)) (subst (λ es. IsDistinct eq (map key es)) (sym still) (IsDistinct-nil eq))
