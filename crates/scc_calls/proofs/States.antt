-- From the words of a table to states.
use Rattle.std.proofs.Common.{◌≡◌, ℕ, List, inl, inr, refl, sym, subst, arith}
use Rattle.std.specs.List.Sorted.{IsPermutation}
use Rattle.std.proofs.lemmas.List.Sorted.{IsPermutation-refl}
use Rattle.std.proofs.lemmas.Bool.{cases_order}
use Rattle.scc_common.specs.Contents.{Contents, entries, bucket_count}
use Rattle.scc_common.specs.Sizes.{IsBucketCount}
use Rattle.scc_common.specs.Steps.{Holds, HoldsExactly, IsUnchanged, KeepsSize}
use Rattle.scc_calls.specs.Resized.{MovesResized}
use Rattle.scc_calls.specs.States.{State, ResizesTo, state_of, run_setting}

module _ {E H : Type 0} where
  pub unchanged-state : (c d : Contents E H) → IsUnchanged c d → state_of d ≡ state_of c
  unchanged-state c d h = let e = h.exact in let b = h.buckets in cc

  pub lawful-size : (c d : Contents E H) → KeepsSize c d → (bucket_count d ≡ bucket_count c → ⊥) → IsBucketCount (bucket_count d)
  lawful-size c d h n = elim h.lawful as (λ _. IsBucketCount (bucket_count d)) [ inl e ↦ absurd (n e) | inr a ↦ a ]

  module _ {C R : Type 0} (moves : State E → C → R → State E → Type 0) (call : C) (reply : R) where
    -- a call that may turn the entries into es with any number of buckets is one call with at most one resize
    pub holds-changes : (c d : Contents E H) (es : List E) → Holds c es d
        → ((number : ℕ) (l : List E) → IsPermutation es l → moves (entries c, number) call reply (l, number))
        → MovesResized (λ s. s.1) moves (ResizesTo (run_setting c)) (state_of c) call reply (state_of d)
    holds-changes c d es h m =
        elim (cases_order (bucket_count d) (bucket_count c)) as (λ _. MovesResized (λ (s : State E). s.1) moves (ResizesTo (run_setting c)) (state_of c) call reply (state_of d)) [
          | inl e ↦ inl (e, let P : ℕ → Type 0 = λ n. moves (state_of c) call reply (entries d, n) in subst P (sym e) (m (bucket_count c) (entries d) h.same))
          | inr o ↦ elim o as (λ _. MovesResized (λ (s : State E). s.1) moves (ResizesTo (run_setting c)) (state_of c) call reply (state_of d)) [
            | inl less ↦ inr (inr (
              less,
              (
                (entries d, bucket_count c),
                m (bucket_count c) (entries d) h.same,
                record { same = IsPermutation-refl (entries d); buckets = refl; lawful = lawful-size c d h.size (λ e. omega (arith, e)); minimum = h.size.minimum },
              ),
            ))
            | inr more ↦ inr (inl (
              more,
              (
                (entries c, bucket_count d),
                record { same = IsPermutation-refl (entries c); buckets = refl; lawful = lawful-size c d h.size (λ e. omega (arith, e)); minimum = λ l. absurd (omega (arith, l)) },
                m (bucket_count d) (entries d) h.same,
              ),
            ))
          ]
        ]

    -- a call that changes nothing
    pub unchanged-changes : (c d : Contents E H) → IsUnchanged c d → (state_of d ≡ state_of c → moves (state_of c) call reply (state_of d))
        → MovesResized (λ s. s.1) moves (ResizesTo (run_setting c)) (state_of c) call reply (state_of d)
    unchanged-changes c d h m = inl (h.buckets, m (unchanged-state c d h))

    -- a call that changes entries in their places
    pub exactly-changes : (c d : Contents E H) (es : List E) → HoldsExactly c es d → (entries d ≡ es → bucket_count d ≡ bucket_count c → moves (state_of c) call reply (state_of d))
        → MovesResized (λ s. s.1) moves (ResizesTo (run_setting c)) (state_of c) call reply (state_of d)
    exactly-changes c d es h m = inl (h.buckets, m h.exact h.buckets)
