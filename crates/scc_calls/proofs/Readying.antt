-- Room is made, and then the call.
use Rattle.std.proofs.Common.{◌≡◌, ◌≢◌, ℕ, ◌≤◌, Bool, true, false, refl, sym, ◌∙◌, subst, arith, inl, inr, ◌⊎◌}
use Rattle.std.specs.Prelude.{◌==◌, MatchBool}
use Rattle.std.proofs.lemmas.Bool.Decides.{nat_tests}
use Rattle.scc_calls.specs.Resized.{MovesResized, Stays}

module _ {S : Type 0} (size : S → ℕ) (resizes : S → ℕ → S → Type 0) where
  split : (old new : S) (b : Bool) → (size old == size new) ≡ b → MatchBool b (new ≡ old) (resizes old (size new) new)
      → (new ≡ old) ⊎ ((size new ≢ size old) × resizes old (size new) new)
  split old new true is e = inl e
  split old new false is r = inr (λ same. let t : (size old == size new) ≡ true = grind (arith, nat_tests, same) in let z : true ≡ false = sym t ∙ is in absurd (cc), r)

  parted : (old new : S) → Stays size resizes old new → (new ≡ old) ⊎ ((size new ≢ size old) × resizes old (size new) new)
  parted old new h = split old new (size old == size new) refl h

  -- a resize to another number of buckets is at most one resize
  pub joined : (old new : S) → size new ≢ size old → resizes old (size new) new → Stays size resizes old new
  joined old new ne r = let f : (size old == size new) ≡ false = grind (arith, nat_tests, ne) in rw f r

  -- room and then a call are one call with at most one resize, if the call doesn't grow, nor shrink after a growth for room
  pub ready-changes : {C R : Type 0} (moves : S → C → R → S → Type 0) (call : C) (reply : R) (old mid new : S) → Stays size resizes old mid → size old ≤ size mid → (size mid ≢ size old → size mid ≤ size new) → size new ≤ size mid
      → MovesResized size moves resizes mid call reply new → MovesResized size moves resizes old call reply new
  ready-changes moves call reply old mid new stays grows kept made h =
      elim (parted old mid stays) as (λ _. MovesResized size moves resizes old call reply new) [
        | inl same ↦ subst (λ s. MovesResized size moves resizes s call reply new) same h
        | inr grown ↦ let up = kept grown.0 in elim h as (λ _. MovesResized size moves resizes old call reply new) [
          | inl c ↦ let ne = grown.0 in inr (inl (omega (arith, ne, c.0), (mid, subst (λ n. resizes old n mid) (sym c.0) grown.1, c.1)))
          | inr c ↦ elim c as (λ _. MovesResized size moves resizes old call reply new) [
            | inl more ↦ absurd (omega (arith, more.0))
            | inr less ↦ absurd (omega (arith, less.0))
          ]
        ]
      ]

  pub ready-stays : (old mid new : S) → Stays size resizes old mid → size old ≤ size mid → (size mid ≢ size old → size mid ≤ size new) → size new ≤ size mid
      → Stays size resizes mid new → Stays size resizes old new
  ready-stays old mid new stays grows kept made h =
      elim (parted old mid stays) as (λ _. Stays size resizes old new) [
        | inl same ↦ subst (λ s. Stays size resizes s new) same h
        | inr grown ↦ let up = kept grown.0 in elim (parted mid new h) as (λ _. Stays size resizes old new) [
          | inl same ↦ subst (λ s. Stays size resizes old s) (sym same) stays
          | inr other ↦ absurd (other.0 (omega arith))
        ]
      ]
