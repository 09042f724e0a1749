-- Growths of a table whose lists hold at most 32 entries, to arrays of a greatest size.
use Rattle.std.proofs.Common.{◌≡◌, ◌≢◌, ◌∙◌, ◌<◌, ◌≤◌, ℕ, [], inl, inr, length, refl, sym, ap, subst, arith}
use Rattle.std.proofs.lemmas.Bool.{cases_order}
use Rattle.scc_buckets.specs.Bounded.{HasListsOf}
use Rattle.scc_common.specs.Contents.{Contents, bucket_count, entries, list_of, pending_of, IsNoteUp}
use Rattle.scc_table.specs.Bounded.{GrowsBelow, IsDoublingDue, denied, doubles, has_room, is_full, makes, stays}

module _ {E S : Type 0} (hash : E → ℕ) (most i : ℕ) (c : Contents E S) where
  -- while a bucket waits, a new key changes nothing
  pub grows-waiting : 0 < bucket_count c → 0 < pending_of c → GrowsBelow hash most i c c
  grows-waiting some waits =
      let none : IsDoublingDue most c → ⊥ = λ due. let z = due.not_waiting in absurd (omega (arith, waits)) in
      let long : 32 ≤ length (list_of c i) → GrowsBelow hash most i c c = λ l. is_full some l (stays none refl) in
      elim (cases_order (length (list_of c i)) 32) as (λ _. GrowsBelow hash most i c c) [
        | inl same ↦ long (omega (arith, same))
        | inr other ↦ elim other as (λ _. GrowsBelow hash most i c c) [ inl l ↦ has_room some l refl | inr l ↦ long (omega (arith, l)) ]
      ]

  -- if the array has grown from c to b as far as it could, and a doubling is still due, c has kept its lists
  pub grows-marked : (b d : Contents E S) → 0 < bucket_count b → (bucket_count c ≡ 0 → entries b ≡ []) → (0 < bucket_count c → bucket_count b ≢ bucket_count c → pending_of b ≡ bucket_count b)
      → IsDoublingDue most b → (b ≡ c → 32 ≤ length (list_of c i)) → HasListsOf b d → IsNoteUp d → GrowsBelow hash most i c b → GrowsBelow hash most i c d
  grows-marked b d some bare all due full lists up grown =
      elim grown as (λ _. GrowsBelow hash most i c d) [
        | makes none size notes resized ↦
            let z = ap length (bare none) in
            let h = due.half in
            absurd (omega (arith, some))
        | has_room had few same ↦ let l = full same in absurd (omega (arith, few))
        | is_full had long double ↦ elim double as (λ _. GrowsBelow hash most i c d) [
          | stays none same ↦ absurd (none (subst (IsDoublingDue most) same due))
          | denied was noted kept ↦ is_full had long (denied was up record {
            lists = lists.lists ∙ kept.lists;
            settings = lists.settings ∙ kept.settings;
            spilled = lists.spilled ∙ kept.spilled;
          })
          | doubles was unmarked down size resized ↦
              let p = all had (λ e. let n = sym size ∙ e in absurd (omega (arith, had, n))) in
              let w = due.not_waiting in
              absurd (omega (arith, some, p))
        ]
      ]
