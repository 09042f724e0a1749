-- When an insertion makes no resize, and room that is made before an insertion.
use Rattle.std.proofs.Common.{◌≡◌, ◌≢◌, ℕ, ◌<◌, ◌⊎◌, inl, inr, true, [], replicate, refl, sym, ap, ◌∙◌, arith}
use Rattle.std.specs.List.{count_by}
use Rattle.std.proofs.lemmas.Bool.{cases_order}
use Rattle.scc_common.specs.Contents.{Contents, HasRoomAt, bucket_count, lists_of, pending_of, settings_of, waiting_of, IsMarked}
use Rattle.scc_common.specs.Steps.{Grows, IsPreparedAt, IsUnchanged, Prepares, Rests}
use Rattle.scc_table.proofs.relocations.OneByOne.{pending-is}
use Rattle.scc_table.proofs.resizes.Installation.{count-up}
use Rattle.scc_table.proofs.arrays.SameParts.{count-same, entries-same, pending-same}

module _ {E S K : Type 0} (hash : K → ℕ) (key : E → K) (c d : Contents E S) (h : ℕ) where
  -- if an insertion is prepared, the number of buckets stays
  pub once-made : Grows c d → (HasRoomAt hash key c h → bucket_count d ≡ bucket_count c) → (0 < bucket_count c → (0 < pending_of c) ⊎ IsMarked c → bucket_count d ≡ bucket_count c)
      → IsPreparedAt hash key c h → bucket_count d ≡ bucket_count c
  once-made growth room once ready =
      elim ready.1 as (λ _. bucket_count d ≡ bucket_count c) [
        | inl had ↦ room had
        | inr q ↦ elim q as (λ _. bucket_count d ≡ bucket_count c) [
          | inl waits ↦ once ready.0 (inl waits)
          | inr r ↦ elim r as (λ _. bucket_count d ≡ bucket_count c) [
            | inl sparse ↦ elim (cases_order (bucket_count d) (bucket_count c)) as (λ _. bucket_count d ≡ bucket_count c) [
              | inl same ↦ same
              | inr other ↦ let z = growth.half ready.0 (λ e. elim other as (λ _. ⊥) [ inl l ↦ absurd (omega (arith, l, e)) | inr l ↦ absurd (omega (arith, l, e)) ]) in absurd (omega arith)
            ]
            | inr t ↦ elim t as (λ _. bucket_count d ≡ bucket_count c) [
              | inl great ↦ elim (cases_order (bucket_count d) (bucket_count c)) as (λ _. bucket_count d ≡ bucket_count c) [
                | inl same ↦ same
                | inr other ↦ let z = growth.below ready.0 (λ e. elim other as (λ _. ⊥) [ inl l ↦ absurd (omega (arith, l, e)) | inr l ↦ absurd (omega (arith, l, e)) ]) in absurd (omega arith)
              ]
              | inr marked ↦ once ready.0 (inr marked)
            ]
          ]
        ]
      ]

-- if nothing changes, or one resize is made, and then nothing changes, that holds of both together
pub rests-kept : {E S : Type 0} (a b d : Contents E S) → IsUnchanged b d → Rests a b → Rests a d
rests-kept a b d k r =
    elim r as (λ _. Rests a d) [
      | inl u ↦ inl record { exact = k.exact ∙ u.exact; buckets = k.buckets ∙ u.buckets; settings = k.settings ∙ u.settings }
      | inr o ↦ inr (
        λ e. o.0 (sym k.buckets ∙ e),
        record {
          same = rw k.exact o.1.same;
          size = record { lawful = rw k.buckets o.1.size.lawful; minimum = rw k.buckets o.1.size.minimum };
          settings = k.settings ∙ o.1.settings;
        },
      )
    ]

module _ {E S : Type 0} (a b d : Contents E S) (lists : lists_of d ≡ lists_of b) (settings : settings_of d ≡ settings_of b) where
  rests-same : Rests a b → Rests a d
  rests-same = rests-kept a b d record { exact = entries-same b d lists; buckets = count-same b d lists; settings = settings }

  grows-lists : Grows a b → Grows a d
  grows-lists g = let n = count-same b d lists in record { first = rw n g.first; half = rw n g.half; below = rw n g.below; doubled = rw n g.doubled; not_waiting = rw n g.not_waiting }

  -- if room is made from a to b, and d is b with another note and mark, `Prepares` holds from a to d
  pub room-marked : {K : Type 0} (hash : K → ℕ) (key : E → K) (h : ℕ) → waiting_of d ≡ waiting_of b
      → Rests a b → Grows a b → (HasRoomAt hash key a h → b ≡ a) → (0 < bucket_count a → bucket_count b ≢ bucket_count a → waiting_of b ≡ replicate (bucket_count b) true) → (bucket_count a ≡ 0 → waiting_of b ≡ [])
      → (0 < bucket_count a → bucket_count b ≡ bucket_count a → lists_of b ≡ lists_of a) → (0 < bucket_count a → bucket_count b ≡ bucket_count a → waiting_of b ≡ waiting_of a)
      → IsPreparedAt hash key d h → Prepares hash key a h d
  room-marked hash key h waiting rests growth still all first stays waits ready =
      let n = count-same b d lists in
      let p = pending-same b d waiting in
      record {
        rests = rests-same rests;
        growth = grows-lists growth;
        made = ready;
        due = λ ne room. ne (n ∙ ap bucket_count (still room));
        all = λ some ne. p ∙ pending-is b ∙ ap (count_by (λ w. w)) (all some (λ e. ne (n ∙ e))) ∙ count-up (bucket_count b) ∙ sym n;
        first = λ none. p ∙ pending-is b ∙ ap (count_by (λ w. w)) (first none);
        same = λ some e. let f = sym n ∙ e in (lists ∙ stays some f, waiting ∙ waits some f);
      }

module _ {E S K : Type 0} (hash : K → ℕ) (key : E → K) (a b : Contents E S) (h : ℕ) where
  pub room-of : Rests a b → Grows a b → (HasRoomAt hash key a h → b ≡ a) → (0 < bucket_count a → bucket_count b ≢ bucket_count a → waiting_of b ≡ replicate (bucket_count b) true) → (bucket_count a ≡ 0 → waiting_of b ≡ [])
      → (0 < bucket_count a → bucket_count b ≡ bucket_count a → lists_of b ≡ lists_of a) → (0 < bucket_count a → bucket_count b ≡ bucket_count a → waiting_of b ≡ waiting_of a)
      → IsPreparedAt hash key b h → Prepares hash key a h b
  room-of = room-marked a b b refl refl hash key h refl
