-- The note and the mark after room is made for a new key.
use Rattle.std.proofs.Common.{◌≡◌, ◌≢◌, ◌∙◌, ◌*◌, ◌^◌, ◌<◌, ◌≤◌, ℕ, Bool, true, inl, inr, Result, length, sym, ap, arith}
use Rattle.std.specs.List.{count_by}
use Rattle.std.proofs.lemmas.Bool.{cases_order}
use Rattle.scc_common.specs.Contents.{Contents, HasRoomAt, bucket_count, entries, lists_of, pending_of, notes_of, settings_of}
use Rattle.scc_table.specs.Growths.{FindsBucketForNew}
use Rattle.scc_table.specs.Marks.{MarksPreparation}
use Rattle.scc_table.proofs.relocations.OneByOne.{pending-is}
use Rattle.scc_table.proofs.resizes.Installation.{count-up}
use Rattle.scc_common.specs.Steps.{IsGrowthDue}
use Rattle.scc_table.proofs.arrays.SameParts.{count-same, entries-same, pending-same}

-- a note and a mark that are known one by one
pub both-are : (x : Bool × Bool) (p q : Bool) → x.0 ≡ p → x.1 ≡ q → x ≡ (p, q)
both-are x p q l r = ap (λ (y : Bool). (y, x.1)) l ∙ ap (λ (y : Bool). (p, y)) r

module _ {E K S X : Type 0} (eq : K → K → Bool) (key : E → K) (hash : K → ℕ) (most : ℕ) (great : most ≡ 2 ^ 63) (a b : Contents E S) (h : ℕ) (result : Result ℕ X) (m : FindsBucketForNew eq key hash most a h result b) where
  -- if no growth is due that wasn't made, the note and the mark are as `MarksPreparation` says
  pub marks-left : (IsGrowthDue hash key a h → bucket_count b ≡ bucket_count a → ⊥) → MarksPreparation hash key a h b
  marks-left none = record {
    stays = λ none_due. m.noted (λ due _. none_due due);
    grown = m.lowered;
    denied = λ due same. absurd (none due same);
    once = λ some marked. m.once some (inr marked);
    marked = λ up. inl (sym (ap (λ (x : Bool × Bool). x.1) (m.marked up)) ∙ up);
  }

  -- if buckets wait, no growth is due that wasn't made
  pub not-not_waiting : 0 < pending_of b → IsGrowthDue hash key a h → bucket_count b ≡ bucket_count a → ⊥
  not-not_waiting waits due same = let p = pending-same a b (m.waiting due.array same) in absurd (omega (arith, due.not_waiting))

  -- if the table holds fewer than half as many entries as slots, no growth is due that wasn't made
  pub not-half : 2 * length (entries b) < 32 * bucket_count b → IsGrowthDue hash key a h → bucket_count b ≡ bucket_count a → ⊥
  not-half few due same =
      let l : length (entries b) ≡ length (entries a) = ap length (entries-same a b (m.stays due.array same)) in
      absurd (omega (arith, due.half))

  -- if the array has the greatest size, no growth is due that wasn't made
  pub not-below : 2 ^ 63 ≤ 32 * bucket_count b → IsGrowthDue hash key a h → bucket_count b ≡ bucket_count a → ⊥
  not-below great due same = absurd (omega (arith, due.below))

  -- if the bucket of the hash has room, no growth is due that wasn't made
  pub not-full : settings_of b ≡ settings_of a → HasRoomAt hash key b h → IsGrowthDue hash key a h → bucket_count b ≡ bucket_count a → ⊥
  not-full settings room due same =
      let lists = sym (m.stays due.array same) in
      due.full (rw (sym settings, count-same b a lists, entries-same b a lists) room)

  -- if no bucket waits and the table holds entries, the number of buckets has stayed
  pub array-same : pending_of b ≡ 0 → 0 < bucket_count b → 0 < length (entries b) → (0 < bucket_count a) × (bucket_count b ≡ bucket_count a)
  array-same not_waiting some entry_count =
      let had : 0 < bucket_count a = elim (cases_order (bucket_count a) 0) as (λ _. 0 < bucket_count a) [
        | inl none ↦ let z = ap length (m.bare none) in absurd (omega arith)
        | inr other ↦ elim other as (λ _. 0 < bucket_count a) [ inl l ↦ absurd (omega (arith, l)) | inr l ↦ l ]
      ] in (
        had,
        elim (cases_order (bucket_count b) (bucket_count a)) as (λ _. bucket_count b ≡ bucket_count a) [
          | inl same ↦ same
          | inr other ↦
              let ne : bucket_count b ≢ bucket_count a = λ e. elim other as (λ _. ⊥) [ inl l ↦ absurd (omega (arith, l, e)) | inr l ↦ absurd (omega (arith, l, e)) ] in
              let p : pending_of b ≡ bucket_count b = pending-is b ∙ ap (count_by (λ w. w)) (m.all had ne) ∙ count-up (bucket_count b) in
              absurd (omega (arith, p, not_waiting))
        ],
      )

  -- a growth was due and wasn't made if no bucket waits, the hash's bucket is full, and the array is half full and can double
  pub due-left : settings_of b ≡ settings_of a → pending_of b ≡ 0 → 0 < bucket_count b → (HasRoomAt hash key b h → ⊥) → 32 * bucket_count b ≤ 2 * length (entries b) → 32 * bucket_count b < 2 ^ 63 → IsGrowthDue hash key a h × (bucket_count b ≡ bucket_count a)
  due-left settings not_waiting some full half below =
      let s = array-same not_waiting some (omega arith) in
      let lists = m.stays s.0 s.1 in
      let p = pending-same a b (m.waiting s.0 s.1) in
      let l : length (entries b) ≡ length (entries a) = ap length (entries-same a b lists) in
      let n = s.1 in (
        record {
          array = s.0;
          not_waiting = sym p ∙ not_waiting;
          full = λ room. full (rw (settings, count-same a b lists, entries-same a b lists) room);
          half = omega (arith, half);
          below = omega (arith, below);
        },
        n,
      )

  -- if a due growth wasn't made, and the note and the mark are up, they are as `MarksPreparation` says
  pub marks-up : (d : Contents E S) → lists_of d ≡ lists_of b → notes_of d ≡ (true, true) → IsGrowthDue hash key a h × (bucket_count b ≡ bucket_count a) → MarksPreparation hash key a h d
  marks-up d lists up due =
      let n = count-same b d lists in
      record {
        stays = λ none. absurd (none due.0);
        grown = λ some ne. absurd (ne (n ∙ due.1));
        denied = λ _ _. up;
        once = λ some marked. n ∙ due.1;
        marked = λ _. inr (ap (λ (x : Bool × Bool). x.0) up);
      }
