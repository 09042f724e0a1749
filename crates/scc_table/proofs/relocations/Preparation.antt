-- What holds of a bucket before it is relocated.
use Rattle.std.proofs.Common.{◌≡◌, ◌==◌, ℕ, ◌+◌, ◌<◌, ◌≢◌, ◌⊎◌, inl, inr, Bool, true, false, cond, List, [], length, map, set, get_or, sym, ap, ◌∙◌, arith, length-set, get_or-set_same, get_or-set_other}
use Rattle.std.specs.List.{filter, flat_map, IsDistinct}
use Rattle.std.proofs.lemmas.List.{get_or_past}
use native.Mathlib.Decide.{dec_lt}
use Rattle.scc_array.specs.Shelf.{Shelf, shelf_entries}
use Rattle.scc_common.specs.Contents.{Contents, entries, bucket_count, list_of, lists_of, settings_of}
use Rattle.scc_buckets.specs.Pour.{destined_for}
use Rattle.scc_common.specs.Sizes.{IsBucketCount}
use Rattle.scc_buckets.proofs.PairSplits.{by_answer}
use Rattle.scc_draining.specs.Moves.{AreMultiples}
use Rattle.scc_table.specs.TwoArrays.{joined, waits_at, target_by, together, TwoArrays}
use Rattle.scc_table.proofs.arrays.JoinedLists.{get-joined, length-joined}
use Rattle.scc_table.proofs.relocations.Fields.{count-is, list-is}
use Rattle.scc_draining.proofs.Flags.{up-within}
use Rattle.scc_draining.proofs.Sublists.{flat-sub, distinct-sub}

module _ {E S : Type 0} (hash : E → ℕ) (c : Contents E S) (ws : List Bool) (olds : List (Shelf E)) (arrays : TwoArrays hash c ws olds) (i : ℕ) (up : waits_at ws i ≡ true) (long : length ws ≡ bucket_count c) where
  -- the list of a waiting bucket has its entries of the old array
  pub waiting-list : list_of (together hash c ws olds) i ≡ destined_for hash (settings_of c).skipped (bucket_count c) i (flat_map shelf_entries olds)
  unfolding list_of lists_of
  waiting-list =
      let l : length ws ≡ length c.lists = long ∙ count-is c in
      let within = up-within ws i up in
      let near : 0 + i ≡ i = omega arith in
      let es = flat_map shelf_entries olds in
      get-joined (target_by hash c) es 0 i ws c.lists l (omega arith) ∙ ap (λ (v : Bool). cond v (filter (λ e. target_by hash c e == 0 + i) es) (get_or c.lists i [])) up ∙ ap (λ m. filter (λ e. target_by hash c e == m) es) near

  parts : (k : ℕ) → (get_or (set (lists_of c) i (destined_for hash (settings_of c).skipped (bucket_count c) i (flat_map shelf_entries olds))) k [] ≡ get_or (joined (target_by hash c) 0 ws (lists_of c) (flat_map shelf_entries olds)) k [])
      ⊎ (get_or (set (lists_of c) i (destined_for hash (settings_of c).skipped (bucket_count c) i (flat_map shelf_entries olds))) k [] ≡ [])
  parts k =
      let es = flat_map shelf_entries olds in
      let b = destined_for hash (settings_of c).skipped (bucket_count c) i es in
      let ls = lists_of c in
      let l : length ws ≡ length ls = long ∙ count-is c in
      let near : 0 + k ≡ k = omega arith in
      let apart = λ (ne : k ≢ i) (lk : k < length ls).
      let mine = get_or-set_other ls i k b [] ne in
      let right = get-joined (target_by hash c) es 0 k ws ls l lk in
      by_answer {P = (get_or (set ls i b) k [] ≡ get_or (joined (target_by hash c) 0 ws ls es) k []) ⊎ (get_or (set ls i b) k [] ≡ [])} (waits_at ws k)
      (λ q. inr (mine ∙ sym (list-is c k) ∙ arrays.bare k q))
      (λ q. inl (mine ∙ sym (ap (λ (v : Bool). cond v (filter (λ e. target_by hash c e == 0 + k) es) (get_or ls k [])) q) ∙ sym right)) in
      elim (dec_lt k (length ls)) [
        | no far ↦ inr (get_or_past (set ls i b) k [] (omega (arith, length-set ls i b)))
        | yes lk ↦ elim (dec_lt k i) [
          | yes r ↦ apart (omega arith) lk
          | no r ↦ elim (dec_lt i k) [
            | yes s ↦ apart (omega arith) lk
            | no s ↦
                let here : k ≡ i = omega arith in
                inl (ap (λ m. get_or (set ls i b) m []) here ∙ get_or-set_same ls i b [] (omega arith)
                ∙ sym (get-joined (target_by hash c) es 0 k ws ls l lk ∙ ap (λ (v : Bool). cond v (filter (λ e. target_by hash c e == 0 + k) es) (get_or ls k [])) (ap (waits_at ws) here ∙ up)
                ∙ ap (λ m. filter (λ e. target_by hash c e == m) es) (near ∙ here)))
          ]
        ]
      ]

  -- keys in the current array are distinct after bucket i gets its entries of the old array
  pub unique-before : {K : Type 0} (eq : K → K → Bool) (key : E → K) → IsDistinct eq (map key (entries (together hash c ws olds)))
      → IsDistinct eq (map key (flat_map (λ l. l) (set (lists_of c) i (destined_for hash (settings_of c).skipped (bucket_count c) i (flat_map shelf_entries olds)))))
  unfolding entries
  unique-before eq key u =
      let es = flat_map shelf_entries olds in
      let ls = lists_of c in
      let b = destined_for hash (settings_of c).skipped (bucket_count c) i es in
      let l : length ws ≡ length ls = long ∙ count-is c in
      distinct-sub eq key (flat-sub (set ls i b) (joined (target_by hash c) 0 ws ls es) (length-set ls i b ∙ sym (length-joined (target_by hash c) es 0 ws ls (inr l))) parts) u

module _ {E S : Type 0} (c : Contents E S) (ws : List Bool) (olds : List (Shelf E)) (i : ℕ) where
  some-flag : {P : Type 0} → waits_at ws i ≡ true → ws ≡ [] → P
  some-flag up z = absurd (let q : false ≡ true = ap (λ w. waits_at w i) (sym z) ∙ up in cc)

  pub multiple-flags : (ws ≡ []) ⊎ AreMultiples (length olds) (bucket_count c) → waits_at ws i ≡ true → AreMultiples (length olds) (bucket_count c)
  multiple-flags h up = elim h [ inl z ↦ some-flag up z | inr z ↦ z ]

  pub sized-flags : (ws ≡ []) ⊎ IsBucketCount (length olds) → waits_at ws i ≡ true → IsBucketCount (length olds)
  sized-flags h up = elim h [ inl z ↦ some-flag up z | inr z ↦ z ]

-- if some bucket waits, there is a flag for each bucket
pub long-flags : {E S : Type 0} (c : Contents E S) (ws : List Bool) (i : ℕ) → (ws ≡ []) ⊎ (length ws ≡ bucket_count c) → waits_at ws i ≡ true → length ws ≡ bucket_count c
long-flags c ws i h up = elim h [ inl z ↦ absurd (let q : false ≡ true = ap (λ w. waits_at w i) (sym z) ∙ up in cc) | inr z ↦ z ]
