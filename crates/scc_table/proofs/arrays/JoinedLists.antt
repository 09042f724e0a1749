-- The lists of two arrays together.
use Rattle.std.proofs.Common.{◌≡◌, ◌==◌, ℕ, zero, suc, ◌+◌, ◌<◌, ◌⊎◌, inl, inr, Bool, cond, List, [], ◌∷◌, length, get_or, refl, sym, ap, ◌∙◌, arith}
use Rattle.std.specs.List.{filter, flat_map, count_by}
use Rattle.scc_array.specs.Shelf.{Shelf, shelf_entries}
use Rattle.scc_common.specs.Contents.{Contents, bucket_count, lists_of, settings_of, notes_of, waiting_of, owed_of, pending_of}
use Rattle.scc_table.specs.TwoArrays.{joined, together, target_by, waits_at, owed_in}

module _ {E : Type 0} (target : E → ℕ) (es : List E) where
  pub length-joined : (i : ℕ) (ws : List Bool) (ls : List (List E)) → (ws ≡ []) ⊎ (length ws ≡ length ls) → length (joined target i ws ls es) ≡ length ls
  length-joined i [] ls h = refl
  length-joined i (w ∷ ws) [] h = refl
  length-joined i (w ∷ ws) (l ∷ ls) h = elim h [
    | inl n ↦ absurd (let z : w ∷ ws ≡ [] = n in cc)
    | inr n ↦ ap suc (length-joined (suc i) ws ls (inr (omega arith)))
  ]

  pub get-joined : (i k : ℕ) (ws : List Bool) (ls : List (List E)) → length ws ≡ length ls → k < length ls → get_or (joined target i ws ls es) k [] ≡ cond (waits_at ws k) (filter (λ e. target e == i + k) es) (get_or ls k [])
  get-joined i k [] ls h l = absurd (omega arith)
  get-joined i k (w ∷ ws) [] h l = absurd (omega arith)
  get-joined i zero (w ∷ ws) (l ∷ ls) h q = let z : i + 0 ≡ i = omega arith in ap (λ n. cond w (filter (λ e. target e == n) es) l) (sym z)
  get-joined i (suc k) (w ∷ ws) (l ∷ ls) h q =
      let z : suc i + k ≡ i + suc k = omega arith in
      get-joined (suc i) k ws ls (omega arith) (omega arith) ∙ ap (λ n. cond (waits_at ws k) (filter (λ e. target e == n) es) (get_or ls k [])) z

-- the parts of the contents of both arrays
module _ {E S : Type 0} (hash : E → ℕ) (c : Contents E S) (ws : List Bool) (olds : List (Shelf E)) where
  pub settings-together : settings_of (together hash c ws olds) ≡ settings_of c
  unfolding settings_of
  settings-together = refl

  pub refused-together : notes_of (together hash c ws olds) ≡ notes_of c
  unfolding notes_of
  refused-together = refl

  pub waiting-together : waiting_of (together hash c ws olds) ≡ ws
  unfolding waiting_of
  waiting-together = refl

  pub owed-together : owed_of (together hash c ws olds) ≡ owed_in (target_by hash c) ws olds
  unfolding owed_of
  owed-together = refl

  pub lists-together : lists_of (together hash c ws olds) ≡ joined (target_by hash c) 0 ws (lists_of c) (flat_map shelf_entries olds)
  unfolding lists_of
  lists-together = refl

  pub pending-together : pending_of (together hash c ws olds) ≡ count_by (λ w. w) ws
  unfolding pending_of
  pending-together = refl

  pub count-together : (ws ≡ []) ⊎ (length ws ≡ bucket_count c) → bucket_count (together hash c ws olds) ≡ bucket_count c
  unfolding bucket_count lists_of
  count-together flags = length-joined (target_by hash c) (flat_map shelf_entries olds) 0 ws c.lists flags

-- if some bucket waits, there is a flag for each bucket
pub flags-length : {E S : Type 0} (c : Contents E S) (ws : List Bool) (n : ℕ) → (ws ≡ []) ⊎ (length ws ≡ bucket_count c) → n ≡ count_by (λ w. w) ws → 0 < n → length ws ≡ bucket_count c
flags-length c ws n flags counted some = elim flags [
  | inl z ↦ absurd (let e : n ≡ 0 = counted ∙ ap (count_by (λ w. w)) z in omega arith)
  | inr z ↦ z
]
