-- The entries of the old array that are left after a bucket got its own.
use Rattle.std.proofs.Common.{◌≡◌, ◌==◌, ℕ, suc, ◌<◌, ◌≢◌, Bool, true, false, not, cond, set, get_or-set_other, List, [], ◌∷◌, ◌++◌, length, refl, sym, ap, ◌∙◌, arith, rules, eqb-true}
use Rattle.std.specs.List.{count_by, flat_map}
use Rattle.std.proofs.lemmas.List.Elements.{filter-append}
use native.Mathlib.Decide.{dec_lt}
use Rattle.scc_array.specs.Shelves.{shelf_of}
use Rattle.scc_array.specs.Shelf.{Shelf, shelf_entries}
use Rattle.scc_buckets.specs.Pour.{destined_for}
use Rattle.scc_common.specs.Routing.{bucket_number}
use Rattle.scc_buckets.proofs.PairSplits.{by_answer}
use Rattle.scc_common.specs.Contents.{Contents, bucket_count, settings_of}
use Rattle.scc_draining.specs.Moves.{others_for, TakesOver}
use Rattle.scc_draining.specs.Waiting.{waits_at}
use Rattle.scc_draining.proofs.Flags.{none-up}

pub not_equal : (a b : ℕ) → a ≢ b → (a == b) ≡ false
not_equal a b h = search rules

module _ {E : Type 0} (hash : E → ℕ) (t n i : ℕ) where
  -- the entries of the other buckets have no entry of bucket i
  pub destined-others_none : (es : List E) → destined_for hash t n i (others_for hash t n i es) ≡ []
  destined-others_none [] = refl
  destined-others_none (e ∷ es) = by_answer (bucket_number t n (hash e) == i) (λ q. rw q (destined-others_none es)) (λ q. rw (q, q) (destined-others_none es))

  -- the entries of the other buckets have all entries of each bucket k other than i
  pub destined-others_same : (k : ℕ) → k ≢ i → (es : List E) → destined_for hash t n k (others_for hash t n i es) ≡ destined_for hash t n k es
  destined-others_same k ne [] = refl
  destined-others_same k ne (e ∷ es) = by_answer (bucket_number t n (hash e) == i)
      (λ q.
      let other : (bucket_number t n (hash e) == k) ≡ false = not_equal _ _ (λ z. ne (sym z ∙ eqb-true (bucket_number t n (hash e)) i q)) in
      rw (q, other) (destined-others_same k ne es))
      (λ q. rw q (ap (λ z. cond (bucket_number t n (hash e) == k) (e ∷ z) z) (destined-others_same k ne es)))

  -- if each old bucket keeps its entries of other buckets, the old array keeps the entries of other buckets
  pub flat-others : (olds news : List (Shelf E)) → length news ≡ length olds → ((j : ℕ) → j < length olds → shelf_entries (shelf_of news j) ≡ others_for hash t n i (shelf_entries (shelf_of olds j)))
      → flat_map shelf_entries news ≡ others_for hash t n i (flat_map shelf_entries olds)
  flat-others [] [] l h = refl
  flat-others [] (b ∷ news) l h = absurd (omega arith)
  flat-others (a ∷ olds) [] l h = absurd (omega arith)
  flat-others (a ∷ olds) (b ∷ news) l h =
      ap (λ z. z ++ flat_map shelf_entries news) (h 0 (omega arith)) ∙ ap (λ z. others_for hash t n i (shelf_entries a) ++ z) (flat-others olds news (omega arith) (λ j q. h (suc j) (omega arith)))
      ∙ sym (filter-append (λ e. not (bucket_number t n (hash e) == i)) (shelf_entries a) (flat_map shelf_entries olds))

equal : (a b : ℕ) → a ≡ b → (a == b) ≡ true
equal a b h = search rules

-- if no bucket has an entry of the list es, es is empty
pub destined-nowhere : {E : Type 0} (hash : E → ℕ) (t n : ℕ) (es : List E) → ((i : ℕ) → destined_for hash t n i es ≡ []) → es ≡ []
destined-nowhere hash t n [] h = refl
destined-nowhere hash t n (e ∷ es) h =
    let i : ℕ = bucket_number t n (hash e) in
    let here : (bucket_number t n (hash e) == i) ≡ true = equal _ _ refl in
    absurd (let z = rw here at (h i) in cc)

-- if no bucket but i waits, the old array holds no entries after bucket i has got its own
pub bare-last : {E S : Type 0} (hash : E → ℕ) (i n : ℕ) (c d : Contents E S) (ws : List Bool) (olds news : List (Shelf E)) → TakesOver hash i n c olds d news
    → ((k : ℕ) → waits_at ws k ≡ false → destined_for hash (settings_of c).skipped (bucket_count c) k (flat_map shelf_entries olds) ≡ []) → count_by (λ w. w) (set ws i false) ≡ 0 → flat_map shelf_entries news ≡ []
bare-last hash i n c d ws olds news takes not_waiting none =
    let t = (settings_of c).skipped in
    let m = bucket_count c in
    let es = flat_map shelf_entries olds in
    let left = flat-others hash t m i olds news takes.count takes.kept in
    let apart = λ (k : ℕ) (ne : k ≢ i). destined-others_same hash t m i k ne es ∙ not_waiting k (sym (get_or-set_other ws i k false false ne) ∙ none-up (set ws i false) none k) in
    let nowhere : (k : ℕ) → destined_for hash t m k (others_for hash t m i es) ≡ [] = λ k. elim (dec_lt k i) [
      | yes r ↦ apart k (omega arith)
      | no r ↦ elim (dec_lt i k) [
        | yes s ↦ apart k (omega arith)
        | no s ↦ let same : k ≡ i = omega arith in ap (λ z. destined_for hash t m z (others_for hash t m i es)) same ∙ destined-others_none hash t m i es
      ]
    ] in
    left ∙ destined-nowhere hash t m (others_for hash t m i es) nowhere
