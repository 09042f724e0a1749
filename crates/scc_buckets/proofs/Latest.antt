-- An entry that stands last in its list already.
use Rattle.std.proofs.Common.{◌≡◌, ℕ, zero, suc, ◌<◌, List, [], ◌∷◌, ◌++◌, length, get_or, set, refl, sym, ap, arith, Some}
use Rattle.std.specs.List.{remove, slice_get}
use Rattle.scc_buckets.specs.Bounded.{IsBounded, HasList}
use Rattle.scc_common.specs.Contents.{Contents, bucket_count, list_of, lists_of}

-- if the last element is taken out and put at the end again, the list is unchanged
put-last : {X : Type 0} (xs : List X) (i : ℕ) → suc i ≡ length xs → (x : X) × (slice_get xs i ≡ Some x) × (remove xs i ++ x ∷ [] ≡ xs)
put-last [] i e = absurd (omega arith)
put-last (x ∷ []) zero e = (x, refl, refl)
put-last (x ∷ y ∷ xs) zero e = absurd (omega arith)
put-last (x ∷ xs) (suc i) e = let r = put-last xs i (omega arith) in (r.0, r.1, ap (λ l. x ∷ l) r.2)

set-same : {X : Type 0} (xs : List X) (i : ℕ) (d : X) → i < length xs → set xs i (get_or xs i d) ≡ xs
set-same [] i d h = absurd (omega arith)
set-same (x ∷ xs) zero d h = refl
set-same (x ∷ xs) (suc i) d h = ap (λ l. x ∷ l) (set-same xs i d (omega arith))

module _ {E S : Type 0} (c : Contents E S) (i k : ℕ) where
  -- if the entry at slot k is the last of list i, to move it to the end of list i changes nothing
  pub stands-last : i < bucket_count c → IsBounded c → suc k ≡ length (list_of c i) → (e : E) × (slice_get (list_of c i) k ≡ Some e) × HasList c i (remove (list_of c i) k ++ e ∷ []) c
  unfolding list_of lists_of bucket_count
  stands-last h b e =
      let r = put-last (get_or c.lists i []) k e in
      (r.0, r.1, record { lists = sym (rw r.2 (set-same c.lists i [] h)); settings = refl; refused = refl; bounded = b })
