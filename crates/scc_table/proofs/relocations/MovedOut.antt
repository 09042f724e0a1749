-- A table after a waiting bucket got its entries, whether another bucket waits or not.
use Rattle.std.proofs.Common.{◌≡◌, ◌==◌, ◌∙◌, ℕ, ◌+◌, ◌<◌, ◌≤◌, [], Bool, true, false, zero, suc, length, refl, set, sym, ap, subst, arith, eqb-true}
use Rattle.std.specs.List.{count_by}
use Rattle.scc_common.specs.Contents.{Contents, hash_in, list_of, overflow_of}
use Rattle.scc_buckets.specs.Bounded.{IsBounded}
use Rattle.scc_buckets.specs.Tables.{overflow_in}
use Rattle.scc_buckets.proofs.PairSplits.{by_answer}
use Rattle.scc_draining.specs.Drainings.{Draining, IsMovedOut}
use Rattle.scc_table.specs.TwoArrays.{IsRelocated, IsTable, IsWaiting, together, waits_at}
use Rattle.scc_table.proofs.arrays.OneArray.{bare-together, spilled-together}
use Rattle.scc_table.proofs.arrays.OneBucket.{flag-up, list-coming}
use Rattle.scc_table.proofs.arrays.SameParts.{hash-same}
use Rattle.scc_table.proofs.arrays.Views.{spilled-seen}
use Rattle.scc_table.proofs.relocations.Fields.{bare-after, fields-after, fields-last, last, others, relocated-after, spilled-le}

not-none : (n : ℕ) → (n == 0) ≡ false → 0 < n
not-none zero q = absurd (let z : true ≡ false = q in cc)
not-none (suc n) q = omega arith

module _ {E K S : Type 0} (hash_of : S → K → ℕ) {eq : K → K → Bool} {key : E → K} {c d a : Contents E S} {drain rest : Draining E} {i : ℕ} (inv : IsTable eq key (hash_in hash_of c) c drain) (view : together (λ e. hash_in hash_of c (key e)) c drain.waiting drain.array ≡ a) (waits : IsWaiting a i)
    (out : IsMovedOut (λ e. hash_in hash_of c (key e)) i c drain d rest) where
  abbrev was : E → ℕ
  was e = hash_in hash_of c (key e)

  up : waits_at drain.waiting i ≡ true
  up = flag-up inv i view waits

  same : hash_in hash_of d ≡ hash_in hash_of c
  same = hash-same hash_of c d out.takes.settings

  -- the invariant holds
  pub moved-fields : IsTable eq key (hash_in hash_of d) d rest
  moved-fields =
      let ws = drain.waiting in
      let there : IsTable eq key (hash_in hash_of c) d rest = subst (λ r. IsTable eq key (hash_in hash_of c) d r) (sym out.rest) (by_answer (count_by (λ w. w) (set ws i false) == 0)
      (λ q. rw q (fields-last eq key (hash_in hash_of c) i out.moved c d drain out.news inv up out.takes (eqb-true _ _ q) out.few))
      (λ q. rw q (fields-after eq key (hash_in hash_of c) i out.moved c d drain (set ws i false) out.news inv up out.takes refl (not-none _ q) out.few))) in
      subst (λ (h : K → ℕ). IsTable eq key h d rest) (sym same) there

  -- bucket i is relocated, and no list changes
  pub moved-relocated : IsRelocated i a (together (λ e. hash_in hash_of d (key e)) d rest.waiting rest.array)
  moved-relocated =
      let ws = drain.waiting in
      let before = together was c ws drain.array in
      let there : IsRelocated i before (together was d rest.waiting rest.array) = subst (λ r. IsRelocated i before (together was d r.waiting r.array)) (sym out.rest) (by_answer (count_by (λ w. w) (set ws i false) == 0)
      (λ q.
      let none = eqb-true _ _ q in
      let bare = bare-after was i out.moved c d ws drain.array out.news inv.arrays up out.takes none in
      rw q (subst (λ z. IsRelocated i before z) (bare-together was d out.news bare) (relocated-after was i out.moved c d ws [] drain.array out.news inv.arrays up out.takes (last refl none))))
      (λ q. rw q (relocated-after was i out.moved c d ws (set ws i false) drain.array out.news inv.arrays up out.takes (others refl (not-none _ q))))) in
      subst (λ z. IsRelocated i z (together (λ e. hash_in hash_of d (key e)) d rest.waiting rest.array)) view (subst (λ (h : K → ℕ). IsRelocated i before (together (λ e. h (key e)) d rest.waiting rest.array)) (sym same) there)

  spilled : overflow_in rest.array ≤ overflow_in drain.array
  spilled =
      let ws = drain.waiting in
      subst (λ r. overflow_in r.array ≤ overflow_in drain.array) (sym out.rest) (by_answer (count_by (λ w. w) (set ws i false) == 0)
      (λ q. rw q (omega arith))
      (λ q. rw q (spilled-le drain.array out.news out.takes.count out.takes.overflow)))

  -- empty overflow lists stay empty if at most 32 entries come
  pub moved-bounded : IsBounded a → length (list_of a i) ≤ 32 → IsBounded (together (λ e. hash_in hash_of d (key e)) d rest.waiting rest.array)
  moved-bounded none few =
      let coming = ap length (list-coming inv i up view) in
      let before = spilled-seen was c drain.waiting drain.array a view in
      let less = out.short (omega (arith, coming, few)) in
      let left = spilled in
      let zero : overflow_of d + overflow_in rest.array ≡ 0 = omega (arith, before, less, left, none) in
      spilled-together (λ e. hash_in hash_of d (key e)) d rest.waiting rest.array ∙ zero
