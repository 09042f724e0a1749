-- The contents of both arrays after a bucket is relocated.
use Rattle.std.proofs.Common.{◌≡◌, ◌==◌, ℕ, suc, ◌+◌, ◌<◌, ◌≢◌, inr, Bool, true, false, cond, List, [], ◌∷◌, length, set, get_or, refl, sym, ap, ◌∙◌, arith, length-set, get_or-set_same, get_or-set_other}
use Rattle.std.specs.List.{filter}
use Rattle.std.proofs.lemmas.List.{ext_get_or}
use native.Mathlib.Decide.{dec_lt}
use Rattle.scc_draining.proofs.Flags.{up-within}
use Rattle.scc_table.specs.TwoArrays.{joined, waits_at}
use Rattle.scc_table.proofs.arrays.JoinedLists.{get-joined, length-joined}

module _ {E : Type 0} (target : E → ℕ) (es : List E) where
  -- if no bucket waits, the joined lists are those of the current array
  pub joined-none : (a : ℕ) (ws : List Bool) (ls : List (List E)) → length ws ≡ length ls → ((k : ℕ) → waits_at ws k ≡ false) → joined target a ws ls es ≡ ls
  joined-none a [] ls l h = refl
  joined-none a (w ∷ ws) [] l h = absurd (omega arith)
  joined-none a (w ∷ ws) (x ∷ ls) l h =
      ap (λ (v : Bool). cond v (filter (λ e. target e == a) es) x ∷ joined target (suc a) ws ls es) (h 0) ∙ ap (λ z. x ∷ z) (joined-none (suc a) ws ls (omega arith) (λ k. h (suc k)))

  -- the relocation of a bucket changes no joined list
  pub joined-moved : (os : List E) (ws : List Bool) (ls : List (List E)) (i : ℕ) → length ws ≡ length ls → waits_at ws i ≡ true → ((k : ℕ) → k ≢ i → filter (λ e. target e == k) os ≡ filter (λ e. target e == k) es)
      → joined target 0 (set ws i false) (set ls i (filter (λ e. target e == i) es)) os ≡ joined target 0 ws ls es
  joined-moved os ws ls i l up same =
      let b = filter (λ e. target e == i) es in
      let vs = set ws i false in
      let long : length vs ≡ length (set ls i b) = length-set ws i false ∙ l ∙ sym (length-set ls i b) in
      let within = up-within ws i up in
      let n1 : length (joined target 0 vs (set ls i b) os) ≡ length ls = length-joined target os 0 vs (set ls i b) (inr long) ∙ length-set ls i b in
      let n2 : length (joined target 0 ws ls es) ≡ length ls = length-joined target es 0 ws ls (inr l) in
      ext_get_or [] (joined target 0 vs (set ls i b) os) (joined target 0 ws ls es) (n1 ∙ sym n2)
      (λ k q.
      let lk : k < length ls = omega arith in
      let lb : k < length (set ls i b) = omega (arith, length-set ls i b) in
      let left = get-joined target os 0 k vs (set ls i b) long lb in
      let right = get-joined target es 0 k ws ls l lk in
      let near : 0 + k ≡ k = omega arith in
      let apart = λ (ne : k ≢ i).
      let flag : waits_at vs k ≡ waits_at ws k = get_or-set_other ws i k false false ne in
      left ∙ ap (λ (v : Bool). cond v (filter (λ e. target e == 0 + k) os) (get_or (set ls i b) k [])) flag ∙ ap (λ z. cond (waits_at ws k) (filter (λ e. target e == 0 + k) os) z) (get_or-set_other ls i k b [] ne)
      ∙ ap (λ z. cond (waits_at ws k) z (get_or ls k [])) (same (0 + k) (λ z. ne (sym near ∙ z))) ∙ sym right in
      elim (dec_lt k i) [
        | yes r ↦ apart (omega arith)
        | no r ↦ elim (dec_lt i k) [
          | yes s ↦ apart (omega arith)
          | no s ↦
              let here : k ≡ i = omega arith in
              let down : waits_at vs k ≡ false = ap (waits_at vs) here ∙ get_or-set_same ws i false false within in
              let upk : waits_at ws k ≡ true = ap (waits_at ws) here ∙ up in
              let got : get_or (set ls i b) k [] ≡ b = ap (λ m. get_or (set ls i b) m []) here ∙ get_or-set_same ls i b [] (omega arith) in
              left ∙ ap (λ (v : Bool). cond v (filter (λ e. target e == 0 + k) os) (get_or (set ls i b) k [])) down ∙ got
              ∙ ap (λ m. filter (λ e. target e == m) es) (sym here ∙ sym near) ∙ sym (ap (λ (v : Bool). cond v (filter (λ e. target e == 0 + k) es) (get_or ls k [])) upk) ∙ sym right
        ]
      ])
