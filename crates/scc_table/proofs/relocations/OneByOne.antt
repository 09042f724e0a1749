-- Buckets that are relocated one after the other.
use Rattle.std.proofs.Common.{◌≡◌, ◌==◌, ℕ, zero, suc, ◌+◌, Bool, true, false, List, [], ◌∷◌, set, refl, sym, ap, ◌∙◌, arith, rules}
use Rattle.std.specs.List.{count_by}
use Rattle.scc_buckets.specs.Bounded.{IsBounded}
use Rattle.scc_common.specs.Contents.{Contents, lists_of, settings_of, notes_of, waiting_of, pending_of}
use Rattle.scc_buckets.proofs.PairSplits.{by_answer}
use Rattle.scc_table.specs.Relocates.{AreShort}
use Rattle.scc_draining.specs.Waiting.{cleared}
use Rattle.scc_table.specs.TwoArrays.{IsRelocated, IsWaiting, waits_at}
use Rattle.scc_table.proofs.relocations.ShortLists.{short-later}

set-down : (ws : List Bool) (i k : ℕ) → waits_at (set ws i false) k ≡ true → waits_at ws k ≡ true
set-down [] i k h = h
set-down (w ∷ ws) zero zero h = absurd (let z : false ≡ true = h in cc)
set-down (w ∷ ws) zero (suc k) h = h
set-down (w ∷ ws) (suc i) zero h = h
set-down (w ∷ ws) (suc i) (suc k) h = set-down ws i k h

pub settle-down : (ws : List Bool) (i k : ℕ) → waits_at (cleared ws i) k ≡ true → waits_at ws k ≡ true
settle-down ws i k h =
    by_answer (count_by (λ w. w) (set ws i false) == 0)
    (λ q. let z : waits_at [] k ≡ true = rw q at h in absurd (let y : false ≡ true = z in cc))
    (λ q. let z : waits_at (set ws i false) k ≡ true = rw q at h in set-down ws i k z)

equal : (a b : ℕ) → a ≡ b → (a == b) ≡ true
equal a b h = search rules

settle-none : (ws : List Bool) (i : ℕ) → count_by (λ w. w) (cleared ws i) ≡ 0 → cleared ws i ≡ []
settle-none ws i h =
    by_answer (count_by (λ w. w) (set ws i false) == 0)
    (λ q. rw q refl)
    (λ q. let z : count_by (λ w. w) (set ws i false) ≡ 0 = rw q at h in absurd (let y : true ≡ false = sym (equal _ _ z) ∙ q in cc))

module _ {E S : Type 0} where
  pub pending-is : (c : Contents E S) → pending_of c ≡ count_by (λ w. w) (waiting_of c)
  unfolding pending_of waiting_of
  pending-is c = refl

  -- n buckets are relocated, no list changes, and if no bucket waits afterwards, there are no flags
  pub record Finishes (c d : Contents E S) (n : ℕ) : Type 0 where
    pub lists : lists_of d ≡ lists_of c
    pub settings : settings_of d ≡ settings_of c
    pub refused : notes_of d ≡ notes_of c
    pub fewer : (k : ℕ) → IsWaiting d k → IsWaiting c k
    pub left : pending_of d + n ≡ pending_of c
    pub none : pending_of d ≡ 0 → waiting_of d ≡ []
    pub bounded : IsBounded c → AreShort c → IsBounded d

  pub finish-start : (c : Contents E S) → (pending_of c ≡ 0 → waiting_of c ≡ []) → Finishes c c 0
  finish-start c none = record { lists = refl; settings = refl; refused = refl; fewer = λ k h. h; left = omega arith; none = none; bounded = λ b s. b }

  pub finish-step : (c d e : Contents E S) (n i : ℕ) → Finishes c d n → IsRelocated i d e → (IsBounded d → AreShort d → IsBounded e) → Finishes c e (n + 1)
  finish-step c d e n i f r bounded = record {
    lists = r.lists ∙ f.lists;
    settings = r.settings ∙ f.settings;
    refused = r.refused ∙ f.refused;
    fewer = λ k h. f.fewer k (settle-down (waiting_of d) i k (ap (λ ws. waits_at ws k) (sym r.waiting) ∙ h));
    left = omega (arith, f.left, r.pending);
    none = λ z. r.waiting ∙ settle-none (waiting_of d) i (ap (count_by (λ w. w)) (sym r.waiting) ∙ sym (pending-is e) ∙ z);
    bounded = λ b s. bounded (f.bounded b s) (short-later c d f.lists f.fewer s);
  }
