-- The entry of an index after a word is counted.
use Rattle.std.proofs.Common.{◌≡◌, ℕ, suc, ◌^◌, ◌-◌, min, Some, cond, sym, ap, subst, ◌∙◌, nat_eq}
use Rattle.std.specs.Cmp.{nat_eq_equiv}
use Rattle.std.specs.declared.cmp.PartialEq as equality
use Rattle.std.specs.declared.hash.Hash as hash
use Rattle.std.specs.declared.hash.Hasher as hasher
use Rattle.std.specs.declared.hash.BuildHasher as builder
use Rattle.scc_common.specs.Contents.{Contents, entries}
use Rattle.scc_common.specs.Pairs.{find, FindsInstead, IsUnique}
use Rattle.scc_owned.specs.Held.{occupied_pair}
use Rattle.scc_owned.specs.Entries.{IsEntryOf, IsInserted, OrInserts}
use Rattle.scc_owned.specs.IndexEntries.{IsUpdated}
use Rattle.scc_owned.specs.declared.held.HeldOccupied.{HeldOccupied}
use Rattle.scc_owned.specs.declared.held.HeldEntry.TheVariants.{Occupied, Vacant}
use Rattle.scc_owned.specs.declared.held.HeldEntry.{HeldEntry}
use Rattle.scc_common.specs.declared.guard.Guard as guard
use Rattle.scc_owned.proofs.AfterSteps.{finds-inserted}
use Rattle.scc_uses.specs.Counts.{one_more}
use Rattle.scc_owned.specs.Lends.{pair_keys}
use borrow.Author.Tests.{eqb-true}

module _ {G N S T : Type 0} {keep : guard.Ghosts G (Contents (ℕ × ℕ) S)} {g : equality.Ghosts ℕ} {h : hash.Ghosts ℕ} {b : builder.Ghosts S T} {w : hasher.Ghosts T} where
  -- the entry d is e, and if e is occupied, the count of d is one more than the count of e
  abbrev pub CountsUp : (ℕ → ℕ → Type 0) → HeldEntry G N (ℕ × ℕ) S ℕ T keep pair_keys g b w h → HeldEntry G N (ℕ × ℕ) S ℕ T keep pair_keys g b w h → Type 0
  CountsUp C (Occupied p) (Occupied d) = (n : ℕ) × (n ≡ min (suc (occupied_pair p).1) (2 ^ 64 - 1)) × IsUpdated C nat_eq p n d
  CountsUp C (Vacant e) (Vacant d) = d ≡ e
  CountsUp C e d = ⊥

  -- an occupied entry is returned unchanged, with a number that is one more than its count
  abbrev pub KeepsCount : HeldEntry G N (ℕ × ℕ) S ℕ T keep pair_keys g b w h → HeldEntry G N (ℕ × ℕ) S ℕ T keep pair_keys g b w h × ℕ → Type 0
  KeepsCount (Occupied p) r = (r.0 ≡ Occupied p) × (r.1 ≡ min (suc (occupied_pair p).1) (2 ^ 64 - 1))
  KeepsCount (Vacant e) r = ⊥

  module _ (c : Contents (ℕ × ℕ) S) (k : ℕ) where
    -- after the word k is counted, a look-up of k finds one more than before
    pub counted : (C : ℕ → ℕ → Type 0) (e d : HeldEntry G N (ℕ × ℕ) S ℕ T keep pair_keys g b w h) (o : HeldOccupied G N (ℕ × ℕ) S ℕ T keep pair_keys g b w h) → IsEntryOf nat_eq c k e → CountsUp C e d → OrInserts d 1 o → IsUnique nat_eq (keep.inner o.guard)
        → FindsInstead nat_eq (entries c) k (Some (k, one_more (find nat_eq (entries c) k))) (entries (keep.inner o.guard))
    counted C (Occupied p) (Occupied d) o at up ins u =
        let stored : (occupied_pair p).0 ≡ k = sym (eqb-true k (occupied_pair p).0 at.equal) in
        let key : up.2.key ≡ k = eqb-true up.2.key (occupied_pair p).0 up.2.equal ∙ stored in
        let count : up.0 ≡ one_more (find nat_eq (entries c) k) = up.1 ∙ sym (ap one_more at.found) in
        record {
          finds = λ q.
              ap (λ (y : HeldOccupied G N (ℕ × ℕ) S ℕ T keep pair_keys g b w h). find nat_eq (entries (keep.inner y.guard)) q) ins
              ∙ up.2.finds.finds q
              ∙ (λ i. cond (nat_eq q (stored i)) (Some (key i, count i)) (find nat_eq (entries (at.contents i)) q));
        }
    counted C (Vacant e) (Vacant d) o at up ins u =
        let put : IsInserted e 1 o = subst (λ (y : HeldEntry G N (ℕ × ℕ) S ℕ T keep pair_keys g b w h). OrInserts y 1 o) (ap Vacant up) ins in
        record {
          finds = λ q.
              (finds-inserted nat_eq_equiv (keep.inner e.guard) (keep.inner o.guard) (e.key, 1) put.at.contents u).finds q
              ∙ (λ i. cond (nat_eq q (at.key i)) (Some (at.key i, one_more (sym at.found i))) (find nat_eq (entries (at.contents i)) q));
        }
    counted C (Occupied p) (Vacant d) o at up ins u = absurd up
    counted C (Vacant e) (Occupied d) o at up ins u = absurd up
