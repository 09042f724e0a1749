-- A cache of counts after a word is counted.
use Rattle.std.proofs.Common.{◌≡◌, ℕ, suc, ◌^◌, ◌-◌, min, List, None, Some, Option, sym, ap, subst, ◌∙◌, nat_eq, MutBor, Bool}
use Rattle.std.specs.Fn.{Once, FnOnceReturnsAtMut}
use Rattle.std.specs.List.{slice_get}
use Rattle.std.specs.declared.cmp.PartialEq as equality
use Rattle.std.specs.declared.hash.Hash as hash
use Rattle.std.specs.declared.hash.Hasher as hasher
use Rattle.std.specs.declared.hash.BuildHasher as builder
use Rattle.scc_common.specs.Contents.{key_hash, lists_of}
use Rattle.scc_common.specs.declared.guard.Guard as guard
use Rattle.scc_common.specs.declared.rule.Rule as rule
use Rattle.scc_owned_cache.specs.CacheSteps.{ChangesLists, IsAbsent, IsPresent, PutsNew, list_number}
use Rattle.scc_owned_cache.specs.Caches.{Cached}
use Rattle.scc_owned_cache.specs.Entries.{occupied_pair, IsEntryOf, IsPut, Modifies, OrPuts}
use Rattle.scc_owned_cache.specs.ListSteps.{IsThere, RefreshesAs, list_for}
use Rattle.scc_owned_cache.specs.declared.held.HeldOccupied.{HeldOccupied}
use Rattle.scc_owned_cache.specs.declared.held.HeldEntry.TheVariants.{Occupied, Vacant}
use Rattle.scc_owned_cache.specs.declared.held.HeldEntry.{HeldEntry}
use Rattle.scc_owned_cache.proofs.Entries.{moved-written}
use Rattle.scc_uses.specs.Counts.{one_more}

-- a key has one pair
one-pair : {K V : Type 0} (number : ℕ → K → ℕ) (eq : K → K → Bool) (ls : List (List (K × V))) (k : K) (i j : ℕ) (p q : K × V) → IsThere number eq ls k i p → IsThere number eq ls k j q → p ≡ q
one-pair number eq ls k i j p q a b =
    let same : Some i ≡ Some j = sym a.first ∙ b.first in
    let at : i ≡ j = cc in
    let pair : Some p ≡ Some q = sym a.pair ∙ ap (slice_get (list_for number ls k)) at ∙ b.pair in
    cc

module _ {G N S R T : Type 0} {keep : guard.Ghosts G (Cached (ℕ × ℕ) S)} {g : equality.Ghosts ℕ} {h : hash.Ghosts ℕ} {b : builder.Ghosts S T} {rules : rule.Ghosts R ℕ ℕ} {w : hasher.Ghosts T} (c : Cached (ℕ × ℕ) S) (k : ℕ)
    {F : Type 0} (f : Once F (MutBor ℕ × Unit {0}) (Unit {0} × (MutBor ℕ × Unit {0}))) (x : F) (says : (m n : ℕ) → FnOnceReturnsAtMut f x m tt n → n ≡ min (suc m) (2 ^ 64 - 1)) (v : Option (ℕ × ℕ)) (o : HeldOccupied G N ℕ ℕ S R T keep g h b w rules) where
  -- the count of a word that was there is one more, and its pair moves to the end of its list
  pub counted-again : (e d : HeldEntry G N ℕ ℕ S R T keep g h b w rules) → IsEntryOf nat_eq c k e → Modifies f x e d → OrPuts nat_eq d 1 v o → (p : ℕ × ℕ) → IsPresent (key_hash b w h.hash_input c.contents) nat_eq c.contents k p
      → (v ≡ None) × ChangesLists (RefreshesAs (list_number (key_hash b w h.hash_input c.contents) c.contents) nat_eq k p (p.0, one_more (Some p))) c (keep.inner o.guard)
  counted-again (Occupied e) (Occupied d) at is or p there =
      let number = list_number (key_hash b w h.hash_input c.contents) c.contents in
      let one : occupied_pair e ≡ p = one-pair number nat_eq (lists_of c.contents) k _ _ (occupied_pair e) p at.changes.lists.1 there.1 in
      let value : is.0 ≡ one_more (Some p) = says (occupied_pair e).1 is.0 is.1 ∙ ap (λ (q : ℕ × ℕ). one_more (Some q)) one in
      let moved = moved-written nat_eq c k (occupied_pair e) e d is.0 at is.2 in
      let now : ChangesLists (RefreshesAs number nat_eq k p (p.0, is.0)) c (keep.inner d.guard) = subst (λ (q : ℕ × ℕ). ChangesLists (RefreshesAs number nat_eq k q (q.0, is.0)) c (keep.inner d.guard)) one moved in
      let then : ChangesLists (RefreshesAs number nat_eq k p (p.0, one_more (Some p))) c (keep.inner d.guard) = subst (λ (n : ℕ). ChangesLists (RefreshesAs number nat_eq k p (p.0, n)) c (keep.inner d.guard)) value now in
      (or.0, subst (λ (q : HeldOccupied G N ℕ ℕ S R T keep g h b w rules). ChangesLists (RefreshesAs number nat_eq k p (p.0, one_more (Some p))) c (keep.inner q.guard)) (sym or.1) then)
  counted-again (Vacant e) (Vacant d) at is or p there = absurd (let z : None ≡ Some there.0 = sym at.absent ∙ there.1.first in cc)
  counted-again (Occupied e) (Vacant d) at is or p there = absurd is
  counted-again (Vacant e) (Occupied d) at is or p there = absurd is

  -- a new word is put with the count 1
  pub counted-first : (e d : HeldEntry G N ℕ ℕ S R T keep g h b w rules) → IsEntryOf nat_eq c k e → Modifies f x e d → OrPuts nat_eq d 1 v o → IsAbsent (key_hash b w h.hash_input c.contents) nat_eq c.contents k
      → PutsNew (key_hash b w h.hash_input c.contents) nat_eq c (k, 1) v (keep.inner o.guard)
  counted-first (Occupied e) d at is or none = absurd (let z : None ≡ Some at.changes.lists.0 = sym none ∙ at.changes.lists.1.first in cc)
  counted-first (Vacant e) (Vacant d) at is or none =
      let put : IsPut nat_eq e 1 v o = subst (λ y. IsPut nat_eq y 1 v o) is or in
      let at_key : PutsNew (key_hash b w h.hash_input (keep.inner e.guard).contents) nat_eq (keep.inner e.guard) (k, 1) v (keep.inner o.guard) = subst (λ (q : ℕ). PutsNew (key_hash b w h.hash_input (keep.inner e.guard).contents) nat_eq (keep.inner e.guard) (q, 1) v (keep.inner o.guard)) at.key put.step in
      subst (λ (m : Cached (ℕ × ℕ) S). PutsNew (key_hash b w h.hash_input m.contents) nat_eq m (k, 1) v (keep.inner o.guard)) at.contents at_key
  counted-first (Vacant e) (Occupied d) at is or none = absurd is
