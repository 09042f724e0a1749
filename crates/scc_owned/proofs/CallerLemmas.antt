-- Lemmas for the callers of a map: what look-ups find after a step.
use Rattle.std.proofs.Common.{◌≡◌, Bool, cond, List, ◌∷◌, Option, None, Some, refl, sym, ap, subst, ◌∙◌}
use Rattle.std.specs.Borrow.{MutBor}
use Rattle.std.specs.Cmp.{IsEquivalence}
use Rattle.std.specs.Fn.{Once, FnOnceReturnsAtMut}
use Rattle.std.specs.List.{IsDistinct}
use Rattle.std.specs.List.Sorted.{IsPermutation}
use Rattle.std.specs.Map.{keys_of}
use Rattle.scc_common.specs.Contents.{Contents, entries}
use Rattle.scc_common.specs.Pairs.{find, without, FindsInstead, IsUnique}
use Rattle.scc_table.specs.Places.{index_of}
use Rattle.scc_common.specs.Steps.{Holds}
use Rattle.std.specs.declared.cmp.PartialEq as equality
use Rattle.std.specs.declared.hash.Hash as hash
use Rattle.std.specs.declared.hash.Hasher as hasher
use Rattle.std.specs.declared.hash.BuildHasher as builder
use Rattle.scc_common.specs.declared.guard.Guard as guard
use Rattle.scc_owned.specs.Held.{Occupied, Vacant, occupied_pair}
use Rattle.scc_owned.specs.Entries.{IsOccupiedAt, IsVacantAt, IsEntryOf, IsInserted, OrInserts}
use Rattle.scc_owned.specs.MapEntries.{IsWritten, Modifies}
use Rattle.scc_owned.specs.Lends.{pair_keys}
use Rattle.scc_owned.specs.declared.held.HeldOccupied.{HeldOccupied}
pub use Rattle.scc_owned.proofs.AfterSteps.{find-equal, find-written, finds-inserted, finds-rearranged, finds-set_value, finds-unchanged, finds-without, same-finds}
use Rattle.scc_owned.specs.declared.held.HeldEntry.{HeldEntry}
use Rattle.scc_owned.specs.declared.held.HeldVacant.{HeldVacant}
use Rattle.scc_owned.specs.MapSteps.{Removes}
use Rattle.scc_owned.specs.Lookups.{pair_lookups-lawful}
use Rattle.scc_owned.proofs.HeldEntries.{occupied-by}
use Rattle.scc_table.proofs.places.Entries.{entry_of-get}
use Rattle.scc_buckets.proofs.PairWrites.{IsPlaceOf}
use Rattle.scc_buckets.proofs.Lookups.{place-of_find, find-IsPermutation, find-without, distinct-IsPermutation, distinct-remove_entry}
pub use Rattle.scc_buckets.proofs.PairSplits.{by_answer, cond-true, cond-false}
pub use Rattle.scc_table.proofs.places.Replies.{find-key}
use Rattle.scc_buckets.proofs.PairSplits.{found-place}
use Rattle.std.proofs.lemmas.List.Sorted.{IsPermutation-sym, IsPermutation-trans}
use Rattle.std.proofs.lemmas.Map.Keys.{IsDistinct-tail}

module _ {K V : Type 0} {eq : K → K → Bool} (laws : IsEquivalence eq) where
  -- if a pair is inserted under a new key and then removed, the old pairs are left in some order
  pub inserted-removed : {S : Type 0} (c d e : Contents (K × V) S) (p : K × V) (r : Option (K × V)) → find eq (entries c) p.0 ≡ None → Holds c (p ∷ entries c) d → IsUnique eq d → Removes eq d p.0 r e → IsPermutation (entries c) (entries e)
  inserted-removed c d e p r none h u = by r
    where
      cs : List (K × V)
      cs = entries c

      ds : List (K × V)
      ds = entries d

      found : FindsInstead eq cs p.0 (Some p) ds
      found = finds-inserted laws c d p h u

      here : find eq ds p.0 ≡ Some p
      here = found.finds p.0 ∙ cond-true (Some p) (find eq cs p.0) (laws.refl p.0)

      place : IsPlaceOf eq ds p.0 (place-of_find (eq p.0) ds p here).0
      place = found-place laws p.0 ds (place-of_find (eq p.0) ds p here).0 p u (place-of_find (eq p.0) ds p here).1 (laws.refl p.0)

      old : IsDistinct eq (keys_of cs)
      old = IsDistinct-tail eq p.0 (keys_of cs) (distinct-IsPermutation laws ds (p ∷ cs) (IsPermutation-sym (p ∷ cs) ds h.same) u)

      left : IsPermutation cs (without eq ds p.0)
      left = same-finds laws cs (without eq ds p.0) old (distinct-remove_entry laws ds p.0 (place-of_find (eq p.0) ds p here).0 u place)
          (λ q. find-without laws ds p.0 q u ∙ by_answer (eq q p.0)
          (λ y. cond-true None (find eq ds q) y ∙ sym none ∙ sym (find-equal laws cs q p.0 y))
          (λ y. cond-false None (find eq ds q) y ∙ found.finds q ∙ cond-false (Some p) (find eq cs q) y))

      by : (r : Option (K × V)) → Removes eq d p.0 r e → IsPermutation cs (entries e)
      by None s = absurd (let x : Some p ≡ None = sym here ∙ s.0 in cc)
      by (Some q) s = IsPermutation-trans cs (without eq ds p.0) (entries e) left s.1.same

module _ {G N K V S T : Type 0} {keep : guard.Ghosts G (Contents (K × V) S)} {b : builder.Ghosts S T} {w : hasher.Ghosts T} {g : equality.Ghosts K} {h : hash.Ghosts K} {eq : K → K → Bool} (laws : IsEquivalence eq) (c : Contents (K × V) S) (k : K) where
  -- after a write through an occupied entry, a look-up of k finds the entry's key with the written value
  pub finds-written : (o d : HeldOccupied G N (K × V) S K T keep pair_keys g b w h) (v : V) → IsOccupiedAt eq c k o → IsWritten o v d → FindsInstead eq (entries c) k (Some ((occupied_pair o).0, v)) (entries (keep.inner d.guard))
  finds-written o d v at written = record {
    finds = λ q.
        ap (λ es. find eq es q) (written.at.contents.exact ∙ at.writes v) ∙ find-written laws (entries c) k q (occupied_pair o) v at.found;
  }

  -- after an insertion through a vacant entry, a look-up of k finds k with the inserted value
  pub finds-put : (e : HeldVacant G N (K × V) S K T keep pair_keys g b w h) (o : HeldOccupied G N (K × V) S K T keep pair_keys g b w h) (v : V) → IsVacantAt eq c k e → IsInserted e v o → IsUnique eq (keep.inner o.guard) → FindsInstead eq (entries c) k (Some (k, v)) (entries (keep.inner o.guard))
  finds-put e o v at put u = record {
    finds = λ q.
        (finds-inserted laws (keep.inner e.guard) (keep.inner o.guard) (e.key, v) put.at.contents u).finds q
        ∙ (λ i. cond (eq q (at.key i)) (Some (at.key i, v)) (find eq (entries (at.contents i)) q));
  }

  -- after an occupied entry is released, a look-up of k finds the pair of the entry
  finds-held : (o : HeldOccupied G N (K × V) S K T keep pair_keys g b w h) → IsOccupiedAt eq c k o → FindsInstead eq (entries c) k (Some (occupied_pair o)) (entries (keep.inner o.guard))
  finds-held o at = record {
    finds = λ q. ap (λ d. find eq (entries d) q) at.contents ∙ by_answer (eq q k)
        (λ y. find-equal laws (entries c) q k y ∙ at.found ∙ sym (cond-true (Some (occupied_pair o)) (find eq (entries c) q) y))
        (λ y. sym (cond-false (Some (occupied_pair o)) (find eq (entries c) q) y));
  }

  -- after `or_insert`, a look-up of k finds the pair of the returned entry
  pub finds-or_insert : (e : HeldEntry G N (K × V) S K T keep pair_keys g b w h) (v : V) (o : HeldOccupied G N (K × V) S K T keep pair_keys g b w h) → IsEntryOf eq c k e → OrInserts e v o → IsUnique eq (keep.inner o.guard) → FindsInstead eq (entries c) k (Some (occupied_pair o)) (entries (keep.inner o.guard))
  finds-or_insert (Occupied p) v o at is u = subst (λ q. FindsInstead eq (entries c) k (Some (occupied_pair q)) (entries (keep.inner q.guard))) (sym is) (finds-held p at)
  finds-or_insert (Vacant e) v o at is u = subst (λ q. FindsInstead eq (entries c) k (Some q) (entries (keep.inner o.guard))) (ap (λ x. (x, v)) (sym at.key) ∙ sym is.at.here) (finds-put e o v at is u)

  module _ {F : Type 0} (f : Once F (MutBor V × Unit {0}) (Unit {0} × (MutBor V × Unit {0}))) (x : F) where
    -- q is the pair of the entry after `and_modify` and `or_insert`
    abbrev pub ModifiedOr : HeldEntry G N (K × V) S K T keep pair_keys g b w h → V → K × V → Type 0
    ModifiedOr (Occupied p) v q = (q.0 ≡ (occupied_pair p).0) × FnOnceReturnsAtMut f x (occupied_pair p).1 tt q.1
    ModifiedOr (Vacant e) v q = q ≡ (k, v)

    -- after `and_modify` and `or_insert`, a look-up of k finds the pair of the returned entry
    pub finds-modify_or_insert : (e e2 : HeldEntry G N (K × V) S K T keep pair_keys g b w h) (v : V) (o : HeldOccupied G N (K × V) S K T keep pair_keys g b w h) → IsEntryOf eq c k e → Modifies f x e e2 → OrInserts e2 v o → IsUnique eq (keep.inner o.guard)
        → ModifiedOr e v (occupied_pair o) × FindsInstead eq (entries c) k (Some (occupied_pair o)) (entries (keep.inner o.guard))
    finds-modify_or_insert (Occupied p) (Occupied d) v o at is ins u =
        let pair : occupied_pair o ≡ ((occupied_pair p).0, is.0) = ap (λ q. occupied_pair q) ins ∙ is.2.at.here in (
          rw pair (refl, is.1),
          subst (λ q. FindsInstead eq (entries c) k (Some (occupied_pair q)) (entries (keep.inner q.guard))) (sym ins)
              (subst (λ q. FindsInstead eq (entries c) k (Some q) (entries (keep.inner d.guard))) (sym is.2.at.here) (finds-written p d is.0 at is.2)),
        )
    finds-modify_or_insert (Vacant e) (Vacant d) v o at is ins u =
        let through : IsInserted e v o = subst (λ z. IsInserted z v o) is ins in
        (through.at.here ∙ ap (λ z. (z, v)) at.key, finds-or_insert (Vacant e) v o at through u)
    finds-modify_or_insert (Occupied p) (Vacant d) v o at is ins u = absurd is
    finds-modify_or_insert (Vacant e) (Occupied d) v o at is ins u = absurd is

-- a look-up finds in a rearrangement of a list what it finds in the list
pub find-rearranged : {K V : Type 0} {eq : K → K → Bool} (laws : IsEquivalence eq) (xs ys : List (K × V)) (q : K) → IsPermutation xs ys → IsDistinct eq (keys_of xs) → find eq ys q ≡ find eq xs q
find-rearranged laws xs ys q same u = find-IsPermutation laws xs ys q same u

module _ {G N K V S T : Type 0} {keep : guard.Ghosts G (Contents (K × V) S)} {b : builder.Ghosts S T} {w : hasher.Ghosts T} {g : equality.Ghosts K} {h : hash.Ghosts K} {eq : K → K → Bool} (laws : IsEquivalence eq) where
  -- an occupied entry is the entry of its own key, whichever call returned it
  pub occupied-of-unique : (o : HeldOccupied G N (K × V) S K T keep pair_keys g b w h) → IsUnique eq (keep.inner o.guard) → IsOccupiedAt eq (keep.inner o.guard) (occupied_pair o).0 o
  occupied-of-unique o u =
      let c : Contents (K × V) S = keep.inner o.guard in
      let f = found-place laws (occupied_pair o).0 (entries c) (index_of c o.place) (occupied_pair o) u (entry_of-get c o.place o.within) (laws.refl (occupied_pair o).0) in
      occupied-by pair_lookups-lawful laws (occupied_pair o).0 o u f.0 (record { here = f.1; found = f.2; equal = f.3 })
