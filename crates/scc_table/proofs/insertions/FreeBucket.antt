-- A bucket that doesn't wait, and what a call makes of its list in the current array while no overflow list is in use.
use Rattle.std.proofs.Common.{◌≡◌, ℕ, ◌+◌, ◌^◌, ◌<◌, suc, ◌∷◌, ◌++◌, Bool, false, Option, Some, None, [], List, length, sym, ap, ◌∙◌, subst, arith}
use Rattle.std.specs.Cmp.{IsEquivalence}
use Rattle.std.specs.List.{position, remove, slice_get}
use Rattle.scc_buckets.specs.Bounded.{HasList, IsBounded, IsListed, PutsLast}
use Rattle.scc_common.specs.Contents.{Contents, bucket_count, entries, hash_in, list_of, overflow_of, owed_of, settings_of, waiting_of, IsUniqueBy}
use Rattle.scc_draining.specs.Drainings.{Draining}
use Rattle.scc_table.specs.Puts.{MovesToEnd, PutsAtEnd}
use Rattle.scc_table.specs.TwoArrays.{IsTable, IsWaiting, together, waits_at}
use Rattle.scc_table.proofs.arrays.CurrentChanges.{own-fields, own-list, own-owed}
use Rattle.scc_table.proofs.arrays.JoinedLists.{settings-together, waiting-together}
use Rattle.scc_table.proofs.arrays.OneBucket.{flag-free, within-own}
use Rattle.scc_table.proofs.arrays.SameParts.{hash-same}
use Rattle.scc_table.proofs.arrays.Views.{settings-seen, waiting-seen}
use Rattle.scc_table.proofs.insertions.AtEnds.{own-bounded, own-has_list, own-listed, own-puts_last, puts-list, unique-moved, unique-puts}

module _ {E K S : Type 0} {eq : K → K → Bool} (hash_of : S → K → ℕ) {key : E → K} {c a : Contents E S} {drain : Draining E} (inv : IsTable eq key (hash_in hash_of c) c drain) (view : together (λ e. hash_in hash_of c (key e)) c drain.waiting drain.array ≡ a) (i : ℕ) (free : IsWaiting a i → ⊥) where
  down : waits_at drain.waiting i ≡ false
  down = flag-free inv i view free

  settings : settings_of a ≡ settings_of c
  settings = settings-seen (λ e. hash_in hash_of c (key e)) c drain.waiting drain.array a view

  pub free-list : list_of a i ≡ list_of c i
  free-list = ap (λ z. list_of z i) (sym view) ∙ own-list (λ e. hash_in hash_of c (key e)) c drain.waiting drain.array i down

  -- h is the hash of the key at slot s
  pub free-hashed : (h s : ℕ) → ((e : E) → slice_get (list_of a i) s ≡ Some e → h ≡ hash_in hash_of a (key e)) → (e : E) → slice_get (list_of c i) s ≡ Some e → h ≡ hash_in hash_of c (key e)
  free-hashed h s hashed e got = hashed e (ap (λ z. slice_get z s) free-list ∙ got) ∙ ap (λ z. hash_of z.hasher (key e)) settings

  module _ (bounded : IsBounded a) where
    before : IsBounded (together (λ e. hash_in hash_of c (key e)) c drain.waiting drain.array)
    before = subst (λ (z : Contents E S). IsBounded z) (sym view) bounded

    pub free-bounded : IsBounded c
    free-bounded = own-bounded (λ e. hash_in hash_of c (key e)) c c drain.waiting drain.array i down before

    module _ {es : List E} {d : Contents E S} (has : HasList c i es d) where
      same : hash_in hash_of d ≡ hash_in hash_of c
      same = hash-same hash_of c d has.settings

      -- the list becomes the same in both arrays
      pub free-has : HasList a i es (together (λ e. hash_in hash_of d (key e)) d drain.waiting drain.array)
      free-has =
          let first = own-has_list (λ e. hash_in hash_of c (key e)) c d drain.waiting drain.array i down before es has in
          let there = subst (λ (h : K → ℕ). HasList (together (λ e. hash_in hash_of c (key e)) c drain.waiting drain.array) i es (together (λ e. h (key e)) d drain.waiting drain.array)) (sym same) first in
          subst (λ (z : Contents E S). HasList z i es (together (λ e. hash_in hash_of d (key e)) d drain.waiting drain.array)) view there

      -- `IsListed` holds of both arrays if it held before, and holds of the current one
      pub free-listed : i < bucket_count a → IsListed (λ e. hash_in hash_of d (key e)) d → IsListed (λ e. hash_in hash_of a (key e)) a
          → IsListed (λ e. hash_in hash_of (together (λ e. hash_in hash_of d (key e)) d drain.waiting drain.array) (key e)) (together (λ e. hash_in hash_of d (key e)) d drain.waiting drain.array)
      free-listed within ours was =
          let hash = λ (e : E). hash_in hash_of c (key e) in
          let first = subst (λ (z : Contents E S). IsListed hash z) (sym view) (subst (λ s. IsListed (λ (e : E). hash_of s.hasher (key e)) a) settings was) in
          let mine = subst (λ (h : K → ℕ). IsListed (λ e. h (key e)) d) same ours in
          let both = own-listed hash c d drain.waiting drain.array inv.arrays i down (within-own inv view within) es has first mine in
          let there = subst (λ (h : K → ℕ). IsListed hash (together (λ e. h (key e)) d drain.waiting drain.array)) (sym same) both in
          subst (λ s. IsListed (λ (e : E). hash_of s.hasher (key e)) (together (λ e. hash_in hash_of d (key e)) d drain.waiting drain.array)) (sym (settings-together (λ e. hash_in hash_of d (key e)) d drain.waiting drain.array ∙ has.settings)) there

      -- the waiting buckets stay, and so does what the old array owes
      pub free-waiting : waiting_of (together (λ e. hash_in hash_of d (key e)) d drain.waiting drain.array) ≡ waiting_of a
      free-waiting = waiting-together (λ e. hash_in hash_of d (key e)) d drain.waiting drain.array ∙ sym (waiting-seen (λ e. hash_in hash_of c (key e)) c drain.waiting drain.array a view)

      pub free-owed : owed_of (together (λ e. hash_in hash_of d (key e)) d drain.waiting drain.array) ≡ owed_of a
      free-owed =
          ap (λ (h : K → ℕ). owed_of (together (λ e. h (key e)) d drain.waiting drain.array)) same ∙ own-owed c d i es has.lists has.settings (λ e. hash_in hash_of c (key e)) drain.waiting drain.array down ∙ ap owed_of view

      -- the invariant holds if no two keys are equal
      pub free-fields : IsUniqueBy eq key (together (λ e. hash_in hash_of d (key e)) d drain.waiting drain.array) → IsTable eq key (hash_in hash_of d) d drain
      free-fields unique =
          let low : overflow_of d ≡ 0 = has.bounded in
          let few : overflow_of d + drain.left_overflow < 2 ^ 62 = omega (arith, inv.few, low) in
          let mine = subst (λ (h : K → ℕ). IsUniqueBy eq key (together (λ e. h (key e)) d drain.waiting drain.array)) same unique in
          subst (λ (h : K → ℕ). IsTable eq key h d drain) (sym same) (own-fields eq key (hash_in hash_of c) c d i es has.lists has.settings drain down inv few mine)

  -- an entry is moved to the end of the list
  pub free-moved : (bounded : IsBounded a) → IsEquivalence eq → i < bucket_count a → {slot : ℕ} {d : Contents E S} → (x : (e : E) × (slice_get (list_of c i) slot ≡ Some e) × HasList c i (remove (list_of c i) slot ++ e ∷ []) d) → IsListed (λ e. hash_in hash_of d (key e)) d
      → MovesToEnd eq key (hash_in hash_of) a i slot (together (λ e. hash_in hash_of d (key e)) d drain.waiting drain.array)
  free-moved bounded laws within {slot} {d} x listed =
      let after = together (λ e. hash_in hash_of d (key e)) d drain.waiting drain.array in
      let list = subst (λ z. HasList a i (remove z slot ++ x.0 ∷ []) after) (sym free-list) (free-has bounded x.2) in
      let got : slice_get (list_of a i) slot ≡ Some x.0 = ap (λ z. slice_get z slot) free-list ∙ x.1 in
      let before = subst (λ (z : Contents E S). IsUniqueBy eq key z) view inv.unique in
      record {
        list = (x.0, got, list);
        listed = free-listed bounded x.2 within listed;
        waiting = free-waiting bounded x.2;
        owed = free-owed bounded x.2;
        unique = unique-moved laws key a after i within before slot x.0 got list.lists;
      }

  -- a new entry is put at the end of the list
  pub free-put : (bounded : IsBounded a) → IsEquivalence eq → i < bucket_count a → {e : E} → position (λ x. eq (key e) (key x)) (entries a) ≡ None → (result : Option E × ℕ) {d : Contents E S} → PutsLast c i e result.0 d → suc result.1 ≡ length (list_of d i) → IsListed (λ x. hash_in hash_of d (key x)) d
      → PutsAtEnd eq key (hash_in hash_of) a i e result (together (λ x. hash_in hash_of d (key x)) d drain.waiting drain.array)
  free-put bounded laws within {e} absent result {d} puts slot listed =
      let after = together (λ x. hash_in hash_of d (key x)) d drain.waiting drain.array in
      let list = puts-list c d i e result.0 puts in
      let was = together (λ x. hash_in hash_of c (key x)) c drain.waiting drain.array in
      let first = own-puts_last (λ x. hash_in hash_of c (key x)) c d drain.waiting drain.array i down (before bounded) e result.0 puts in
      let moved = subst (λ (h : K → ℕ). PutsLast was i e result.0 (together (λ x. h (key x)) d drain.waiting drain.array)) (sym (hash-same hash_of c d list.1.settings)) first in
      let step = subst (λ (z : Contents E S). PutsLast z i e result.0 after) view moved in
      let unique = subst (λ (z : Contents E S). IsUniqueBy eq key z) view inv.unique in
      record {
        step = step;
        slot = slot ∙ ap length (sym (own-list (λ x. hash_in hash_of d (key x)) d drain.waiting drain.array i down));
        listed = free-listed bounded list.1 within listed;
        waiting = free-waiting bounded list.1;
        owed = free-owed bounded list.1;
        unique = unique-puts laws key a after i within unique e result.0 step absent;
      }
