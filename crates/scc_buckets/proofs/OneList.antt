-- A change of one bucket is a change of one list.
use Rattle.std.proofs.Common.{◌≡◌, ℕ, ◌+◌, ◌<◌, ◌≤◌, Bool, List, length, map, set, get_or, refl, sym, ap, ◌∙◌, subst, arith}
use Rattle.std.specs.List.{insert, remove}
use Rattle.std.specs.List.Sorted.{IsPermutation}
use Rattle.std.proofs.Math.Seq.{map-set_same}
use Rattle.std.proofs.lemmas.List.{map-set}
use Rattle.std.proofs.lemmas.List.Sums.{sum_by-set}
use native.Mathlib.Decide.{dec_lt}
use Rattle.scc_array.specs.Shelf.{Shelf, shelf_entries, with_entry, next_slot, without_slot, swapped_out}
use Rattle.scc_array.proofs.Swaps.{entries-swapped, overflow-swapped}
use Rattle.scc_common.specs.Contents.{Contents, Settings, list_of, lists_of, settings_of, notes_of, overflow_of}
use Rattle.scc_buckets.specs.OneList.{HasSameLists, IsPutIn, IsSwappedOutOf, IsTakenFrom}
use Rattle.scc_buckets.specs.Tables.{overflow_in}
use Rattle.scc_buckets.proofs.Inserts.{entries_insert, overflow_push, place_le}
use Rattle.scc_buckets.proofs.Removes.{entries_without, overflow_without}
use Rattle.scc_buckets.proofs.Views.{view_of, list-view, lists-view, refused-view, settings-view, spilled-view}

module _ {E S : Type 0} (bs : List (Shelf E)) (s : Settings S) {f : Bool × Bool} (c : Contents E S) (view : view_of f bs s ≡ c) (i : ℕ) (b : Shelf E) (l : i < length bs) (at : b ≡ get_or bs i b) where
  pub one-list : (d : Shelf E) (es : List E) → shelf_entries d ≡ es → lists_of (view_of f (set bs i d) s) ≡ set (lists_of c) i es
  unfolding lists_of
  one-list d es w = map-set shelf_entries bs i d ∙ ap (set (map shelf_entries bs) i) w ∙ ap (λ z. set z i es) (sym (lists-view bs s c view))

  pub one-spilled : (d : Shelf E) (k : ℕ) → length d.overflow ≤ length b.overflow + k → overflow_of (view_of f (set bs i d) s) ≤ overflow_of c + k
  one-spilled d k h =
      let over : Shelf E → ℕ = λ x. length x.overflow in
      let sums = sum_by-set over bs i d b l in
      let e : over (get_or bs i b) ≡ over b = ap over (sym at) in
      let was : overflow_of c ≡ overflow_in bs = spilled-view bs s c view in
      let now : overflow_of (view_of f (set bs i d) s) ≡ overflow_in (set bs i d) = spilled-view (set bs i d) s (view_of f (set bs i d) s) refl in
      omega arith

  pub one-settings : (d : Shelf E) → settings_of (view_of f (set bs i d) s) ≡ settings_of c
  one-settings d = settings-view (set bs i d) s (view_of f (set bs i d) s) refl ∙ sym (settings-view bs s c view)

  pub one-refused : (d : Shelf E) → notes_of (view_of f (set bs i d) s) ≡ notes_of c
  one-refused d = refused-view (set bs i d) s (view_of f (set bs i d) s) refl ∙ sym (refused-view bs s c view)

  pub put-in-list : (d : Shelf E) (e : E) (t slot : ℕ) → length b.slots ≤ 32 → d ≡ record (with_entry b e t) { room = d.room } → slot ≡ next_slot b → IsPutIn c i e (view_of f (set bs i d) s) (record { bucket = i; slot = slot })
  put-in-list d e t slot short new place =
      let here = list-view bs s c view i b l at in
      let push = overflow_push b e t short in
      let over : length d.overflow ≡ length (with_entry b e t).overflow = ap (λ (x : Shelf E). length x.overflow) new in
      record {
        bucket = refl;
        slot = let p = place_le b in let n = ap length here in omega (arith, place);
        lists = one-list d (insert (list_of c i) slot e) (ap shelf_entries new ∙ entries_insert b e t ∙ ap (λ k. insert (shelf_entries b) k e) (sym place) ∙ ap (λ z. insert z slot e) (sym here));
        settings = one-settings d;
        refused = one-refused d;
        spilled = one-spilled d 1 (elim (dec_lt (next_slot b) 32) [
          | yes q ↦ let o = (push.0 q).0 in omega arith
          | no q ↦ let o = (push.1 (omega arith)).0 in omega arith
        ]);
        short = λ few.
            let p = place_le b in
            let n = ap length here in
            let o = (push.0 (omega arith)).0 in
            let z = one-spilled d 0 (omega arith) in
            omega arith;
      }

  pub same-in-lists : (d : Shelf E) → d ≡ record b { room = d.room } → HasSameLists c (view_of f (set bs i d) s)
  same-in-lists d new =
      record {
        lists = lists-view (set bs i d) s (view_of f (set bs i d) s) refl ∙ map-set_same shelf_entries bs i d b (ap shelf_entries new ∙ ap shelf_entries at) ∙ sym (lists-view bs s c view);
        settings = one-settings d;
        refused = one-refused d;
        spilled = let z = one-spilled d 0 (let o : length d.overflow ≡ length b.overflow = ap (λ (x : Shelf E). length x.overflow) new in omega arith) in omega arith;
      }

  pub taken-from-list : (d : Shelf E) (k : ℕ) → k < length (shelf_entries b) → d ≡ without_slot b k → IsTakenFrom c (record { bucket = i; slot = k }) (view_of f (set bs i d) s)
  taken-from-list d k lk new =
      let here = list-view bs s c view i b l at in
      let w = overflow_without b k lk in
      let over : length d.overflow ≡ length (without_slot b k).overflow = ap (λ (x : Shelf E). length x.overflow) new in
      record {
        lists = one-list d (remove (list_of c i) k) (ap shelf_entries new ∙ entries_without b k lk ∙ ap (λ z. remove z k) (sym here));
        settings = one-settings d;
        refused = one-refused d;
        spilled = let z = one-spilled d 0 (elim (dec_lt k (length b.slots)) [
          | yes q ↦ let o = w.0 q in omega arith
          | no q ↦ let o = w.1 (omega arith) in omega arith
        ]) in omega arith;
      }

  pub swapped-out-of-list : (d : Shelf E) (k : ℕ) (x : E) → k < length (shelf_entries b) → d ≡ swapped_out b k x → IsSwappedOutOf c (record { bucket = i; slot = k }) (view_of f (set bs i d) s)
  swapped-out-of-list d k x lk new =
      let here = list-view bs s c view i b l at in
      let w = overflow_without b k lk in
      let over : length d.overflow ≡ length (without_slot b k).overflow = ap (λ (y : Shelf E). length y.overflow) new ∙ overflow-swapped b k x lk in
      record {
        left = shelf_entries d;
        moved =
            let p : IsPermutation (shelf_entries (without_slot b k)) (shelf_entries d) = rw new (entries-swapped b k x lk) in
            let e : shelf_entries (without_slot b k) ≡ remove (list_of c i) k = entries_without b k lk ∙ ap (λ z. remove z k) (sym here) in
            subst (λ z. IsPermutation z (shelf_entries d)) e p;
        lists = one-list d (shelf_entries d) refl;
        settings = one-settings d;
        refused = one-refused d;
        spilled = let z = one-spilled d 0 (elim (dec_lt k (length b.slots)) [
          | yes q ↦ let o = w.0 q in omega arith
          | no q ↦ let o = w.1 (omega arith) in omega arith
        ]) in omega arith;
      }
