-- The contents of both arrays after the list of a bucket that doesn't wait changes in the current array.
use Rattle.std.proofs.Common.{◌≡◌, ◌==◌, ℕ, ◌+◌, ◌^◌, ◌<◌, ◌≢◌, inl, inr, Bool, true, false, List, [], length, map, set, get_or, refl, sym, ap, ◌∙◌, subst, arith, length-set, get_or-set_other}
use Rattle.std.specs.List.{filter, flat_map, IsDistinct}
use native.Mathlib.Decide.{dec_lt}
use Rattle.scc_array.specs.Shelf.{Shelf, shelf_entries}
use Rattle.scc_array.specs.ShelfWrites.{write_at}
use Rattle.scc_common.specs.Contents.{Contents, entries, bucket_count, list_of, lists_of, settings_of, notes_of, overflow_of, waiting_of, owed_of}
use Rattle.scc_common.specs.Routing.{bucket_number}
use Rattle.scc_buckets.specs.Tables.{overflow_in}
use Rattle.scc_buckets.specs.Writes.{with_write_at_spot}
use Rattle.scc_buckets.specs.declared.place.Place.{Place}
use Rattle.scc_draining.specs.Moves.{AreMultiples, AreOwn}
use Rattle.scc_draining.specs.Drainings.{Draining}
use Rattle.scc_table.specs.TwoArrays.{joined, owed_in, waits_at, target_by, together, TwoArrays, IsTable}
use Rattle.scc_draining.proofs.Arriving.{same-contents}
use Rattle.scc_table.proofs.arrays.ListChanges.{joined-here, joined-set}
use Rattle.scc_table.proofs.arrays.JoinedLists.{lists-together, owed-together, settings-together, refused-together, waiting-together}
use Rattle.scc_table.proofs.relocations.Fields.{count-is, list-is}

pub spilled-together : {E S : Type 0} (hash : E → ℕ) (c : Contents E S) (ws : List Bool) (olds : List (Shelf E)) → overflow_of (together hash c ws olds) ≡ overflow_of c + overflow_in olds
unfolding overflow_of
spilled-together hash c ws olds = refl

-- the list of a bucket that doesn't wait is its list in the current array
pub own-list : {E S : Type 0} (hash : E → ℕ) (c : Contents E S) (ws : List Bool) (olds : List (Shelf E)) (i : ℕ) → waits_at ws i ≡ false → list_of (together hash c ws olds) i ≡ list_of c i
own-list hash c ws olds i down =
    list-is (together hash c ws olds) i ∙ ap (λ ls. get_or ls i []) (lists-together hash c ws olds) ∙ joined-here (target_by hash c) (flat_map shelf_entries olds) 0 i ws (lists_of c) down ∙ sym (list-is c i)

module _ {E S : Type 0} (c d : Contents E S) (i : ℕ) (x : List E) (lists : lists_of d ≡ set (lists_of c) i x) where
  pub count-same : bucket_count d ≡ bucket_count c
  count-same = count-is d ∙ ap length lists ∙ length-set (lists_of c) i x ∙ sym (count-is c)

  module _ (settings : settings_of d ≡ settings_of c) (hash : E → ℕ) where
    pub target-same : target_by hash d ≡ target_by hash c
    target-same =
        ap (λ s. let g : E → ℕ = λ e. bucket_number s.skipped (bucket_count d) (hash e) in g) settings ∙ ap (λ m. let g : E → ℕ = λ e. bucket_number (settings_of c).skipped m (hash e) in g) count-same

    module _ (ws : List Bool) (olds : List (Shelf E)) (down : waits_at ws i ≡ false) where
      -- in the contents of both arrays, the list of bucket i becomes x, and no other list changes
      pub own-lists : lists_of (together hash d ws olds) ≡ set (lists_of (together hash c ws olds)) i x
      own-lists =
          let es = flat_map shelf_entries olds in
          lists-together hash d ws olds ∙ ap (λ g. joined g 0 ws (lists_of d) es) target-same ∙ ap (λ z. joined (target_by hash c) 0 ws z es) lists
          ∙ joined-set (target_by hash c) es 0 i ws (lists_of c) x down ∙ ap (λ z. set z i x) (sym (lists-together hash c ws olds))

      pub own-owed : owed_of (together hash d ws olds) ≡ owed_of (together hash c ws olds)
      own-owed = owed-together hash d ws olds ∙ ap (λ g. owed_in g ws olds) target-same ∙ sym (owed-together hash c ws olds)

      pub own-waiting : waiting_of (together hash d ws olds) ≡ waiting_of (together hash c ws olds)
      own-waiting = waiting-together hash d ws olds ∙ sym (waiting-together hash c ws olds)

      pub own-settings : settings_of (together hash d ws olds) ≡ settings_of (together hash c ws olds)
      own-settings = settings-together hash d ws olds ∙ settings ∙ sym (settings-together hash c ws olds)

      pub own-refused : notes_of d ≡ notes_of c → notes_of (together hash d ws olds) ≡ notes_of (together hash c ws olds)
      own-refused noted = refused-together hash d ws olds ∙ noted ∙ sym (refused-together hash c ws olds)

      pub own-arrays : TwoArrays hash c ws olds → TwoArrays hash d ws olds
      own-arrays arrays = record {
        flags = elim arrays.flags [ inl z ↦ inl z | inr z ↦ inr (z ∙ sym count-same) ];
        multiples = elim arrays.multiples [ inl z ↦ inl z | inr z ↦ inr (subst (AreMultiples (length olds)) (sym count-same) z) ];
        sized = arrays.sized;
        own = subst (λ s. AreOwn hash s.skipped olds) (sym settings) arrays.own;
        not_waiting = λ k low. ap (λ g. filter (λ e. g e == k) (flat_map shelf_entries olds)) target-same ∙ arrays.not_waiting k low;
        bare = λ k high.
            let apart = λ (ne : k ≢ i). list-is d k ∙ ap (λ z. get_or z k []) lists ∙ get_or-set_other (lists_of c) i k x [] ne ∙ sym (list-is c k) ∙ arrays.bare k high in
            elim (dec_lt k i) [
              | yes r ↦ apart (omega arith)
              | no r ↦ elim (dec_lt i k) [
                | yes s ↦ apart (omega arith)
                | no s ↦ let same : k ≡ i = omega arith in absurd (let q : false ≡ true = sym down ∙ ap (waits_at ws) (sym same) ∙ high in cc)
              ]
            ];
      }

-- the invariant `IsTable` holds after the list of bucket i becomes x
pub own-fields : {E K S : Type 0} (eq : K → K → Bool) (key : E → K) (hash : K → ℕ) (c d : Contents E S) (i : ℕ) (x : List E) → lists_of d ≡ set (lists_of c) i x → settings_of d ≡ settings_of c → (drain : Draining E) → waits_at drain.waiting i ≡ false
    → IsTable eq key hash c drain → overflow_of d + drain.left_overflow < 2 ^ 62 → IsDistinct eq (map key (entries (together (λ e. hash (key e)) d drain.waiting drain.array)))
    → IsTable eq key hash d drain
own-fields eq key hash c d i x lists settings drain down inv few unique = record {
  arrays = own-arrays c d i x lists settings (λ e. hash (key e)) drain.waiting drain.array down inv.arrays;
  counted = inv.counted;
  none = inv.none;
  given_back = inv.given_back;
  nothing_left = inv.nothing_left;
  below = inv.below;
  left_is = inv.left_is;
  overflow_is = inv.overflow_is;
  few = few;
  unique = unique;
}

module _ {E S X : Type 0} (put : E → X → E) (c : Contents E S) (p : Place) (w : X) where
  pub lists-write : lists_of (with_write_at_spot put c p w) ≡ set (lists_of c) p.bucket (write_at put (list_of c p.bucket) p.slot w)
  unfolding with_write_at_spot lists_of
  lists-write = refl

  pub settings-write : settings_of (with_write_at_spot put c p w) ≡ settings_of c
  unfolding with_write_at_spot settings_of
  settings-write = refl

  pub refused-write : notes_of (with_write_at_spot put c p w) ≡ notes_of c
  unfolding with_write_at_spot notes_of
  refused-write = refl

  pub spilled-write : overflow_of (with_write_at_spot put c p w) ≡ overflow_of c
  unfolding with_write_at_spot overflow_of
  spilled-write = refl

  pub waiting-write : waiting_of (with_write_at_spot put c p w) ≡ waiting_of c
  unfolding with_write_at_spot waiting_of
  waiting-write = refl

  pub owed-write : owed_of (with_write_at_spot put c p w) ≡ owed_of c
  unfolding with_write_at_spot owed_of
  owed-write = refl

module _ {E S X : Type 0} (put : E → X → E) (c : Contents E S) (p : Place) (w : X) where
  -- if the bucket of p doesn't wait, a write at p in the current array is a write at p in both arrays
  pub own-write : (hash : E → ℕ) (ws : List Bool) (olds : List (Shelf E)) → waits_at ws p.bucket ≡ false → together hash (with_write_at_spot put c p w) ws olds ≡ with_write_at_spot put (together hash c ws olds) p w
  own-write hash ws olds down =
      let d = with_write_at_spot put c p w in
      let b = together hash c ws olds in
      let x = write_at put (list_of c p.bucket) p.slot w in
      same-contents (with_write_at_spot put b p w) (together hash d ws olds)
      (own-lists c d p.bucket x (lists-write put c p w) (settings-write put c p w) hash ws olds down ∙ ap (λ z. set (lists_of b) p.bucket (write_at put z p.slot w)) (sym (own-list hash c ws olds p.bucket down)) ∙ sym (lists-write put b p w))
      (own-settings c d p.bucket x (lists-write put c p w) (settings-write put c p w) hash ws olds down ∙ sym (settings-write put b p w))
      (own-refused c d p.bucket x (lists-write put c p w) (settings-write put c p w) hash ws olds down (refused-write put c p w) ∙ sym (refused-write put b p w))
      (spilled-together hash d ws olds ∙ ap (λ n. n + overflow_in olds) (spilled-write put c p w) ∙ sym (spilled-together hash c ws olds) ∙ sym (spilled-write put b p w))
      (own-waiting c d p.bucket x (lists-write put c p w) (settings-write put c p w) hash ws olds down ∙ sym (waiting-write put b p w))
      (own-owed c d p.bucket x (lists-write put c p w) (settings-write put c p w) hash ws olds down ∙ sym (owed-write put b p w))
