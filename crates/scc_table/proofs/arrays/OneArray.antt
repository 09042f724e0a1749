-- Two arrays, if no bucket waits.
use Rattle.std.proofs.Common.{◌≡◌, ℕ, ◌+◌, ◌^◌, ◌<◌, inl, Bool, true, false, List, [], ◌∷◌, length, map, refl, sym, ap, subst, arith}
use Rattle.std.specs.List.{flat_map, IsDistinct}
use Rattle.std.proofs.lemmas.List.Sums.{sum_by-cons}
use Rattle.scc_array.specs.Shelf.{Shelf, shelf_entries}
use Rattle.scc_buckets.proofs.Bare.{nil-left}
use Rattle.scc_draining.proofs.Others.{destined-nowhere}
use Rattle.scc_common.specs.Contents.{Contents, entries, bucket_count, lists_of, settings_of, notes_of, overflow_of, owed_of}
use Rattle.scc_buckets.specs.Tables.{overflow_in}
use Rattle.scc_table.specs.TwoArrays.{owed_in, target_by, together, TwoArrays, IsTable}

module _ {E S : Type 0} (hash : E → ℕ) (c : Contents E S) (ws : List Bool) (olds : List (Shelf E)) (none : ws ≡ []) where
  -- the old array holds no entries
  pub nothing-owed : TwoArrays hash c ws olds → flat_map shelf_entries olds ≡ []
  nothing-owed arrays =
      let there : TwoArrays hash c [] olds = subst (λ w. TwoArrays hash c w olds) none arrays in
      destined-nowhere hash (settings_of c).skipped (bucket_count c) (flat_map shelf_entries olds) (λ i. there.not_waiting i refl)

  pub lists-alone : lists_of (together hash c ws olds) ≡ lists_of c
  unfolding lists_of
  lists-alone = ap (λ w. lists_of (together hash c w olds)) none

  pub entries-alone : entries (together hash c ws olds) ≡ entries c
  unfolding entries lists_of
  entries-alone = ap (λ w. entries (together hash c w olds)) none

  pub count-alone : bucket_count (together hash c ws olds) ≡ bucket_count c
  unfolding bucket_count lists_of
  count-alone = ap (λ w. bucket_count (together hash c w olds)) none

  pub owed-alone : owed_of (together hash c ws olds) ≡ []
  unfolding owed_of
  owed-alone = ap (λ w. owed_in (target_by hash c) w olds) none

pub spilled-together : {E S : Type 0} (hash : E → ℕ) (c : Contents E S) (ws : List Bool) (olds : List (Shelf E)) → overflow_of (together hash c ws olds) ≡ overflow_of c + overflow_in olds
unfolding overflow_of
spilled-together hash c ws olds = refl

pub spilled-alone : {E S : Type 0} (hash : E → ℕ) (c : Contents E S) (ws : List Bool) → overflow_of (together hash c ws []) ≡ overflow_of c
spilled-alone hash c ws = let z = spilled-together hash c ws [] in omega arith

-- if the old array holds no entries, its overflow lists are empty
pub spilled-bare : {E : Type 0} (olds : List (Shelf E)) → flat_map shelf_entries olds ≡ [] → overflow_in olds ≡ 0
spilled-bare [] h = refl
spilled-bare {E} (b ∷ olds) h =
    let parts = nil-left (shelf_entries b) (flat_map shelf_entries olds) h in
    let here : length b.overflow ≡ 0 = ap length (nil-left b.slots b.overflow parts.0).1 in
    let rest = spilled-bare olds parts.1 in
    let s = sum_by-cons (λ (x : Shelf E). length x.overflow) b olds in
    omega arith

-- if the old array holds no entries, the contents of both arrays are those without an old array
pub bare-together : {E S : Type 0} (hash : E → ℕ) (c : Contents E S) (olds : List (Shelf E)) → flat_map shelf_entries olds ≡ [] → together hash c [] olds ≡ together hash c [] []
bare-together {E} {S} hash c olds bare =
    ap (λ n. let d : Contents E S = record { lists = lists_of c; settings = settings_of c; refused = notes_of c; spilled = overflow_of c + n; waiting = []; owed = [] } in d) (spilled-bare olds bare)

-- the invariant `IsTable` holds of contents c without an old array
pub fields-alone : {E K S : Type 0} (eq : K → K → Bool) (key : E → K) (hash : K → ℕ) (c : Contents E S) (next : ℕ) → overflow_of c < 2 ^ 62 → IsDistinct eq (map key (entries c))
    → IsTable eq key hash c (record { array = []; waiting = []; pending = 0; next = next; left = 0; left_overflow = 0 })
fields-alone eq key hash c next few unique = record {
  arrays = record {
    flags = inl refl;
    multiples = inl refl;
    sized = inl refl;
    own = record { own = λ j l. absurd (omega arith) };
    not_waiting = λ i down. refl;
    bare = λ i up. absurd (let q : false ≡ true = up in cc);
  };
  counted = refl;
  none = λ z. refl;
  given_back = λ z. refl;
  nothing_left = λ z. refl;
  below = λ i l. refl;
  left_is = refl;
  overflow_is = omega arith;
  few = omega arith;
  unique = subst (λ es. IsDistinct eq (map key es)) (sym (entries-alone (λ e. hash (key e)) c [] [] refl)) unique;
}
