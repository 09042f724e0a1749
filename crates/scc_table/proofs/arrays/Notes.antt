-- A change to two arrays that keeps the lists of the current array and the bucket of each hash.
use Rattle.std.proofs.Common.{◌≡◌, ◌==◌, ℕ, ◌+◌, ◌≤◌, inl, inr, Bool, List, length, map, sym, ap, ◌∙◌, subst, arith}
use Rattle.std.specs.List.{filter, flat_map, IsDistinct}
use Rattle.scc_array.specs.Shelf.{Shelf, shelf_entries}
use Rattle.scc_common.specs.Contents.{Contents, bucket_count, lists_of, settings_of, overflow_of, owed_of}
use Rattle.scc_common.specs.Routing.{bucket_number}
use Rattle.scc_buckets.specs.Tables.{overflow_in}
use Rattle.scc_draining.specs.Moves.{AreMultiples, AreOwn}
use Rattle.scc_draining.specs.Drainings.{Draining}
use Rattle.scc_table.specs.TwoArrays.{IsTable, owed_in, joined, target_by, together, TwoArrays}
use Rattle.scc_table.proofs.arrays.OneArray.{spilled-together}
use Rattle.scc_table.proofs.arrays.JoinedLists.{lists-together, owed-together}
use Rattle.scc_table.proofs.arrays.SameParts.{count-same, list-same, entries-same}

-- each entry has the same bucket number in d as in c
pub target-kept : {E S : Type 0} (hash : E → ℕ) (c d : Contents E S) → (settings_of d).skipped ≡ (settings_of c).skipped → bucket_count d ≡ bucket_count c → target_by hash d ≡ target_by hash c
target-kept {E} hash c d skips counts =
    ap (λ s. let g : E → ℕ = λ e. bucket_number s (bucket_count d) (hash e) in g) skips ∙ ap (λ m. let g : E → ℕ = λ e. bucket_number (settings_of c).skipped m (hash e) in g) counts

module _ {E S : Type 0} (hash : E → ℕ) (c d : Contents E S) (ws : List Bool) (olds : List (Shelf E)) (lists : lists_of d ≡ lists_of c) (skips : (settings_of d).skipped ≡ (settings_of c).skipped) where
  same-target : target_by hash d ≡ target_by hash c
  same-target = target-kept hash c d skips (count-same c d lists)

  pub lists-kept : lists_of (together hash d ws olds) ≡ lists_of (together hash c ws olds)
  lists-kept =
      lists-together hash d ws olds ∙ ap (λ f. joined f 0 ws (lists_of d) (flat_map shelf_entries olds)) same-target ∙ ap (λ z. joined (target_by hash c) 0 ws z (flat_map shelf_entries olds)) lists
      ∙ sym (lists-together hash c ws olds)

  pub owed-kept : owed_of (together hash d ws olds) ≡ owed_of (together hash c ws olds)
  owed-kept = owed-together hash d ws olds ∙ ap (λ f. owed_in f ws olds) same-target ∙ sym (owed-together hash c ws olds)

  pub spilled-kept : overflow_of d ≡ overflow_of c → overflow_of (together hash d ws olds) ≡ overflow_of (together hash c ws olds)
  spilled-kept same = spilled-together hash d ws olds ∙ ap (λ n. n + overflow_in olds) same ∙ sym (spilled-together hash c ws olds)

  pub arrays-kept : TwoArrays hash c ws olds → TwoArrays hash d ws olds
  arrays-kept a = record {
    flags = elim a.flags [ inl z ↦ inl z | inr z ↦ inr (z ∙ sym (count-same c d lists)) ];
    multiples = elim a.multiples [ inl z ↦ inl z | inr z ↦ inr (subst (AreMultiples (length olds)) (sym (count-same c d lists)) z) ];
    sized = a.sized;
    own = subst (λ s. AreOwn hash s olds) (sym skips) a.own;
    not_waiting = λ i down. ap (λ g. filter (λ e. g e == i) (flat_map shelf_entries olds)) same-target ∙ a.not_waiting i down;
    bare = λ i up. list-same c d lists i ∙ a.bare i up;
  }

pub fields-less : {E K S : Type 0} (eq : K → K → Bool) (key : E → K) (hash : K → ℕ) (c d : Contents E S) (drain : Draining E) → lists_of d ≡ lists_of c → (settings_of d).skipped ≡ (settings_of c).skipped → overflow_of d ≤ overflow_of c
    → IsTable eq key hash c drain → IsTable eq key hash d drain
fields-less {E} eq key hash c d drain lists skips spilled inv =
    let h : E → ℕ = λ e. hash (key e) in
    record {
      arrays = arrays-kept h c d drain.waiting drain.array lists skips inv.arrays;
      counted = inv.counted;
      none = inv.none;
      given_back = inv.given_back;
      nothing_left = inv.nothing_left;
      below = inv.below;
      left_is = inv.left_is;
      overflow_is = inv.overflow_is;
      few = let f = inv.few in omega arith;
      unique = subst (λ es. IsDistinct eq (map key es)) (sym (entries-same (together h c drain.waiting drain.array) (together h d drain.waiting drain.array) (lists-kept h c d drain.waiting drain.array lists skips))) inv.unique;
    }

pub fields-kept : {E K S : Type 0} (eq : K → K → Bool) (key : E → K) (hash : K → ℕ) (c d : Contents E S) (drain : Draining E) → lists_of d ≡ lists_of c → (settings_of d).skipped ≡ (settings_of c).skipped → overflow_of d ≡ overflow_of c
    → IsTable eq key hash c drain → IsTable eq key hash d drain
fields-kept eq key hash c d drain lists skips spilled inv = fields-less eq key hash c d drain lists skips (omega arith) inv
