-- The first entry that passes, among all and in the bucket of its hash.
use Rattle.std.proofs.Common.{◌≡◌, ◌≢◌, ℕ, ◌<◌, Bool, cond, List, [], ◌∷◌, length, None, Some, refl, sym, ap, ◌∙◌}
use Rattle.std.specs.List.{find, flat_map}
use Rattle.std.specs.Map.{lookup_entry}
use Rattle.scc_array.proofs.Finds.{find-flat, find-none}
use Rattle.scc_array.specs.Shelves.{shelf_of}
use Rattle.scc_array.specs.Shelf.{Shelf, empty_shelf, shelf_entries}
use Rattle.scc_array.proofs.ListsLemmas.{get-below, get-is}
use Rattle.scc_common.specs.Contents.{Contents, entries, bucket_count, list_of, settings_of, IsRouted}
use Rattle.scc_common.specs.Routing.{bucket_number}
use Rattle.scc_buckets.specs.Tables.{IsOwn}
use Rattle.scc_buckets.proofs.FindingLemmas.{HashOf}

module _ {E : Type 0} (p : E → Bool) (hash : E → ℕ) (h : ℕ) (a : HashOf p hash h) where
  -- each entry lies in the bucket of its hash
  module _ (t : ℕ) (bs : List (Shelf E)) (own : (j : ℕ) → j < length bs → IsOwn hash t (length bs) j (shelf_of bs j)) (i : ℕ) (at : i ≡ bucket_number t (length bs) h) (l : i < length bs) where
    own-none : (j : ℕ) → j < length bs → j ≢ i → find p (shelf_entries (shelf_of bs j)) ≡ None
    own-none j lj ne =
        find-none p (shelf_entries (shelf_of bs j))
        (λ k x got y.
        let es = shelf_entries (shelf_of bs j) in
        let here : bucket_number t (length bs) (hash x) ≡ j = ap (λ z. bucket_number t (length bs) (hash z)) (get-is es k x x got) ∙ (own j lj).routed k x (get-below es k x got) in
        ne (sym here ∙ ap (bucket_number t (length bs)) (a.same x y) ∙ sym at))

    pub find-own : find p (flat_map shelf_entries bs) ≡ find p (shelf_entries (shelf_of bs i))
    find-own = find-flat p shelf_entries empty_shelf bs i l own-none

  -- each entry stands in the list of its hash
  module _ {S : Type 0} (c : Contents E S) (routed : IsRouted hash c) (i : ℕ) (at : i ≡ bucket_number (settings_of c).skipped (bucket_count c) h) (l : i < bucket_count c) where
    routed-none : (j : ℕ) → j ≢ i → find p (list_of c j) ≡ None
    routed-none j ne =
        find-none p (list_of c j) (λ k x got y. ne (sym (routed.routed j k x got) ∙ ap (bucket_number (settings_of c).skipped (bucket_count c)) (a.same x y) ∙ sym at))

    pub find-routed : find p (entries c) ≡ find p (list_of c i)
    unfolding entries bucket_count list_of
    find-routed = find-flat p (λ l. l) [] c.lists i l (λ j lj ne. routed-none j ne)

-- a look-up of a pair is a `find`
pub lookup-find : {K V : Type 0} (t : K → Bool) (es : List (K × V)) → lookup_entry t es ≡ find (λ e. t e.0) es
lookup-find t [] = refl
lookup-find t (x ∷ es) = ap (λ o. cond (t x.0) (Some x) o) (lookup-find t es)
