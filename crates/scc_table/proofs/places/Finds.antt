-- The first entry of both arrays that passes.
use Rattle.std.proofs.Common.{◌≡◌, ◌==◌, ℕ, ◌<◌, Bool, true, false, List, length, sym, ap, ◌∙◌, arith, eq-eqb}
use Rattle.std.specs.List.{find, flat_map}
use Rattle.scc_array.proofs.Finds.{find-filter}
use Rattle.scc_array.specs.Shelves.{shelf_of}
use Rattle.scc_array.specs.Shelf.{Shelf, shelf_entries}
use Rattle.scc_common.specs.Contents.{Contents, entries, bucket_count, list_of, settings_of, IsRouted}
use Rattle.scc_common.specs.Routing.{bucket_number}
use Rattle.scc_buckets.proofs.FindingLemmas.{HashOf}
use Rattle.scc_buckets.proofs.Finds as table
use Rattle.scc_table.specs.TwoArrays.{together, TwoArrays, waits_at}
use Rattle.scc_table.proofs.arrays.JoinedLists.{count-together, settings-together}
use Rattle.scc_table.proofs.places.OldSpots.{own-list}
use Rattle.scc_table.proofs.relocations.Preparation.{long-flags, waiting-list}
use Rattle.scc_table.proofs.places.Searches.{routed-together}

-- each entry that passes p has the hash h, and bucket i of the current array is the bucket of h
module _ {E S : Type 0} (hash : E → ℕ) (c : Contents E S) (ws : List Bool) (olds : List (Shelf E)) (arrays : TwoArrays hash c ws olds) (routed : IsRouted hash c) (p : E → Bool) (h i : ℕ) (a : HashOf p hash h) (at : i ≡ bucket_number (settings_of c).skipped (bucket_count c) h) (l : i < bucket_count c) where
  find-listed : find p (entries (together hash c ws olds)) ≡ find p (list_of (together hash c ws olds) i)
  find-listed =
      let d = together hash c ws olds in
      let there : i ≡ bucket_number (settings_of d).skipped (bucket_count d) h =
      at ∙ ap (λ s. bucket_number s.skipped (bucket_count c) h) (sym (settings-together hash c ws olds)) ∙ ap (λ m. bucket_number (settings_of d).skipped m h) (sym (count-together hash c ws olds arrays.flags)) in
      table.find-routed p hash h a d (routed-together hash c ws olds arrays routed) i there (omega (arith, l, count-together hash c ws olds arrays.flags))

  -- if bucket i doesn't wait, the first entry that passes p is the first one of the current array that passes p
  pub find-current : waits_at ws i ≡ false → find p (entries (together hash c ws olds)) ≡ find p (entries c)
  find-current down = find-listed ∙ ap (find p) (own-list hash c ws olds arrays i l down) ∙ sym (table.find-routed p hash h a c routed i at l)

  -- if bucket i waits, the first entry that passes p is the first one of the old bucket of h that passes p
  pub find-draining : waits_at ws i ≡ true → (j : ℕ) → j < length olds → j ≡ bucket_number (settings_of c).skipped (length olds) h → find p (entries (together hash c ws olds)) ≡ find p (shelf_entries (shelf_of olds j))
  find-draining up j lj source =
      let t = (settings_of c).skipped in
      let n = bucket_count c in
      find-listed ∙ ap (find p) (waiting-list hash c ws olds arrays i up (long-flags c ws i arrays.flags up))
      ∙ find-filter p (λ e. bucket_number t n (hash e) == i) (λ e y. eq-eqb _ _ (ap (bucket_number t n) (a.same e y) ∙ sym at)) (flat_map shelf_entries olds)
      ∙ table.find-own p hash h a t olds arrays.own.own j source lj
