-- The words of a table, computed from its buckets.
use Rattle.std.proofs.Common.{◌≡◌, ℕ, ◌<◌, Bool, List, [], ◌∷◌, ◌++◌, length, map, get_or, refl, sym, ap, ◌∙◌}
use Rattle.std.specs.List.{flat_map}
use Rattle.std.proofs.lemmas.List.{get_or-map, length-map}
use Rattle.scc_common.specs.Contents.{Contents, Settings, entries, bucket_count, settings_of, notes_of, list_of, lists_of, overflow_of, waiting_of, owed_of}
use Rattle.scc_buckets.specs.Tables.{overflow_in}
use Rattle.scc_array.specs.Shelf.{Shelf, shelf_entries}

pub flat_lists : {E : Type 0} (bs : List (Shelf E)) → flat_map (λ l. l) (map shelf_entries bs) ≡ flat_map shelf_entries bs
flat_lists [] = refl
flat_lists (b ∷ bs) = ap (λ z. shelf_entries b ++ z) (flat_lists bs)

-- the contents that a clause sees of these flags, buckets and settings
abbrev pub view_of : {E S : Type 0} → Bool × Bool → List (Shelf E) → Settings S → Contents E S
view_of f bs s = record { lists = map shelf_entries bs; settings = s; refused = f; spilled = overflow_in bs; waiting = []; owed = [] }

module _ {E S : Type 0} (bs : List (Shelf E)) (s : Settings S) {f : Bool × Bool} (c : Contents E S) (view : view_of f bs s ≡ c) where
  pub entries-view : entries c ≡ flat_map shelf_entries bs
  unfolding entries
  entries-view = ap (λ (x : Contents E S). flat_map (λ l. l) x.lists) (sym view) ∙ flat_lists bs

  pub count-view : bucket_count c ≡ length bs
  unfolding bucket_count
  count-view = ap (λ (x : Contents E S). length x.lists) (sym view) ∙ length-map bs shelf_entries

  pub settings-view : settings_of c ≡ s
  unfolding settings_of
  settings-view = ap (λ (x : Contents E S). x.settings) (sym view)

  pub refused-view : notes_of c ≡ f
  unfolding notes_of
  refused-view = ap (λ (x : Contents E S). x.refused) (sym view)

  pub list-view : (i : ℕ) (b : Shelf E) → i < length bs → b ≡ get_or bs i b → list_of c i ≡ shelf_entries b
  unfolding list_of
  list-view i b l at = ap (λ (x : Contents E S). get_or x.lists i []) (sym view) ∙ get_or-map shelf_entries bs i b [] l ∙ ap shelf_entries (sym at)

  pub lists-view : lists_of c ≡ map shelf_entries bs
  unfolding lists_of
  lists-view = ap (λ (x : Contents E S). x.lists) (sym view)

  pub spilled-view : overflow_of c ≡ overflow_in bs
  unfolding overflow_of
  spilled-view = ap (λ (x : Contents E S). x.spilled) (sym view)

  -- no bucket waits
  pub waiting-view : waiting_of c ≡ []
  unfolding waiting_of
  waiting-view = ap (λ (x : Contents E S). x.waiting) (sym view)

  pub owed-view : owed_of c ≡ []
  unfolding owed_of
  owed-view = ap (λ (x : Contents E S). x.owed) (sym view)
