-- The parts of the contents of two arrays that are those of the current array.
use Rattle.std.proofs.Common.{◌≡◌, ℕ, Bool, List, sym, ap, ◌∙◌}
use Rattle.scc_array.specs.Shelf.{Shelf}
use Rattle.scc_common.specs.Contents.{Contents, bucket_count, settings_of, waiting_of}
use Rattle.scc_table.specs.TwoArrays.{together, TwoArrays}
use Rattle.scc_table.proofs.arrays.JoinedLists.{count-together, settings-together, waiting-together}

module _ {E S : Type 0} (hash : E → ℕ) (c : Contents E S) (ws : List Bool) (olds : List (Shelf E)) (d : Contents E S) (view : together hash c ws olds ≡ d) where
  pub settings-seen : settings_of c ≡ settings_of d
  settings-seen = sym (settings-together hash c ws olds) ∙ ap settings_of view

  pub waiting-seen : waiting_of d ≡ ws
  waiting-seen = ap waiting_of (sym view) ∙ waiting-together hash c ws olds

  pub count-seen : TwoArrays hash c ws olds → bucket_count c ≡ bucket_count d
  count-seen arrays = sym (count-together hash c ws olds arrays.flags) ∙ ap bucket_count view
