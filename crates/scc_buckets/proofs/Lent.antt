-- The array of a table, as a call sees it to which it is lent.
use Rattle.std.proofs.Common.{◌≡◌, ◌∙◌, ℕ, Bool, List, sym}
use Rattle.scc_array.specs.Shelf.{Shelf}
use Rattle.scc_buckets.proofs.Bounds.{routed-view}
use Rattle.scc_buckets.proofs.Views.{entries-view, lists-view, settings-view, spilled-view, view_of}
use Rattle.scc_buckets.specs.Filling.{IsArrayOf}
use Rattle.scc_buckets.specs.Tables.{AreBuckets}
use Rattle.scc_common.specs.Contents.{Contents, Settings, hash_in}

module _ {E K S : Type 0} (eq : K → K → Bool) (key : E → K) (hash_of : S → K → ℕ) {f : Bool × Bool} (bs : List (Shelf E)) (s : Settings S) (c : Contents E S) (view : view_of f bs s ≡ c) where
  pub array-lent : {least n m : ℕ} → AreBuckets eq key (hash_of s.hasher) s.skipped least bs n m → IsArrayOf eq key (λ e. hash_in hash_of c (key e)) c bs n m
  array-lent kept =
      let at = settings-view bs s c view in
      record {
        were = lists-view bs s c view;
        table = rw (at, hash_in) kept.table;
        overflowing = kept.table.spilled ∙ sym (spilled-view bs s c view);
        routed = rw (at, hash_in) (routed-view _ _ _ bs s c view kept.table);
        unique = rw (entries-view bs s c view) kept.unique;
      }
