-- Contents with one value or one key written over.
use Rattle.std.specs.Prelude.{◌<◌, List, [], length}
use Rattle.std.specs.List.{slice_set, slice_index_or}
use Rattle.std.proofs.Common.{sym, subst, length-set, get_or-set_same}
use Rattle.scc_array.specs.ShelfWrites.{write_at, length-write_at}
use Rattle.scc_common.specs.Contents.{Contents, bucket_count, list_of}
use Rattle.scc_buckets.specs.Places.{IsSpot}
use Rattle.scc_buckets.specs.declared.place.Place.{Place}

module _ {E S X : Type 0} where
  -- the contents after `put` has written x into the entry at p
  unfoldable pub with_write_at_spot : (E → X → E) → Contents E S → Place → X → Contents E S
  with_write_at_spot put c p x = record c { lists = slice_set c.lists p.bucket (write_at put (list_of c p.bucket) p.slot x) }

-- a write keeps every place valid
pub IsPlace-with_write_at : {E S X : Type 0} (put : E → X → E) (c : Contents E S) (p : Place) (w : X) → IsSpot c p → IsSpot (with_write_at_spot put c p w) p
unfolding with_write_at_spot bucket_count list_of
IsPlace-with_write_at put c p w h = record {
  bucket = subst (λ n. p.bucket < n) (sym (length-set c.lists p.bucket _)) h.bucket;
  slot = subst (λ (l : List _). p.slot < length l) (sym (get_or-set_same c.lists p.bucket _ [] h.bucket)) (subst (λ n. p.slot < n) (sym (length-write_at put (slice_index_or c.lists p.bucket []) p.slot w)) h.slot);
}
