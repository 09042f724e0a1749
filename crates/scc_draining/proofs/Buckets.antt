-- One bucket of an array changes several times, and the other buckets stay.
use Rattle.std.proofs.Common.{◌≡◌, ℕ, ◌<◌, List, length, set, sym, ap, ◌∙◌, arith, length-set}
use Rattle.std.proofs.lemmas.List.{set-set, set-get_or}
use Rattle.scc_array.specs.Shelves.{shelf_of}
use Rattle.scc_array.specs.Shelf.{Shelf, empty_shelf}
use Rattle.scc_buckets.proofs.Arrays.{put-is}

pub first-own : {E : Type 0} (xs : List (Shelf E)) (i : ℕ) → xs ≡ set xs i (shelf_of xs i)
first-own xs i = sym (set-get_or xs i empty_shelf)

module _ {E : Type 0} (xs ys : List (Shelf E)) (i : ℕ) (l : i < length xs) (was : ys ≡ set xs i (shelf_of ys i)) where
  pub still-within : i < length ys
  still-within = let n : length ys ≡ length xs = ap length was ∙ length-set xs i (shelf_of ys i) in omega arith

  module _ (zs : List (Shelf E)) (s : Shelf E) (put : zs ≡ set ys i s) where
    pub later-is : shelf_of zs i ≡ s
    later-is = put-is ys i still-within zs s put

    pub later-own : zs ≡ set xs i (shelf_of zs i)
    later-own = put ∙ ap (λ v. set v i s) was ∙ set-set xs i (shelf_of ys i) s ∙ ap (set xs i) (sym later-is)
