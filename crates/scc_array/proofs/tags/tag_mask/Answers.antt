use Rattle.std.proofs.Common.{◌≡◌, ◌==◌, ◌<◌, ◌^◌, ℕ, List, arith, map, length, rules}
use Rattle.std.specs.Int.{w8}
use Rattle.std.proofs.lemmas.Simd.{bitmask_splat, mask_l-lt}
use lib.Lanes.{mask_l}
use lib.ListN.{length-map}
use Rattle.scc_array.proofs.tags.tag_mask.Goals as goal

small : (tags : List ℕ) (tag x : ℕ) → length tags ≡ 32 → x ≡ mask_l (map (λ y. y == tag) tags) → x < 2 ^ 32
small tags tag x n e =
    let m = mask_l-lt (map (λ y. y == tag) tags) in
    let l : length (map (λ y. y == tag) tags) ≡ 32 = simp length-map n in
    rw e (rw l at m)

pub overflow_cast-result : goal.overflow_cast-result
overflow_cast-result c = record { fits = small c.args.tags.now c.args.tag _ (search rules) (bitmask_splat w8 (λ a b. a == b) c.args.tags.now 32 c.args.tag (search rules) (omega arith)) }

pub returns : goal.returns
returns c = bitmask_splat w8 (λ a b. a == b) c.args.tags.now 32 c.args.tag (search rules) (omega arith)
