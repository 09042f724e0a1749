use Rattle.std.proofs.Common.{◌≡◌, ◌+◌, ◌∙◌, ◌*◌, ◌≤◌, ap, arith}
use Rattle.scc_common.specs.Contents.{bucket_count, minimum_of}
use Rattle.scc_owned_cache.proofs.Caching.{state-empty}
use Rattle.scc_owned_cache.proofs.Owned.skipping.Goals as goal

pub invariant_of-result : goal.invariant_of-result
invariant_of-result g c =
    let size = c.slots_for-maximum.ensures in
    let t = c.in-Ok.table in
    let slots : minimum_of t ≡ 32 * bucket_count t = ap (λ s. s.asked + s.reserved) c.in-Ok.ensures.settings ∙ (let z : 32 * bucket_count t + 0 ≡ 32 * bucket_count t = omega arith in z) in
    let within : 32 * bucket_count t ≤ c.slots_for-maximum.result = let e = size.enough in omega (arith, c.bucket_count.ensures.most, c.bucket_count.ensures.count, c.max.ensures) in
    state-empty g.K.PartialEq.eq _ t c.slots_for-maximum.result c.in-Ok.ensures.listed c.in-Ok.ensures.entries size.power size.least size.most within (omega arith)
