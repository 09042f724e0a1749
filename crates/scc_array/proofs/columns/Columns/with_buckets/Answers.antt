use Rattle.std.proofs.Common.{◌≡◌, replicate}
use Rattle.scc_array.proofs.Empty.{windows-empty, columns-empty, blank-cloned}
use Rattle.scc_array.proofs.columns.Columns.with_buckets.Goals as goal

pub invariant_of-result : goal.invariant_of-result
invariant_of-result g c =
    let rows : c.in-Ok.tags.items ≡ replicate c.args.count (replicate 32 0) = c.in-Ok.ensures.items_if_clones_equal (λ y z. blank-cloned y z.long (λ i h. z.at i 0 0 h)) in
    rw (rows, c.in_ok-slots.ensures) (columns-empty c.args.count c.requires)

pub returns-in-Ok : goal.returns-in-Ok
returns-in-Ok g c =
    let rows : c.in-Ok.tags.items ≡ replicate c.args.count (replicate 32 0) = c.in-Ok.ensures.items_if_clones_equal (λ y z. blank-cloned y z.long (λ i h. z.at i 0 0 h)) in
    rw (rows, c.in_ok-slots.ensures) (windows-empty c.args.count)
