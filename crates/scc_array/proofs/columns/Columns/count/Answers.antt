use Rattle.std.proofs.Common.{◌≡◌, ap, ◌∙◌, sym, subst, arith, [], get_or}
use Rattle.std.specs.Int.{bit_at}
use Rattle.scc_array.proofs.Bucket.{packed-there, row-wide, row-within, row-read}
use Rattle.scc_array.proofs.Counting.{same_mask, full-count, lowest-count}
use Rattle.scc_array.proofs.columns.Columns.count.Goals as goal

pub index-requires : goal.index-requires
index-requires g c = let l = row-within c.self.inside.tags.items c.self.inside.slots c.self.invariant c.args.self.now c.self.view_is c.args.bucket c.requires in omega (arith, c.self.inside.tags.ok.0)

pub returns-then-free-eq0-clause-count : goal.returns-then-free-eq0-clause-count
returns-then-free-eq0-clause-count g c =
    let rows = c.self.inside.tags.items in let cells = c.self.inside.slots in let ws = c.args.self.now in let b = c.args.bucket in
    let row : get_or rows b [] ≡ c.index.result.now = row-read rows b c.index.result.now (row-within rows cells c.self.invariant ws c.self.view_is b c.requires) c.index.ensures in
    let mask : same_mask 0 (get_or rows b []) ≡ c.tag_mask-free.result = ap (same_mask 0) row ∙ sym c.tag_mask-free.ensures in
    full-count rows cells b _ _ (packed-there rows cells c.self.invariant ws c.self.view_is b c.requires) (row-wide rows cells c.self.invariant ws c.self.view_is b c.requires) (mask ∙ c.if-free-eq0.true)

pub returns-else-free-eq0-clause-count : goal.returns-else-free-eq0-clause-count
returns-else-free-eq0-clause-count g c =
    let rows = c.self.inside.tags.items in let cells = c.self.inside.slots in let ws = c.args.self.now in let b = c.args.bucket in
    let row : get_or rows b [] ≡ c.index.result.now = row-read rows b c.index.result.now (row-within rows cells c.self.invariant ws c.self.view_is b c.requires) c.index.ensures in
    let mask : same_mask 0 (get_or rows b []) ≡ c.tag_mask-free.result = ap (same_mask 0) row ∙ sym c.tag_mask-free.ensures in
    lowest-count rows cells b _ _ (packed-there rows cells c.self.invariant ws c.self.view_is b c.requires) (row-wide rows cells c.self.invariant ws c.self.view_is b c.requires) c.lowest_bit.result
    (subst (λ m. bit_at m c.lowest_bit.result ≡ 1) (sym mask) c.lowest_bit.ensures.set)
    (λ j e. c.lowest_bit.ensures.first j (subst (λ m. bit_at m j ≡ 1) mask e))
