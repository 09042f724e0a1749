use Rattle.std.proofs.Common.{◌≤◌, ◌+◌, length, refl, ap, ◌∙◌, arith}
use Rattle.std.specs.Vec.{vec_capacity}
use Rattle.scc_array.proofs.Shelves.{list-read}
use Rattle.scc_array.proofs.lists.push_to.Goals as goal

pub returns-in-Ok : goal.returns-in-Ok
returns-in-Ok g c =
    let u = c.index_mut-list.result.now in
    let entry_count = list-read c.args.lists.now.items c.args.bucket u c.requires c.index_mut-list.ensures.value in
    (u, c.push.new.self, entry_count, ap (λ n. 32 + n) (c.len-slot.ensures ∙ u.ok.0), c.in-Ok.ensures.items, c.push.ensures.capacity, refl)

pub returns-in-Err : goal.returns-in-Err
returns-in-Err g c =
    let u = c.index_mut-list.result.now in
    let entry_count = list-read c.args.lists.now.items c.args.bucket u c.requires c.index_mut-list.ensures.value in
    let full : vec_capacity u ≤ length u.items = let m = u.ok.0 in let f = c.in-Err.ensures.full in omega arith in
    (c.in-Err.ensures.value_returned, (u, c.push.new.self, entry_count, c.in-Err.ensures.items, refl, full))
