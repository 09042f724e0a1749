use Rattle.std.proofs.Common.{◌+◌, ◌≤◌, length, refl, arith}
use Rattle.std.specs.Vec.{vec_capacity}
use Rattle.scc_array.proofs.Shelves.{list-read}
use Rattle.scc_array.proofs.lists.reserve_in.Goals as goal

pub returns-in-Ok : goal.returns-in-Ok
returns-in-Ok g c =
    let u = c.index_mut-list.result.now in
    let entry_count = list-read c.args.lists.now.items c.args.bucket u c.requires c.index_mut-list.ensures.value in
    let room : length u.items + c.args.additional ≤ vec_capacity c.reserve.new.self = omega (arith, u.ok.0, c.reserve.ensures.len, c.in-Ok.ensures.ok) in
    (u, c.reserve.new.self, entry_count, c.reserve.ensures.items, c.reserve.ensures.capacity, room, refl)

pub returns-in-Err : goal.returns-in-Err
returns-in-Err g c =
    let u = c.index_mut-list.result.now in
    let entry_count = list-read c.args.lists.now.items c.args.bucket u c.requires c.index_mut-list.ensures.value in
    (u, c.reserve.new.self, entry_count, c.reserve.ensures.items, c.reserve.ensures.capacity, refl)
