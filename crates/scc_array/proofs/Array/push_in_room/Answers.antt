use Rattle.std.proofs.Common.{length, refl, Ok, arith}
use Rattle.scc_array.proofs.Crowded.{pushed-both, room-flag}
use Rattle.scc_array.proofs.ListPushing.{list-pushed-ok}
use Rattle.scc_array.proofs.Reserving.{has-room, pushed-more, list-room}
use Rattle.scc_array.specs.Lists.{were_there}
use Rattle.scc_array.proofs.Array.push_in_room.Goals as goal

pub push_to-requires : goal.push_to-requires
push_to-requires g c =
    let ws = c.self.inside.columns in let os = c.self.inside.overflow.items in let bs = c.args.self.now in let b = c.args.bucket in
    let view = c.self.view_is in
    list-room ws os bs view b c.requires.bucket c.self.invariant.0 c.requires.room

pub unreachable-requires : goal.unreachable-requires
unreachable-requires g c =
    let ws = c.self.inside.columns in let os = c.self.inside.overflow.items in let bs = c.args.self.now in let b = c.args.bucket in
    let view = c.self.view_is in
    let there = list-room ws os bs view b c.requires.bucket c.self.invariant.0 c.requires.room in
    has-room ws os bs view b c.requires.bucket there c.args.entry c.push_to.new.lists.items c.in-Err._back c.in-Err.ensures c.requires.room

pub returns-clause-value : goal.returns-clause-value
returns-clause-value g c =
    let ws = c.self.inside.columns in let os = c.self.inside.overflow.items in let bs = c.args.self.now in let b = c.args.bucket in
    let view = c.self.view_is in
    let there = list-room ws os bs view b c.requires.bucket c.self.invariant.0 c.requires.room in
    (list-pushed-ok ws os os bs view c.self.invariant.0 (length ws) refl (were_there (omega arith) refl) b c.requires.bucket c.args.entry c.push_to.new.lists.items (Ok c.in-Ok._place) c.in-Ok.ensures).1

pub returns-clause-room : goal.returns-clause-room
returns-clause-room g c =
    let ws = c.self.inside.columns in let os = c.self.inside.overflow.items in let bs = c.args.self.now in let b = c.args.bucket in
    let view = c.self.view_is in
    let there = list-room ws os bs view b c.requires.bucket c.self.invariant.0 c.requires.room in
    pushed-more ws os bs view b c.requires.bucket there c.args.entry c.push_to.new.lists.items c.in-Ok._place c.in-Ok.ensures

pub invariant_of-self : goal.invariant_of-self
invariant_of-self g c =
    let ws = c.self.inside.columns in let os = c.self.inside.overflow.items in let bs = c.args.self.now in let b = c.args.bucket in
    let fs = c.self.inside.crowded.items in
    let up = room-flag ws os fs c.self.invariant.1 bs c.self.view_is b c.requires.bucket (let m = c.requires.room in omega arith) in
    pushed-both ws os fs b c.args.entry (Ok c.in-Ok._place) c.push_to.new.lists.items c.self.invariant.0 c.self.invariant.1 up c.in-Ok.ensures
