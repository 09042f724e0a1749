use Rattle.scc_array.proofs.ListPushing.{opened-within}
use Rattle.scc_array.proofs.Reserving.{reserved-value, reserved-more, reserved-room}
use Rattle.std.proofs.Common.{◌+◌, ◌/◌, ap, ◌∙◌}
use Rattle.scc_array.proofs.Crowded.{flagged-more, flagged-opened, opened-array, reserved-both}
use Rattle.scc_array.proofs.Shelves.{opened-view, window-within}
use Rattle.scc_array.proofs.Array.reserve_overflow.Goals as goal

pub reserve_in-requires : goal.reserve_in-requires
reserve_in-requires g c =
    let ws = c.self.inside.columns in let os = c.self.inside.overflow.items in let bs = c.args.self.now in let b = c.args.bucket in
    let view = c.self.view_is in
    opened-within ws os c.make_lists.new.lists.items bs view c.self.invariant.0 _ c.len-count.ensures.count c.in-Ok-make_lists.ensures.ok b c.requires

pub returns-clause-value : goal.returns-clause-value
returns-clause-value g c =
    let ws = c.self.inside.columns in let os = c.self.inside.overflow.items in let bs = c.args.self.now in let b = c.args.bucket in
    let view = c.self.view_is in
    let there = opened-within ws os c.make_lists.new.lists.items bs view c.self.invariant.0 _ c.len-count.ensures.count c.in-Ok-make_lists.ensures.ok b c.requires in
    let seen = opened-view ws os c.make_lists.new.lists.items bs view c.self.invariant.0 _ c.len-count.ensures.count c.in-Ok-make_lists.ensures.ok in
    reserved-value ws c.make_lists.new.lists.items bs seen b c.requires there c.args.additional c.reserve_in.new.lists.items c.reserve_in.result c.reserve_in.ensures

pub returns-clause-more : goal.returns-clause-more
returns-clause-more g c =
    let ws = c.self.inside.columns in let os = c.self.inside.overflow.items in let bs = c.args.self.now in let b = c.args.bucket in
    let view = c.self.view_is in
    let there = opened-within ws os c.make_lists.new.lists.items bs view c.self.invariant.0 _ c.len-count.ensures.count c.in-Ok-make_lists.ensures.ok b c.requires in
    let seen = opened-view ws os c.make_lists.new.lists.items bs view c.self.invariant.0 _ c.len-count.ensures.count c.in-Ok-make_lists.ensures.ok in
    reserved-more ws c.make_lists.new.lists.items bs seen b c.requires there c.args.additional c.reserve_in.new.lists.items c.reserve_in.result c.reserve_in.ensures

pub returns-clause-room : goal.returns-clause-room
returns-clause-room g c =
    let ws = c.self.inside.columns in let os = c.self.inside.overflow.items in let bs = c.args.self.now in let b = c.args.bucket in
    let view = c.self.view_is in
    let there = opened-within ws os c.make_lists.new.lists.items bs view c.self.invariant.0 _ c.len-count.ensures.count c.in-Ok-make_lists.ensures.ok b c.requires in
    let seen = opened-view ws os c.make_lists.new.lists.items bs view c.self.invariant.0 _ c.len-count.ensures.count c.in-Ok-make_lists.ensures.ok in
    reserved-room ws c.make_lists.new.lists.items bs seen b c.requires there c.args.additional c.reserve_in.new.lists.items c.reserve_in.result c.reserve_in.ensures

pub raise-requires-clause-bucket : goal.raise-requires-clause-bucket
raise-requires-clause-bucket g c = rw c.len-count.ensures.count (window-within c.self.inside.columns c.self.inside.overflow.items c.args.self.now c.self.view_is c.args.bucket c.requires)

pub raise-requires-clause-count : goal.raise-requires-clause-count
raise-requires-clause-count g c = rw c.len-count.ensures.count c.self.invariant.1.flags

pub invariant_of-self-2 : goal.invariant_of-self-2
invariant_of-self-2 g c =
    let ws = c.self.inside.columns in let os = c.self.inside.overflow.items in let b = c.args.bucket in
    let ds = c.make_lists.new.lists.items in let gs = c.raise.new.flags.items in
    let raised = flagged-more ws os c.self.inside.crowded.items c.self.invariant.1 gs (c.in-Ok.ensures.count ∙ ap (λ n. n / 16 + 1) c.len-count.ensures.count) c.in-Ok.ensures.kept in
    let opened = flagged-opened ws os gs raised ds _ c.in-Ok-make_lists.ensures.ok in
    let listed = opened-array ws os ds _ c.self.invariant.0 c.len-count.ensures.count c.in-Ok-make_lists.ensures.ok in
    reserved-both ws ds gs b c.args.additional c.reserve_in.result c.reserve_in.new.lists.items listed opened c.in-Ok.ensures.up c.reserve_in.ensures
