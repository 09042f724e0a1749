use Rattle.std.proofs.Common.{◌+◌, ◌/◌, Bool, List, false, get_or, ap, ◌∙◌, arith}
use Rattle.scc_array.proofs.Crowded.{flagged-more, flagged-opened, no-room, opened-array, pushed-both}
use Rattle.scc_array.proofs.Shelves.{window-within}
use Rattle.scc_array.proofs.ListPushing.{opened-within, list-pushed-ok, list-pushed-err, list-pushed-refused, bare-refused}
use Rattle.scc_array.proofs.Array.push_list.Goals as goal

pub push_to-requires : goal.push_to-requires
push_to-requires g c =
    let ws = c.self.inside.columns in let os = c.self.inside.overflow.items in let bs = c.args.self.now in let b = c.args.bucket in
    let view = c.self.view_is in
    opened-within ws os c.make_lists.new.lists.items bs view c.self.invariant.0 _ c.len-count.ensures.count c.in-Ok-make_lists.ensures.ok b c.requires.bucket

pub returns-clause-ok : goal.returns-clause-ok
returns-clause-ok g c =
    let ws = c.self.inside.columns in let os = c.self.inside.overflow.items in let bs = c.args.self.now in let b = c.args.bucket in
    let view = c.self.view_is in
    list-pushed-ok ws os c.make_lists.new.lists.items bs view c.self.invariant.0 _ c.len-count.ensures.count c.in-Ok-make_lists.ensures.ok b c.requires.bucket c.args.entry c.push_to.new.lists.items c.push_to.result c.push_to.ensures

pub returns-clause-err : goal.returns-clause-err
returns-clause-err g c =
    let ws = c.self.inside.columns in let os = c.self.inside.overflow.items in let bs = c.args.self.now in let b = c.args.bucket in
    let view = c.self.view_is in
    list-pushed-err ws os c.make_lists.new.lists.items bs view c.self.invariant.0 _ c.len-count.ensures.count c.in-Ok-make_lists.ensures.ok b c.requires.bucket c.args.entry c.push_to.new.lists.items c.push_to.result c.push_to.ensures

pub returns-clause-refused : goal.returns-clause-refused
returns-clause-refused g c =
    let ws = c.self.inside.columns in let os = c.self.inside.overflow.items in let bs = c.args.self.now in let b = c.args.bucket in
    let view = c.self.view_is in
    list-pushed-refused ws os c.make_lists.new.lists.items bs view c.self.invariant.0 _ c.len-count.ensures.count c.in-Ok-make_lists.ensures.ok b c.requires.bucket c.args.entry c.push_to.new.lists.items c.push_to.result c.push_to.ensures

pub raise-requires-clause-bucket : goal.raise-requires-clause-bucket
raise-requires-clause-bucket g c = rw c.len-count.ensures.count (window-within c.self.inside.columns c.self.inside.overflow.items c.args.self.now c.self.view_is c.args.bucket c.requires.bucket)

pub raise-requires-clause-count : goal.raise-requires-clause-count
raise-requires-clause-count g c = rw c.len-count.ensures.count c.self.invariant.1.flags

pub returns-in-Err-clause-refused : goal.returns-in-Err-clause-refused
returns-in-Err-clause-refused g c =
    let ws = c.self.inside.columns in let os = c.self.inside.overflow.items in let bs = c.args.self.now in let b = c.args.bucket in
    let none = no-room ws os c.self.inside.crowded.items c.self.invariant.1 bs c.self.view_is b c.requires.bucket (ap (λ (l : List Bool). get_or l (b / 16) false) c.in-Err.ensures.none) in
    omega (arith, none)

pub returns-in-Err-make_lists-clause-refused : goal.returns-in-Err-make_lists-clause-refused
returns-in-Err-make_lists-clause-refused g c =
    let ws = c.self.inside.columns in let os = c.self.inside.overflow.items in let bs = c.args.self.now in let b = c.args.bucket in
    let view = c.self.view_is in
    bare-refused ws os bs view b c.requires.bucket c.in-Err-make_lists.ensures.none

pub invariant_of-self-2 : goal.invariant_of-self-2
invariant_of-self-2 g c =
    let ws = c.self.inside.columns in let os = c.self.inside.overflow.items in let b = c.args.bucket in
    let ds = c.make_lists.new.lists.items in let gs = c.raise.new.flags.items in
    let raised = flagged-more ws os c.self.inside.crowded.items c.self.invariant.1 gs (c.in-Ok.ensures.count ∙ ap (λ n. n / 16 + 1) c.len-count.ensures.count) c.in-Ok.ensures.kept in
    let opened = flagged-opened ws os gs raised ds _ c.in-Ok-make_lists.ensures.ok in
    let listed = opened-array ws os ds _ c.self.invariant.0 c.len-count.ensures.count c.in-Ok-make_lists.ensures.ok in
    pushed-both ws ds gs b c.args.entry c.push_to.result c.push_to.new.lists.items listed opened c.in-Ok.ensures.up c.push_to.ensures
