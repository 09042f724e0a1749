use Rattle.std.proofs.Common.{◌≤◌, ◌∙◌, List, length, sym, ap, subst, arith}
use Rattle.scc_array.specs.Shelf.{Shelf, shelf_entries}
use Rattle.scc_array.specs.Shelves.{shelf_of}
use Rattle.scc_array.specs.Takes.{IsTakenOut}
use Rattle.scc_array.proofs.ListsLemmas.{get-below}
use Rattle.scc_common.specs.Routing.{bucket_number}
use Rattle.scc_draining.proofs.draining.Draining.take.Goals as goal

pub overflow_sub-self : goal.overflow_sub-self
overflow_sub-self g c =
    let o = c.args.self.now in
    let j = c.bucket-bucket.result in
    let passes = λ (e : g.row.E.Denot). g.E.Key.PartialEq.eq c.args.key.now (g.E.Keyed.key_of e) in
    let at = c.bucket-bucket.ensures.value ∙ ap (λ n. bucket_number c.args.router.now.skipped n c.args.hash) c.len.ensures.count in
    let few = subst (λ k. length (shelf_entries (shelf_of o.array k)) ≤ o.left) (sym at) c.requires.left in
    let took = c.in-Some.ensures in
    let out : IsTakenOut passes o.array j c.take_in_slots.new.self took.0 c.in-Some.entry = took.2 in
    let l = get-below (shelf_entries (shelf_of o.array j)) took.0 c.in-Some.entry out.entry in
    omega (arith, few, l)

pub overflow_sub-self-in-Some-take_in_overflow : goal.overflow_sub-self-in-Some-take_in_overflow
overflow_sub-self-in-Some-take_in_overflow g c =
    let o = c.args.self.now in
    let j = c.bucket-bucket.result in
    let passes = λ (e : g.row.E.Denot). g.E.Key.PartialEq.eq c.args.key.now (g.E.Keyed.key_of e) in
    let at = c.bucket-bucket.ensures.value ∙ ap (λ n. bucket_number c.args.router.now.skipped n c.args.hash) c.len.ensures.count in
    let few = subst (λ k. length (shelf_entries (shelf_of o.array k)) ≤ o.left) (sym at) c.requires.left in
    let took = c.in-Some-take_in_overflow.ensures in
    let out : IsTakenOut passes o.array j c.take_in_overflow.new.self took.0 c.in-Some-take_in_overflow.entry =
    subst (λ (z : List (Shelf g.row.E.Denot)). IsTakenOut passes z j c.take_in_overflow.new.self took.0 c.in-Some-take_in_overflow.entry) c.in-None.ensures.1 took.2 in
    let l = get-below (shelf_entries (shelf_of o.array j)) took.0 c.in-Some-take_in_overflow.entry out.entry in
    omega (arith, few, l)
