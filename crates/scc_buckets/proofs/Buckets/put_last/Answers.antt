use Rattle.std.proofs.Common.{◌∙◌, Bool, ◌≤◌, ◌++◌, [], ◌∷◌, rules, arith, ap, length, length-append, subst}
use Rattle.std.proofs.lemmas.List.{length-drop}
use Rattle.std.specs.List.{remove, position}
use Rattle.scc_buckets.specs.Bounded.{HasList}
use Rattle.scc_common.specs.Contents.{entries, list_of}
use Rattle.scc_buckets.proofs.Bounds.{absent-removed, first-is, has-list-of, has-list-then}
use Rattle.scc_buckets.proofs.Buckets.put_last.Goals as goal

pub push_last-requires-2-clause-new : goal.push_last-requires-2-clause-new
push_last-requires-2-clause-new g c =
    let p : g.row.E.Denot → Bool = λ e. g.E.Key.PartialEq.eq (g.E.Keyed.key_of c.args.entry) (g.E.Keyed.key_of e) in
    record {
      within = search rules;
      routed = search rules;
      hashed = search rules;
      absent = ap (position p) c.take_in-first.ensures.others.exact ∙ absent-removed p (entries c.args.self.now) _ c.requires.new.absent;
    }

pub push_last-requires-2-clause-short : goal.push_last-requires-2-clause-short
push_last-requires-2-clause-short g c = c.take_in-first.ensures.short c.requires.bounded

pub returns-clause-step : goal.returns-clause-step
returns-clause-step g c =
    let taken = c.take_in-first.ensures.lists c.requires.bounded in
    let full : 32 ≤ length (list_of c.args.self.now c.args.bucket) = search rules in
    let here = has-list-of c.args.self.now c.take_in-first.new.self c.args.bucket _ taken c.requires.new.within in (
      full,
      (
        remove (list_of c.args.self.now c.args.bucket) 0,
        first-is _ _ c.take_in-first.ensures.listed,
        subst (λ es. HasList c.args.self.now c.args.bucket (es ++ c.args.entry ∷ []) c.push_last-2.new.self) here (has-list-then c.args.self.now c.take_in-first.new.self c.args.bucket _ taken c.push_last-2.new.self _ c.push_last-2.ensures.list),
      ),
    )

pub returns-then-count-lt32-clause-slot : goal.returns-then-count-lt32-clause-slot
returns-then-count-lt32-clause-slot g c =
    let old = c.args.self.now in
    let i = c.args.bucket in
    let there = has-list-of old c.push_last.new.self i _ c.push_last.ensures.list c.requires.new.within in
    omega (arith, c.list_len-count.ensures.len, ap length there, length-append (list_of old i) (c.args.entry ∷ []))

pub returns-clause-slot : goal.returns-clause-slot
returns-clause-slot g c =
    let old = c.args.self.now in
    let i = c.args.bucket in
    let l = list_of old i in
    let taken = c.take_in-first.ensures.lists c.requires.bounded in
    let whole = has-list-then old c.take_in-first.new.self i _ taken c.push_last-2.new.self _ c.push_last-2.ensures.list in
    let here = has-list-of old c.take_in-first.new.self i _ taken c.requires.new.within in
    let there = has-list-of old c.push_last-2.new.self i _ whole c.requires.new.within in
    let full : 32 ≤ length l = search rules in
    let short = c.take_in-first.ensures.short c.requires.bounded in
    omega (arith, ap length here, ap length there, length-append (list_of c.take_in-first.new.self i) (c.args.entry ∷ []), length-append (remove l 0) (c.args.entry ∷ []), length-drop 1 l, full, short)
