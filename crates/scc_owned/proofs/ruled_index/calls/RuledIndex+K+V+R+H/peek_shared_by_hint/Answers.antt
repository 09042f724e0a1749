use Rattle.std.proofs.Common.{◌≡◌, ◌∙◌, None, Some, rules, sym}
use Rattle.scc_buckets.proofs.Finds.{lookup-find}
use Rattle.scc_common.specs.Contents.{entries}
use Rattle.scc_common.specs.Pairs.{find}
use Rattle.scc_owned.proofs.RuledPairs.{found-key, under}
use Rattle.scc_owned.proofs.ruled_index.calls.RuledIndex+K+V+R+H.peek_shared_by_hint.Goals as goal

pub returns-in-Ok-clause-kept : goal.returns-in-Ok-clause-kept
returns-in-Ok-clause-kept g c =
    let k = c.args.k.now in
    let equal = found-key g.K.PartialEq.eq (entries c.self.inside.table) k c.in-Some.entry.now (sym c.in-Some.ensures) in
    let kept = c.clone_owner.ensures.kept in
    rw c.in-Ok.ensures.same (equal, kept, under g.K.PartialEq.eq g.R.Rule.holds g.met.R.Rule.alike g.met.K.Eq.laws.symm k _ _ equal kept)

pub returns-in-Ok-clause-version : goal.returns-in-Ok-clause-version
returns-in-Ok-clause-version g c =
    let es = entries c.self.inside.table in
    let here : find g.K.PartialEq.eq es c.args.k.now ≡ Some c.in-Some.entry.now = lookup-find (g.K.PartialEq.eq c.args.k.now) es ∙ sym c.in-Some.ensures in
    rw (← c.self.view_is, c.in-Ok.ensures.same) here

pub returns-in-Err-clause-refused : goal.returns-in-Err-clause-refused
returns-in-Err-clause-refused g c =
    let es = entries c.self.inside.table in
    let here : find g.K.PartialEq.eq es c.args.k.now ≡ Some c.in-Some.entry.now = lookup-find (g.K.PartialEq.eq c.args.k.now) es ∙ sym c.in-Some.ensures in
    rw (← c.self.view_is, here) (search rules)

pub returns-in_default-clause-version : goal.returns-in_default-clause-version
returns-in_default-clause-version g c =
    let missed = rw c.in_default.is at c.find_by_hint.ensures in
    let none : find g.K.PartialEq.eq (entries c.self.inside.table) c.args.k.now ≡ None = lookup-find (g.K.PartialEq.eq c.args.k.now) (entries c.self.inside.table) ∙ sym missed in
    rw (← c.self.view_is) none
