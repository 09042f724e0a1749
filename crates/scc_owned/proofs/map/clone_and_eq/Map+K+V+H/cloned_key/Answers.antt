use Rattle.std.proofs.Common.{◌≡◌, Some, None, sym, ◌∙◌}
use Rattle.scc_common.specs.Contents.{entries}
use Rattle.scc_common.specs.Pairs.{find}
use Rattle.scc_buckets.proofs.Finds.{lookup-find}
use Rattle.scc_table.proofs.arrays.SameParts.{any-err}
use Rattle.scc_owned.proofs.map.clone_and_eq.Map+K+V+H.cloned_key.Goals as goal

pub returns-in_ok-clone-in-Some-clause-ok : goal.returns-in_ok-clone-in-Some-clause-ok
returns-in_ok-clone-in-Some-clause-ok g c =
    let here : find g.K.PartialEq.eq (entries c.self.inside.table) c.args.k.now ≡ Some c.in-Some.pair.now = lookup-find (g.K.PartialEq.eq c.args.k.now) (entries c.self.inside.table) ∙ sym c.in-Some.ensures in
    rw (← c.self.view_is, here) c.in_ok-clone-in-Some.ensures.cases

pub returns-in-None-clause-ok : goal.returns-in-None-clause-ok
returns-in-None-clause-ok g c =
    let none : find g.K.PartialEq.eq (entries c.self.inside.table) c.args.k.now ≡ None = lookup-find (g.K.PartialEq.eq c.args.k.now) (entries c.self.inside.table) ∙ sym c.in-None.ensures in
    rw (← c.self.view_is, none) tt

pub returns-in_err-clone-in-Some-clause-err : goal.returns-in_err-clone-in-Some-clause-err
returns-in_err-clone-in-Some-clause-err g c =
    let here : find g.K.PartialEq.eq (entries c.self.inside.table) c.args.k.now ≡ Some c.in-Some.pair.now = lookup-find (g.K.PartialEq.eq c.args.k.now) (entries c.self.inside.table) ∙ sym c.in-Some.ensures in
    any-err c.from_residual.result (c.in-Some.pair.now, rw (← c.self.view_is) here, c.in_err-clone-in-Some.ensures.cases)
