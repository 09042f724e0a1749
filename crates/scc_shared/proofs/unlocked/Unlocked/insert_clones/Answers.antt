use Rattle.std.proofs.Common.{of_calls}
use Rattle.std.specs.Prelude.{IsTrue}
use Rattle.scc_shared.specs.Copying.{InsertsMissing}
use Rattle.scc_shared.proofs.unlocked.Unlocked.insert_clones.Goals as goal

pub returns-clause-made : goal.returns-clause-made
returns-clause-made g c = λ yes.
    let key = c.in-Ok.key in
    let value = c.in-Ok-clone.value in
    let done = c.change.ensures.change in
    let ran = done.3 in
    let met = ran.met in
    let inserts : IsTrue c.change.result → InsertsMissing g.E.Stored.lookups g.E.Key.PartialEq.eq ran.shown.now key value ran.left.now = search of_calls in
    (key, value, c.in-Ok.ensures.cases, c.in-Ok-clone.ensures.cases, (done.0, done.1, rw (← c.route-part.ensures.value) done.2, rw (← ran.shows, ← ran.leaves) (inserts yes), rw (← c.route-part.ensures.value) done.4))
