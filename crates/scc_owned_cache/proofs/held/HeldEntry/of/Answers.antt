use Rattle.std.proofs.Common.{◌∙◌}
use Rattle.scc_owned_cache.proofs.Entries.{inner-made, same-guard, refreshed-under}
use Rattle.scc_owned_cache.proofs.held.HeldEntry.of.Goals as goal

pub refresh-requires : goal.refresh-requires
refresh-requires g c = rw c.lend.ensures.value (rw c.look.ensures at c.hash_of-hash.ensures)

pub at-requires : goal.at-requires
at-requires g c = rw (g.G.Guard.inner_law c.args.guard c.refresh.new.self) c.in-Some.ensures.step.within

pub of_key-requires : goal.of_key-requires
of_key-requires g c =
    let step = c.in-None.ensures.step in
    let is = g.G.Guard.inner_law c.args.guard c.refresh.new.self ∙ step.1 ∙ c.lend.ensures.value in
    record { lacking = rw is (rw c.lend.ensures.value at step.0); hashed = rw is (rw c.look.ensures at c.hash_of-hash.ensures) }

pub returns-in-Some-clause-same_guard : goal.returns-in-Some-clause-same_guard
returns-in-Some-clause-same_guard g c = same-guard g.G.Guard c.at.ensures.guard

pub returns-in-Some-clause-entry : goal.returns-in-Some-clause-entry
returns-in-Some-clause-entry g c = refreshed-under g.K.PartialEq.eq c.args.guard c.lend.result.now c.refresh.new.self c.args.k c.at.result _ c.lend.ensures.value c.at.ensures.guard c.at.ensures.place c.in-Some.ensures.step c.in-Some.ensures.relocates

pub returns-in-Some-clause-state : goal.returns-in-Some-clause-state
returns-in-Some-clause-state g c = rw (inner-made g.G.Guard c.at.ensures.guard) c.refresh.ensures.state

pub returns-in-None-clause-same_guard : goal.returns-in-None-clause-same_guard
returns-in-None-clause-same_guard g c = same-guard g.G.Guard c.of_key.ensures.guard

pub returns-in-None-clause-entry : goal.returns-in-None-clause-entry
returns-in-None-clause-entry g c =
    let step = c.in-None.ensures.step in
    let lacking = rw c.lend.ensures.value at step.0 in
    record { contents = inner-made g.G.Guard c.of_key.ensures.guard ∙ step.1 ∙ c.lend.ensures.value; absent = lacking.absent; key = c.of_key.ensures.key }

pub returns-in-None-clause-state : goal.returns-in-None-clause-state
returns-in-None-clause-state g c = rw (inner-made g.G.Guard c.of_key.ensures.guard) c.refresh.ensures.state
