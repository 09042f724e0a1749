use Rattle.scc_owned_cache.proofs.Entries.{inner-made, same-guard, refreshed-under}
use Rattle.scc_owned_cache.proofs.held.HeldOccupied.of.Goals as goal

pub refresh-requires : goal.refresh-requires
refresh-requires g c = rw c.lend.ensures.value (rw c.look.ensures at c.hash_of-hash.ensures)

pub at-requires : goal.at-requires
at-requires g c = rw (g.G.Guard.inner_law c.args.guard c.refresh.new.self) c.in-Some.ensures.step.within

pub returns-in-Some-clause-same_guard : goal.returns-in-Some-clause-same_guard
returns-in-Some-clause-same_guard g c = same-guard g.G.Guard c.at.ensures.guard

pub returns-in-Some-clause-entry : goal.returns-in-Some-clause-entry
returns-in-Some-clause-entry g c = refreshed-under g.K.PartialEq.eq c.args.guard c.lend.result.now c.refresh.new.self c.args.k.now c.at.result _ c.lend.ensures.value c.at.ensures.guard c.at.ensures.place c.in-Some.ensures.step c.in-Some.ensures.relocates

pub returns-in-Some-clause-state : goal.returns-in-Some-clause-state
returns-in-Some-clause-state g c = rw (inner-made g.G.Guard c.at.ensures.guard) c.refresh.ensures.state

pub returns-in-None-clause-missing : goal.returns-in-None-clause-missing
returns-in-None-clause-missing g c = let lacking = rw c.lend.ensures.value at c.in-None.ensures.step.0 in lacking.absent
