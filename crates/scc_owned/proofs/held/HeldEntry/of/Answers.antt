use Rattle.std.proofs.Common.{refl, ◌∙◌}
use Rattle.scc_common.specs.Contents.{entries}
use Rattle.scc_owned.proofs.HeldEntries.{occupied-here}
use Rattle.scc_owned.proofs.held.HeldEntry.of.Goals as goal

pub read_at-requires-clause-within : goal.read_at-requires-clause-within
read_at-requires-clause-within g c = let found = rw c.look.ensures at c.in-Ok.ensures.found in found.within

pub returns-in-Ok-clause-entry : goal.returns-in-Ok-clause-entry
returns-in-Ok-clause-entry g c = occupied-here g.met.E.Stored.lawful g.met.E.Key.Eq.laws c.args.k c.read_at.result _ _ c.read_at.ensures.guard c.read_at.ensures.place (rw c.look.ensures at c.search_by_hint.ensures.unique) (rw c.look.ensures at c.in-Ok.ensures.found)

pub returns-in-Err-clause-entry : goal.returns-in-Err-clause-entry
returns-in-Err-clause-entry g c =
    let none = g.met.E.Stored.lawful.missing (g.E.Key.PartialEq.eq c.args.k) (entries (g.G.Guard.inner c.args.guard)) (rw c.look.ensures at c.in-Err.ensures.missed.1) in
    record { contents = refl; found = rw c.of_key.ensures.guard none; key = c.of_key.ensures.key }

pub returns-in-Ok-clause-allowed : goal.returns-in-Ok-clause-allowed
returns-in-Ok-clause-allowed g c =
    let e = occupied-here g.met.E.Stored.lawful g.met.E.Key.Eq.laws c.args.k c.read_at.result _ _ c.read_at.ensures.guard c.read_at.ensures.place (rw c.look.ensures at c.search_by_hint.ensures.unique) (rw c.look.ensures at c.in-Ok.ensures.found) in
    (c.read_at.ensures.allowed, g.met.E.Stored.alike _ c.args.k _ (g.met.E.Key.Eq.laws.symm _ c.args.k ∙ e.equal) c.read_at.ensures.allowed)
