use Rattle.std.proofs.Common.{refl, sym, ap, ◌∙◌}
use Rattle.scc_table.specs.Places.{index_of}
use Rattle.scc_owned.proofs.HeldEntries.{same-name}
use Rattle.scc_owned.proofs.EntrySteps.{stands-first}
use Rattle.scc_owned.proofs.Owned.begin_sync.Goals as goal

pub returns-in-Some : goal.returns-in-Some
returns-in-Some g c = ((same-name c.at.ensures.guard, λ w. refl, tt), record { same_container = ap (λ x. x.ghost_name) c.at.ensures.guard; first = stands-first c.at.result _ _ c.at.ensures.guard c.at.ensures.place (ap (λ m. index_of m c.in-Some.place) (sym c.self.view_is) ∙ c.in-Some.ensures.place.index); empty = tt; kept = tt })

pub returns-in-None : goal.returns-in-None
returns-in-None g c = ((refl, λ _. tt, refl), record { same_container = tt; first = tt; empty = rw (← c.self.view_is) c.in-None.ensures.place; kept = tt })
