use Rattle.scc_shared.proofs.HashContainer.get_or_insert_with.Goals as goal

pub returns-clause-step : goal.returns-clause-step
returns-clause-step g c = (_, _, c.get_or_insert_with.ensures.step)
