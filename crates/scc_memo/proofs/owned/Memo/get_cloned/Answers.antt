use Rattle.scc_memo.proofs.owned.Memo.get_cloned.Goals as goal

pub returns-clause-step : goal.returns-clause-step
returns-clause-step g c = rw (← c.self.view_is) c.recall_cloned.ensures.step
