use Rattle.scc_recorded.proofs.Adding.{may-refuse}
use Rattle.scc_recorded.proofs.LockedStripe.call_locked.Goals as goal

pub returns-clause-refused : goal.returns-clause-refused
returns-clause-refused g c e = may-refuse g.C.Calls.may_refuse g.C.Calls.size g.C.Calls.resizes g.C.Calls.answer g.C.Reply.Clone.is_infallible _ _ _ (c.call_counted.ensures.refused e)
