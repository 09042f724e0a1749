use Rattle.scc_owned_cache.proofs.Kept.{keeps-tested, tested-on}
use Rattle.scc_shared_cache.proofs.SharedCache.remove_if_sync.Goals as goal

pub remove_if_sync-requires-clause-callable : goal.remove_if_sync-requires-clause-callable
remove_if_sync-requires-clause-callable g c = λ p here kept. tested-on g.K.PartialEq.eq g.R.Rule.holds g.met.R.Rule.alike g.met.K.Eq.laws.symm _ c.deref_mut.result.now c.args.k.now g.F.FnOnce c.args.f p here kept c.requires.callable

pub remove_if_sync-requires-clause-keeps : goal.remove_if_sync-requires-clause-keeps
remove_if_sync-requires-clause-keeps g c = λ p b w here kept left. keeps-tested g.K.PartialEq.eq g.R.Rule.holds g.met.R.Rule.alike g.met.K.Eq.laws.symm _ c.deref_mut.result.now c.args.k.now g.F.FnOnce c.args.f p b w here kept c.requires.keeps left
