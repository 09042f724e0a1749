use Rattle.scc_owned_cache.proofs.Kept.{called-on}
use Rattle.scc_shared_cache.proofs.SharedCache.read_sync.Goals as goal

pub read_by_hint-requires : goal.read_by_hint-requires
read_by_hint-requires g c = λ a b here kept. called-on g.K.PartialEq.eq g.R.Rule.holds g.met.R.Rule.alike g.met.K.Eq.laws.symm _ c.deref.result.now c.args.k.now g.F.FnOnce c.args.f a b here kept c.requires
