use Rattle.scc_owned_set.proofs.Walks.{Walks-keys}
use Rattle.scc_shared_set.proofs.RuledKeys.{keys-keep}
use Rattle.scc_shared_set.proofs.Keys.{AreOfStripes-keys}
use Rattle.scc_shared_set.proofs.ruled.walks.RuledSet+K+R+H.iter_sync.Goals as goal

pub iter_sync-requires : goal.iter_sync-requires
iter_sync-requires g c = λ s a b kept. c.requires s.0 a.now kept

pub returns : goal.returns
returns g c =
    let x = c.iter_sync.ensures.calls in
    record { calls = (_, x.1.0, keys-keep g.R.Rule.holds x.0 x.2, Walks-keys _ g.F.FnMut (λ s. s.0) (λ s key value r t h. h.met) (λ s key value h. h) _ x.0 _ x.1 x.3, AreOfStripes-keys g.K.PartialEq.eq _ x.0 x.4) }
