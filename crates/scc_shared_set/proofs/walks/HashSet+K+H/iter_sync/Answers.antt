use denote.Param.Always.{always_mut, mut_by}
use Rattle.scc_owned_set.proofs.Walks.{Walks-keys}
use Rattle.scc_shared_set.proofs.Keys.{always-takes, always-after, AreOfStripes-keys}
use Rattle.scc_shared_set.proofs.walks.HashSet+K+H.iter_sync.Goals as goal

pub iter_sync-requires : goal.iter_sync-requires
iter_sync-requires g c = mut_by _ (λ s. always_mut g.F.FnMut s.0) (λ s a i. always-takes g.F.FnMut s.0 a.0.now i) (λ s a r t i e. always-after g.F.FnMut s.0 _ r _ e.met i) _ c.requires

pub returns : goal.returns
returns g c =
    let x = c.iter_sync.ensures.calls in
    record { calls = (_, x.1.0, Walks-keys _ g.F.FnMut (λ s. s.0) (λ s key value r t h. h.met) (λ s key value h. h) _ x.0 _ x.1 x.2, AreOfStripes-keys g.K.PartialEq.eq _ x.0 x.3) }
