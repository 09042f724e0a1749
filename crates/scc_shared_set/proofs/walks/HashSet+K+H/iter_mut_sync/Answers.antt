use denote.Param.Always.{always_mut, mut_by}
use Rattle.scc_owned_set.proofs.Walks.{to-key, Takes-keys, taken-keys}
use Rattle.scc_shared_set.proofs.Keys.{always-takes, always-after, AreOfStripes-keys}
use Rattle.scc_shared_set.proofs.walks.HashSet+K+H.iter_mut_sync.Goals as goal

pub iter_mut_into-requires : goal.iter_mut_into-requires
iter_mut_into-requires g c = mut_by _ (λ s. always_mut g.F.FnMut s.0) (λ s a i. always-takes g.F.FnMut s.0 a.0.now i) (λ s a r t i e. always-after g.F.FnMut s.0 _ _ _ e.met i) _ c.requires

pub returns-clause-calls : goal.returns-clause-calls
returns-clause-calls g c =
    let x = c.iter_mut_into.ensures.calls in
    (_, _, _, x.3.0, Takes-keys (λ s. s.0) (to-key _ g.F.FnMut (λ s. s.0) (λ s key value left r t h. h.met) (λ s key value h. h)) _ x.0 x.1 x.2 _ x.3 x.4, taken-keys _ _ x.2 x.5, AreOfStripes-keys g.K.PartialEq.eq _ x.0 x.6)
