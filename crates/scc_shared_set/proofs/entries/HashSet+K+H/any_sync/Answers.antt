use denote.Param.Always.{always_mut, mut_by}
use Rattle.scc_shared_set.proofs.Keys.{always-takes, always-after, Declines-keys, PassesAt-keys, AreOfStripes-keys}
use Rattle.scc_shared_set.proofs.entries.HashSet+K+H.any_sync.Goals as goal

pub any_sync-requires : goal.any_sync-requires
any_sync-requires g c = mut_by _ (λ s. always_mut g.P.FnMut s.0) (λ s a i. always-takes g.P.FnMut s.0 a.0.now i) (λ s a r t i e. always-after g.P.FnMut s.0 _ _ _ e.met i) _ c.requires

pub returns-in-Some-clause-first : goal.returns-in-Some-clause-first
returns-in-Some-clause-first g c =
    let x = c.in-Some.ensures.first in
    (_, x.1.0, Declines-keys _ g.P.FnMut (λ s. s.0) (λ s key value r t h. h.met) _ x.0 x.1 x.2, PassesAt-keys _ g.P.FnMut (λ s. s.0) (λ s key value r t h. h.met) x.1 _ _ x.3, AreOfStripes-keys g.K.PartialEq.eq _ x.0 x.4)
