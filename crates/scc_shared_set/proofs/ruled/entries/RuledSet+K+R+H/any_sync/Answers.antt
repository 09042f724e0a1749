use Rattle.scc_shared_set.proofs.RuledKeys.{keys-keep}
use Rattle.scc_shared_set.proofs.Keys.{AreOfStripes-keys, Declines-keys, PassesAt-keys}
use Rattle.scc_shared_set.proofs.ruled.entries.RuledSet+K+R+H.any_sync.Goals as goal

pub any_sync-requires : goal.any_sync-requires
any_sync-requires g c = λ s a b kept. c.requires s.0 a.now kept

pub returns-in-Some-clause-first : goal.returns-in-Some-clause-first
returns-in-Some-clause-first g c =
    let x = c.in-Some.ensures.first in
    (_, x.1.0, keys-keep g.R.Rule.holds x.0 x.2, keys-keep g.R.Rule.holds _ x.3, Declines-keys _ g.P.FnMut (λ s. s.0) (λ s key value r t h. h.met) _ x.0 x.1 x.4, PassesAt-keys _ g.P.FnMut (λ s. s.0) (λ s key value r t h. h.met) x.1 _ _ x.5, AreOfStripes-keys g.K.PartialEq.eq _ x.0 x.6)
