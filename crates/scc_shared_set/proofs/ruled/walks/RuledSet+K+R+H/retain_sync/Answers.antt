use Rattle.scc_owned_set.proofs.Walks.{to-key, Retains-keys}
use Rattle.scc_shared_set.proofs.RuledKeys.{keys-keep}
use Rattle.scc_shared_set.proofs.Keys.{AreOfStripes-keys}
use Rattle.scc_shared_set.proofs.ruled.walks.RuledSet+K+R+H.retain_sync.Goals as goal

pub retain_sync-requires-clause-callable : goal.retain_sync-requires-clause-callable
retain_sync-requires-clause-callable g c = λ s a b kept. c.requires s.0 a.now kept

pub retain_sync-requires-clause-keeps : goal.retain_sync-requires-clause-keeps
retain_sync-requires-clause-keeps g c = λ s t p r w kept called. kept

pub returns : goal.returns
returns g c =
    let x = c.retain_sync.ensures.calls in
    record { calls = (_, _, x.2.0, keys-keep g.R.Rule.holds x.0 x.3, keys-keep g.R.Rule.holds x.1 x.4, Retains-keys (λ s. s.0) (to-key _ g.F.FnMut (λ s. s.0) (λ s key value left r t h. h.met) (λ s key value h. h)) _ x.0 x.1 x.2 x.5, AreOfStripes-keys g.K.PartialEq.eq _ x.0 x.6) }
