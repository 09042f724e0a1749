use Rattle.scc_owned_set.proofs.Walks.{to-key, Takes-keys, taken-keys}
use Rattle.scc_shared_set.proofs.RuledKeys.{keys-keep}
use Rattle.scc_shared_set.proofs.Keys.{AreOfStripes-keys}
use Rattle.scc_shared_set.proofs.ruled.walks.RuledSet+K+R+H.iter_mut_sync.Goals as goal

pub iter_mut_into-requires-clause-callable : goal.iter_mut_into-requires-clause-callable
iter_mut_into-requires-clause-callable g c = λ s a b kept. c.requires s.0 a.now kept

pub iter_mut_into-requires-clause-keeps : goal.iter_mut_into-requires-clause-keeps
iter_mut_into-requires-clause-keeps g c = λ s t p r w kept called. kept

pub returns-clause-calls : goal.returns-clause-calls
returns-clause-calls g c =
    let x = c.iter_mut_into.ensures.calls in
    (_, _, _, x.3.0, keys-keep g.R.Rule.holds x.0 x.4, keys-keep g.R.Rule.holds x.1 x.5, keys-keep g.R.Rule.holds x.2 x.6, Takes-keys (λ s. s.0) (to-key _ g.F.FnMut (λ s. s.0) (λ s key value left r t h. h.met) (λ s key value h. h)) _ x.0 x.1 x.2 _ x.3 x.7, taken-keys _ _ x.2 x.8, AreOfStripes-keys g.K.PartialEq.eq _ x.0 x.9)
