use Rattle.std.proofs.Common.{true}
use Rattle.scc_owned_set.proofs.Walks.{ordered-keys, callable-keys, Walks-keys}
use Rattle.scc_owned_set.proofs.Owned.iter_sync.Goals as goal

pub iter_sync-requires : goal.iter_sync-requires
iter_sync-requires g c = λ es p. callable-keys _ g.F.FnMut (λ s. s.0) (λ s key value r t h. h.met) (λ s key value h. h) true _ es (c.requires _ (rw (← c.self.view_is) (ordered-keys c.self.inside.map es p)))

pub returns : goal.returns
returns g c = let x = c.iter_sync.ensures in rw (← c.self.view_is) (_, x.1.0, ordered-keys c.self.inside.map x.0 x.2, Walks-keys _ g.F.FnMut (λ s. s.0) (λ s key value r t h. h.met) (λ s key value h. h) _ x.0 _ x.1 x.3)
