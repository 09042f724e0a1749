use Rattle.scc_common.specs.Contents.{key_hash}
use Rattle.scc_memo.proofs.Values.{was-there, values-removed}
use Rattle.scc_memo.proofs.owned.Memo.forget.Goals as goal

pub invariant_of-self : goal.invariant_of-self
invariant_of-self g c = values-removed (g.P.Pure.value c.self.inside.function) (key_hash g.H.BuildHasher g.H.Hasher.Hasher g.P.Key.Hash.hash_input c.self.inside.cache.contents) g.P.Key.PartialEq.eq c.self.inside.cache c.remove_sync.new.self c.args.k.now c.remove_sync.result c.remove_sync.ensures.removes.step c.self.invariant

pub returns-clause-values : goal.returns-clause-values
returns-clause-values g c = values-removed (g.P.Pure.value c.self.inside.function) (key_hash g.H.BuildHasher g.H.Hasher.Hasher g.P.Key.Hash.hash_input c.self.inside.cache.contents) g.P.Key.PartialEq.eq c.self.inside.cache c.remove_sync.new.self c.args.k.now c.remove_sync.result c.remove_sync.ensures.removes.step c.self.invariant

pub returns-clause-step : goal.returns-clause-step
returns-clause-step g c = rw (← c.self.view_is) (c.remove_sync.result, c.remove_sync.ensures.removes.step, was-there c.remove_sync.result c.is_some.result c.is_some.ensures)

pub returns-clause-relocates : goal.returns-clause-relocates
returns-clause-relocates g c = rw (← c.self.view_is) c.remove_sync.ensures.removes.relocates
