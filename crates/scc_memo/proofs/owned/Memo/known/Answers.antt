use Rattle.std.proofs.Common.{rules}
use Rattle.scc_common.specs.Contents.{key_hash}
use Rattle.scc_memo.proofs.Values.{values-known}
use Rattle.scc_memo.proofs.owned.Memo.known.Goals as goal

pub returns : goal.returns
returns g c = rw (← c.self.view_is) (values-known (g.P.Pure.value c.self.inside.function) (key_hash g.H.BuildHasher g.H.Hasher.Hasher g.P.Key.Hash.hash_input c.self.inside.cache.contents) g.P.Key.PartialEq.eq (g.met.P.Pure.equal_alike c.self.inside.function) _ _ c.self.inside.cache.contents c.args.k.now c.read_sync.result c.read_sync.ensures.answer c.self.invariant (λ a b x met. search rules))
