use Rattle.scc_common.specs.Contents.{key_hash}
use Rattle.scc_owned_cache.proofs.Replies.{puts-back}
use Rattle.scc_shared_cache.proofs.SharedCache.put_sync.Goals as goal

pub returns-clause-back : goal.returns-clause-back
returns-clause-back g c = puts-back (key_hash g.H.BuildHasher g.H.Hasher.Hasher g.K.Hash.hash_input c.deref_mut.result.now.contents) g.K.PartialEq.eq c.deref_mut.result.now (c.args.k, c.args.v) c.put_sync.result c.put_sync.new.self c.put_sync.ensures.puts.step
