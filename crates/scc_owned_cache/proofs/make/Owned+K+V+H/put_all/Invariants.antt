use Rattle.scc_common.specs.Contents.{key_hash}
use Rattle.scc_owned_cache.specs.Caches.{IsCacheState}
use Rattle.scc_owned_cache.specs.Collections.{PutsAll}
use Rattle.scc_owned_cache.proofs.make.Owned+K+V+H.put_all.Given as goal

abbrev pub invariant-loop-k : goal.invariant-loop-k
invariant-loop-k g l = record {
  puts : PutsAll g.K.PartialEq.eq (key_hash g.H.BuildHasher g.H.Hasher.Hasher g.K.Hash.hash_input) l.fn.self l.yielded l.self;
  state : IsCacheState g.K.PartialEq.eq (key_hash g.H.BuildHasher g.H.Hasher.Hasher g.K.Hash.hash_input l.self.contents) l.self;
}
