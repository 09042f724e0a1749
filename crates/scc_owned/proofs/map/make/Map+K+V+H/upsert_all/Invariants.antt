use Rattle.scc_common.specs.Contents.{key_hash}
use Rattle.scc_owned.specs.MapCollections.{UpsertsAll}
use Rattle.scc_owned.proofs.map.make.Map+K+V+H.upsert_all.Given as goal

abbrev pub invariant-loop-k : goal.invariant-loop-k
invariant-loop-k g l = UpsertsAll g.K.PartialEq.eq (key_hash g.H.BuildHasher g.H.Hasher.Hasher g.K.Hash.hash_input) l.fn.self l.yielded l.self
