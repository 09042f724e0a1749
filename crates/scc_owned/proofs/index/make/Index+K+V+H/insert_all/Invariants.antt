use Rattle.std.proofs.Common.{◌≡◌, ◌++◌}
use Rattle.std.specs.Vec.Iter.{into_iter_items}
use Rattle.scc_common.specs.Contents.{key_hash}
use Rattle.scc_owned.specs.IndexCollections.{InsertsAll}
use Rattle.scc_owned.proofs.index.make.Index+K+V+H.insert_all.Given as goal

abbrev pub invariant-loop-k : goal.invariant-loop-k
invariant-loop-k g l = record {
  place : l.yielded ++ into_iter_items l.k-iterator ≡ l.fn.pairs.items;
  run : InsertsAll g.K.PartialEq.eq (key_hash g.H.BuildHasher g.H.Hasher.Hasher g.K.Hash.hash_input) l.fn.self l.yielded l.self;
}
