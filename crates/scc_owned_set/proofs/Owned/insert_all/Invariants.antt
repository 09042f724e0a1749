use Rattle.std.proofs.Common.{◌≡◌, ◌++◌}
use Rattle.std.specs.Option.{option_or}
use Rattle.std.specs.Vec.Iter.{into_iter_items}
use Rattle.scc_common.specs.Contents.{entries, key_hash, settings_of}
use Rattle.scc_owned_set.specs.Collections.{InsertsAll}
use Rattle.scc_owned_set.specs.Keys.{find, IsUnique}
use Rattle.scc_owned_set.proofs.Owned.insert_all.Given as goal

abbrev pub invariant-loop-k : goal.invariant-loop-k
invariant-loop-k g l = record {
  place : l.yielded ++ into_iter_items l.k-iterator ≡ l.fn.keys.items;
  run : InsertsAll g.K.PartialEq.eq (key_hash g.H.BuildHasher g.H.Hasher.Hasher g.K.Hash.hash_input) l.fn.self l.yielded l.self;
  settings : settings_of l.self ≡ settings_of l.fn.self;
  unique : IsUnique g.K.PartialEq.eq l.self;
  finds : (q : g.row.K.Denot) → find g.K.PartialEq.eq (entries l.self) q ≡ option_or (find g.K.PartialEq.eq (entries l.fn.self) q) (find g.K.PartialEq.eq l.yielded q);
}
