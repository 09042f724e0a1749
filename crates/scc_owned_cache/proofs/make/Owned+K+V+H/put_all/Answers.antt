use Rattle.std.proofs.lemmas.Fn.{FoldsTo-push}
use Rattle.scc_common.specs.Contents.{key_hash}
use Rattle.scc_owned_cache.specs.Collections.{PutsOne}
use Rattle.scc_owned_cache.proofs.make.Owned+K+V+H.put_all.Goals as goal

pub loop-k-preserved-after-put_sync : goal.loop-k-preserved-after-put_sync
loop-k-preserved-after-put_sync g c =
    let hash = key_hash g.H.BuildHasher g.H.Hasher.Hasher g.K.Hash.hash_input in
    record {
      puts = FoldsTo-push (PutsOne g.K.PartialEq.eq hash) c.args.self.now c.loop-k.yielded c.loop-k.self (c.in-Some.k, c.in-Some.v) c.put_sync.new.self c.loop-k.invariant.puts (c.put_sync.result, record { step = c.put_sync.ensures.puts.step; relocates = c.put_sync.ensures.puts.relocates });
      state = c.put_sync.ensures.puts.state;
    }

pub loop-k-preserved-after-put_sync-2 : goal.loop-k-preserved-after-put_sync-2
loop-k-preserved-after-put_sync-2 g c =
    let hash = key_hash g.H.BuildHasher g.H.Hasher.Hasher g.K.Hash.hash_input in
    record {
      puts = FoldsTo-push (PutsOne g.K.PartialEq.eq hash) c.args.self.now c.loop-k.yielded c.loop-k.self (c.in-Some.k, c.in-Some.v) c.put_sync.new.self c.loop-k.invariant.puts (c.put_sync.result, record { step = c.put_sync.ensures.puts.step; relocates = c.put_sync.ensures.puts.relocates });
      state = c.put_sync.ensures.puts.state;
    }

pub loop-k-preserved-after-put_sync-3 : goal.loop-k-preserved-after-put_sync-3
loop-k-preserved-after-put_sync-3 g c =
    let hash = key_hash g.H.BuildHasher g.H.Hasher.Hasher g.K.Hash.hash_input in
    record {
      puts = FoldsTo-push (PutsOne g.K.PartialEq.eq hash) c.args.self.now c.loop-k.yielded c.loop-k.self (c.in-Some.k, c.in-Some.v) c.put_sync.new.self c.loop-k.invariant.puts (c.put_sync.result, record { step = c.put_sync.ensures.puts.step; relocates = c.put_sync.ensures.puts.relocates });
      state = c.put_sync.ensures.puts.state;
    }
