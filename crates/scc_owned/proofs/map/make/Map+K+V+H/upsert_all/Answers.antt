use Rattle.std.proofs.lemmas.Fn.{FoldsTo-push}
use Rattle.scc_common.specs.Contents.{key_hash}
use Rattle.scc_owned.specs.MapCollections.{UpsertsOne}
use Rattle.scc_owned.proofs.map.make.Map+K+V+H.upsert_all.Goals as goal

pub loop-k-preserved-in-Ok : goal.loop-k-preserved-in-Ok
loop-k-preserved-in-Ok g c =
    let hash = key_hash g.H.BuildHasher g.H.Hasher.Hasher g.K.Hash.hash_input in
    FoldsTo-push (UpsertsOne g.K.PartialEq.eq hash) c.args.self.now c.loop-k.yielded c.loop-k.self (c.in-Some.k, c.in-Some.v) c.upsert_sync.new.self c.loop-k.invariant
    (c.in-Ok.field-0, record { step = c.in-Ok.ensures.step; array = rw c.in-Ok.is at c.upsert_sync.ensures.array })

pub loop-k-preserved-in-Ok-2 : goal.loop-k-preserved-in-Ok-2
loop-k-preserved-in-Ok-2 g c =
    let hash = key_hash g.H.BuildHasher g.H.Hasher.Hasher g.K.Hash.hash_input in
    FoldsTo-push (UpsertsOne g.K.PartialEq.eq hash) c.args.self.now c.loop-k.yielded c.loop-k.self (c.in-Some.k, c.in-Some.v) c.upsert_sync.new.self c.loop-k.invariant
    (c.in-Ok.field-0, record { step = c.in-Ok.ensures.step; array = rw c.in-Ok.is at c.upsert_sync.ensures.array })
