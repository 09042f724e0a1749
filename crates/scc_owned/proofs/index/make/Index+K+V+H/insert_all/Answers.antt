use Rattle.std.proofs.Common.{◌≡◌, ◌∷◌, [], Ok, Err, ◌∙◌, append_assoc, refl, sym}
use Rattle.std.specs.Vec.Iter.{into_iter_items}
use Rattle.std.proofs.lemmas.Fn.{FoldsTo-push}
use Rattle.scc_common.specs.Contents.{key_hash}
use Rattle.scc_owned.specs.IndexCollections.{InsertsOne}
use Rattle.scc_owned.proofs.index.make.Index+K+V+H.insert_all.Goals as goal

pub loop-k-preserved-in-Ok : goal.loop-k-preserved-in-Ok
loop-k-preserved-in-Ok g c =
    let hash = key_hash g.H.BuildHasher g.H.Hasher.Hasher g.K.Hash.hash_input in
    let inv = c.loop-k.invariant in
    let steps : into_iter_items c.loop-k.k-iterator ≡ (c.in-Some.k, c.in-Some.v) ∷ into_iter_items c.next.new.self = c.in-Some.ensures.steps.0 in
    record {
      place = append_assoc c.loop-k.yielded ((c.in-Some.k, c.in-Some.v) ∷ []) (into_iter_items c.next.new.self) ∙ rw (← steps) inv.place;
      run = FoldsTo-push (InsertsOne g.K.PartialEq.eq hash) c.args.self.now c.loop-k.yielded c.loop-k.self (c.in-Some.k, c.in-Some.v) c.insert_sync.new.self inv.run
          (Ok c.in-Ok.field-0, tt, record { step = c.in-Ok.ensures.step; array = rw c.in-Ok.is at c.insert_sync.ensures.array });
    }

pub loop-k-preserved : goal.loop-k-preserved
loop-k-preserved g c =
    let hash = key_hash g.H.BuildHasher g.H.Hasher.Hasher g.K.Hash.hash_input in
    let inv = c.loop-k.invariant in
    let steps : into_iter_items c.loop-k.k-iterator ≡ (c.in-Some.k, c.in-Some.v) ∷ into_iter_items c.next.new.self = c.in-Some.ensures.steps.0 in
    record {
      place = append_assoc c.loop-k.yielded ((c.in-Some.k, c.in-Some.v) ∷ []) (into_iter_items c.next.new.self) ∙ rw (← steps) inv.place;
      run = FoldsTo-push (InsertsOne g.K.PartialEq.eq hash) c.args.self.now c.loop-k.yielded c.loop-k.self (c.in-Some.k, c.in-Some.v) c.insert_sync.new.self inv.run
          (Err c.in-Err-Exists.field-0, rw c.in-Err-Exists.field-0-is tt, record { step = c.in-Err-Exists.ensures.step; array = rw c.in-Err-Exists.is at c.insert_sync.ensures.array });
    }

pub returns-in-Err-Memory : goal.returns-in-Err-Memory
returns-in-Err-Memory g c =
    let inv = c.loop-k.invariant in
    let steps : into_iter_items c.loop-k.k-iterator ≡ (c.in-Some.k, c.in-Some.v) ∷ into_iter_items c.next.new.self = c.in-Some.ensures.steps.0 in
    let h = rw c.in-Err-Memory.field-0-is at c.in-Err-Memory.ensures.step in
    let array = rw (c.in-Err-Memory.is, c.in-Err-Memory.field-0-is, h.0) at c.insert_sync.ensures.array in
    rw h.0 (record { refused = (c.loop-k.yielded, into_iter_items c.next.new.self, c.loop-k.self, sym (rw (← steps) inv.place), inv.run, record { step = (refl, h.1, h.2); array = array }); run = tt })
