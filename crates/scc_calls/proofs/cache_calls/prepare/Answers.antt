use Rattle.std.proofs.Common.{◌≤◌, ◌*◌, ℕ, List, length, inl, inr, sym, ap, subst, arith, rules}
use Rattle.scc_common.specs.Hashing.{hash_of}
use Rattle.scc_common.specs.Contents.{bucket_count, key_hash, lists_of}
use Rattle.scc_table.proofs.arrays.SameParts.{hash-same}
use Rattle.scc_owned_cache.specs.CacheSteps.{IsPreparedForPut, list_number}
use Rattle.scc_calls.specs.CacheCalls.{cache_setting, CacheResizes}
use Rattle.scc_calls.proofs.CacheCalls.{stays-same}
use Rattle.scc_calls.proofs.CacheReplies.{by_place}
use Rattle.scc_calls.proofs.CacheRoom.{room-stays, room-more, room-still}
use Rattle.scc_calls.proofs.cache_calls.prepare.Goals as goal

pub returns-in-Ok : goal.returns-in-Ok
returns-in-Ok g c =
    let a = c.args.cache.now in
    let d = c.find_or_make_room.new.self in
    let k = c.in-Put.k in
    let hash : g.row.K.Denot → ℕ = key_hash g.H.BuildHasher g.H.Hasher.Hasher g.K.Hash.hash_input c.args.cache.now.contents in
    record {
      made = (
          let like = hash-same (λ h k. hash_of g.H.BuildHasher g.H.Hasher.Hasher h (g.K.Hash.hash_input k)) a.contents d.contents c.in-Ok.ensures.room.settings in
          rw c.in-Put.is (by_place g.K.PartialEq.eq (list_number hash a.contents) (lists_of a.contents) k
          (λ i p at. let same = (c.in-Ok.ensures.room.present p (i, at)).1 in rw same (inl (p, (i, at))))
          (λ none. inr (subst (λ (h : g.row.K.Denot → ℕ). IsPreparedForPut h d k) (sym like) (c.in-Ok.ensures.room.ok none).ready))));
      known = rw c.in-Put.is c.in-Ok.ensures.found;
      stays = (
          let R : List (List (g.row.K.Denot × g.row.V.Denot)) → ℕ → List (List (g.row.K.Denot × g.row.V.Denot)) → Type 0 = CacheResizes (cache_setting a) (list_number (key_hash g.H.BuildHasher g.H.Hasher.Hasher g.K.Hash.hash_input a.contents) a.contents) in
          by_place g.K.PartialEq.eq (list_number hash a.contents) (lists_of a.contents) k
          (λ i p at. stays-same R (lists_of a.contents) (lists_of d.contents) (ap (λ x. lists_of x.contents) (c.in-Ok.ensures.room.present p (i, at)).1))
          (λ none. room-stays hash g.K.PartialEq.eq a d k (c.in-Ok.ensures.room.ok none) (subst (λ m. 32 * bucket_count d.contents ≤ m) c.in-Ok.ensures.room.maximum c.in-Ok.ensures.state.within)));
      settings = (search rules);
      grows = (
          by_place g.K.PartialEq.eq (list_number hash a.contents) (lists_of a.contents) k
          (λ i p at. let same = ap (λ x. length (lists_of x.contents)) (c.in-Ok.ensures.room.present p (i, at)).1 in omega arith)
          (λ none. room-more hash g.K.PartialEq.eq a d k (c.in-Ok.ensures.room.ok none)));
      adds = (search rules);
      refused = (search rules);
      unmarked = (search rules);
      still = (
          rw c.in-Put.is (by_place g.K.PartialEq.eq (list_number hash a.contents) (lists_of a.contents) k
          (λ i p at. let same = (c.in-Ok.ensures.room.present p (i, at)).1 in rw same (λ h. h))
          (λ none. room-still hash g.K.PartialEq.eq a d k (c.in-Ok.ensures.room.ok none) c.in-Put.field-1)));
    }

pub returns-in-Err : goal.returns-in-Err
unfolding bucket_count lists_of
returns-in-Err g c =
    record {
      made = (search rules);
      known = (search rules);
      stays = (search rules);
      settings = (search rules);
      grows = (search rules);
      adds = (search rules);
      refused = (rw c.in-Put.is c.in-Err.ensures.room.err);
      unmarked = (rw c.in-Err.ensures.room.same (λ h. h));
      still = (rw c.in-Err.ensures.room.same (λ h. h));
    }
