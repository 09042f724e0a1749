use Rattle.std.proofs.Common.{◌≡◌, ℕ, None, refl, sym, inl, inr, subst, rules}
use Rattle.scc_common.specs.Hashing.{hash_of}
use Rattle.scc_common.specs.Contents.{entries}
use Rattle.scc_owned_set.specs.Keys.{find}
use Rattle.scc_common.specs.Steps.{IsPreparedAt}
use Rattle.scc_table.proofs.arrays.SameParts.{hash-same}
use Rattle.scc_calls.proofs.MapCalls.{by-find, refuses-still}
use Rattle.scc_calls.proofs.set_calls.prepare_key.Goals as goal

pub returns-in-Ok : goal.returns-in-Ok
returns-in-Ok g c =
    record {
      made = (
          let a = c.args.set.now in
          let d = c.find_or_make_room.new.self in
          let k = c.args.k.now in
          let like = hash-same (λ h k. hash_of g.H.BuildHasher g.H.Hasher.Hasher h (g.K.Hash.hash_input k)) a d c.find_or_make_room.ensures.room.settings in
          by-find (find g.K.PartialEq.eq (entries a) k)
          (λ p is. let same : d ≡ a = (c.in-Ok.ensures.room.present (rw is refl)).1 in inl (rw same (rw is refl)))
          (λ none. inr (subst (λ (h : g.row.K.Denot → ℕ). IsPreparedAt h (λ q. q) d (h k)) (sym like) (c.in-Ok.ensures.room.ok none).made)));
      known = c.in-Ok.ensures.found;
      stays = (search rules);
      settings = (search rules);
      grows = (search rules);
      refused = (search rules);
      unmarked = (search rules);
      still = (
          let a = c.args.set.now in
          let d = c.find_or_make_room.new.self in
          let k = c.args.k.now in
          by-find (find g.K.PartialEq.eq (entries a) k)
          (λ q is. let same : d ≡ a = (c.in-Ok.ensures.room.present (rw is refl)).1 in rw same (λ h. h))
          (λ none. refuses-still (λ q. q) (λ ks. find g.K.PartialEq.eq ks k ≡ None) (λ h k. hash_of g.H.BuildHasher g.H.Hasher.Hasher h (g.K.Hash.hash_input k)) a d k none (c.in-Ok.ensures.room.ok none)));
    }
