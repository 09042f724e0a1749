use Rattle.std.proofs.Common.{◌∙◌, true, sym, subst, arith, rules}
use Rattle.scc_common.specs.Contents.{HasRoomAt, hash_in}
use Rattle.scc_table.specs.Relocates.{AreMovedBeside}
use Rattle.scc_table.specs.TwoArrays.{pending_targets}
use Rattle.scc_table.proofs.places.OneList.{room-listed}
use Rattle.scc_table.proofs.relocations.Targets.{by-two}
use Rattle.scc_table.proofs.arrays.Views.{pending-seen}
use Rattle.scc_table.proofs.Table.insert_new.Goals as goal

pub insert_with_room-requires-clause-none : goal.insert_with_room-requires-clause-none
insert_with_room-requires-clause-none g c =
    let t = c.self.inside in
    pending-seen _ t.current t.draining.waiting.items t.draining.array c.args.self.now c.self.view_is ∙ sym c.self.invariant.counted ∙ c.if-self-eq0.true

pub returns-then-list_len-lt32 : goal.returns-then-list_len-lt32
returns-then-list_len-lt32 g c =
    record {
      ok = (search rules);
      err = (search rules);
      full = (search rules);
      growth = (search rules);
      due = (
          let a = c.args.self.now in
          let i = c.bucket_at-bucket.result in
          let hk = hash_in g.H.Hashes.hash_of a in
          let held = room-listed hk g.E.Keyed.key_of a c.args.hash c.bucket_at-bucket.ensures.value c.bucket_at-bucket.ensures.routed c.list_len.ensures.len in
          record {
            still = λ _. c.insert_with_room.ensures.refused;
            grown = λ some ne. absurd (ne c.insert_with_room.ensures.buckets);
            denied = λ due _. absurd (due.full (rw c.requires.hashed at (let had : HasRoomAt hk g.E.Keyed.key_of a c.args.hash = (due.array, omega arith) in had)));
          });
      first = (search rules);
      none = (search rules);
      kept = (search rules);
      once = (search rules);
      fewer = (search rules);
      less = (search rules);
      most = (search rules);
      grown = (search rules);
      array = (search rules);
      not_waiting = (search rules);
      exact = (search rules);
      spread = (λ some ne. absurd (ne c.insert_with_room.ensures.buckets));
      all_but_two = (λ some ne. absurd (ne c.insert_with_room.ensures.buckets));
      by_two = (λ some kept short. by-two c.bucket_at-bucket.result c.args.self.now c.insert_with_room.new.self (c.insert_with_room.ensures.exact short));
      moved = (
          let ts = pending_targets c.args.self.now in
          λ some kept. subst (λ i. AreMovedBeside i ts c.insert_with_room.new.self) c.bucket_at-bucket.ensures.value c.insert_with_room.ensures.moved);
      drained = (λ some ne. absurd (ne c.insert_with_room.ensures.buckets));
      unique = (search rules);
    }
