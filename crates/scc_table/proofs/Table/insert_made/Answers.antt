use Rattle.std.proofs.Common.{◌≡◌, ◌∙◌, ◌<◌, inl, inr, true, false, sym, ap, subst, arith, rules}
use Rattle.std.proofs.lemmas.Result.{on_ok_weaker}
use Rattle.std.specs.List.{count_by}
use Rattle.std.proofs.lemmas.List.{nil_from_length}
use Rattle.scc_common.specs.Contents.{HasRoomAt, bucket_count, hash_in, pending_of, settings_of}
use Rattle.scc_common.specs.Routing.{bucket_number}
use Rattle.scc_common.specs.Steps.{GrowsWhenDue}
use Rattle.scc_table.specs.Relocates.{AreMovedBeside}
use Rattle.scc_table.specs.TwoArrays.{pending_targets}
use Rattle.scc_draining.proofs.Arriving.{any-ok}
use Rattle.scc_table.proofs.relocations.OneByOne.{pending-is}
use Rattle.scc_table.proofs.places.OneList.{room-listed}
use Rattle.scc_table.proofs.insertions.Room.{once-made}
use Rattle.scc_table.proofs.insertions.Places.{moved-nothing, none-left}
use Rattle.scc_table.proofs.relocations.Targets.{all-but-two, by-two, targets-length}
use Rattle.scc_table.proofs.Table.insert_made.Goals as goal

pub returns-then-bucket_count-eq0 : goal.returns-then-bucket_count-eq0
returns-then-bucket_count-eq0 g c =
    record {
      ok = (search rules);
      err = (search rules);
      growth = (search rules);
      due = (
          record {
            still = λ _. c.insert_made_first.ensures.noted;
            grown = λ some. absurd (let z = c.requires in let m = c.bucket_count.ensures.count in let e = c.if-bucket_count-eq0.true in omega arith);
            denied = λ due. absurd (let r = due.array in let m = c.bucket_count.ensures.count in let e = c.if-bucket_count-eq0.true in omega arith);
          });
      first = (search rules);
      kept = (search rules);
      once = (λ ready. absurd (let r = ready.0 in let z = c.requires in let m = c.bucket_count.ensures.count in let e = c.if-bucket_count-eq0.true in omega arith));
      fewer = (search rules);
      less = (search rules);
      most = (search rules);
      grown = (search rules);
      array = (λ none. pending-is c.insert_made_first.new.self ∙ ap (count_by (λ w. w)) c.insert_made_first.ensures.waiting);
      not_waiting = (search rules);
      exact = (search rules);
      spread = (search rules);
      all_but_two = (search rules);
      by_two = (search rules);
      moved = (search rules);
      drained = (search rules);
      unique = (search rules);
    }

pub returns-then-pending-gt0 : goal.returns-then-pending-gt0
returns-then-pending-gt0 g c =
    let p = c.pending.ensures in
    record {
      ok = (search rules);
      err = (search rules);
      growth = (search rules);
      due = (
          record {
            still = λ _. c.insert_made_and_relocate.ensures.refused;
            grown = λ some ne. absurd (ne c.insert_made_and_relocate.ensures.buckets);
            denied = λ due _. absurd (let q = c.if-pending-gt0.true in omega (arith, due.not_waiting));
          });
      first = (search rules);
      kept = (search rules);
      once = (search rules);
      fewer = (search rules);
      less = (search rules);
      most = (search rules);
      grown = (search rules);
      array = (search rules);
      not_waiting = (search rules);
      exact = (search rules);
      spread = (any-ok c.insert_made_and_relocate.result (λ some ne. absurd (ne c.insert_made_and_relocate.ensures.buckets)));
      all_but_two = (any-ok c.insert_made_and_relocate.result (λ some ne. absurd (ne c.insert_made_and_relocate.ensures.buckets)));
      by_two = (on_ok_weaker c.insert_made_and_relocate.result (λ h some same short. by-two c.bucket_at-bucket.result c.args.self.now c.insert_made_and_relocate.new.self (h short)) c.insert_made_and_relocate.ensures.exact);
      moved = (
          let ts = pending_targets c.args.self.now in
          on_ok_weaker c.insert_made_and_relocate.result (λ h some same. subst (λ i. AreMovedBeside i ts c.insert_made_and_relocate.new.self) c.bucket_at-bucket.ensures.value h) c.insert_made_and_relocate.ensures.moved);
      drained = (any-ok c.insert_made_and_relocate.result (λ some ne. absurd (ne c.insert_made_and_relocate.ensures.buckets)));
      unique = (search rules);
    }

pub returns-then-list_len-lt32 : goal.returns-then-list_len-lt32
returns-then-list_len-lt32 g c =
    let a = c.args.self.now in
    let i = c.bucket_at-bucket.result in
    let hk = hash_in g.H.Hashes.hash_of a in
    let held = room-listed hk g.E.Keyed.key_of a c.args.hash c.bucket_at-bucket.ensures.value c.bucket_at-bucket.ensures.routed c.list_len.ensures.len in
    record {
      ok = (search rules);
      err = (search rules);
      growth = (search rules);
      due = (
          record {
            still = λ _. c.insert_made_and_relocate-then-list_len-lt32.ensures.refused;
            grown = λ some ne. absurd (ne c.insert_made_and_relocate-then-list_len-lt32.ensures.buckets);
            denied = λ due _. absurd (let room : HasRoomAt hk g.E.Keyed.key_of a c.args.hash = (due.array, omega arith) in due.full (rw c.requires.hashed at room));
          });
      first = (search rules);
      kept = (search rules);
      once = (search rules);
      fewer = (search rules);
      less = (search rules);
      most = (search rules);
      grown = (search rules);
      array = (search rules);
      not_waiting = (search rules);
      exact = (search rules);
      spread = (any-ok c.insert_made_and_relocate-then-list_len-lt32.result (λ some ne. absurd (ne c.insert_made_and_relocate-then-list_len-lt32.ensures.buckets)));
      all_but_two = (any-ok c.insert_made_and_relocate-then-list_len-lt32.result (λ some ne. absurd (ne c.insert_made_and_relocate-then-list_len-lt32.ensures.buckets)));
      by_two = (on_ok_weaker c.insert_made_and_relocate-then-list_len-lt32.result (λ h some same short. by-two c.bucket_at-bucket.result c.args.self.now c.insert_made_and_relocate-then-list_len-lt32.new.self (h short)) c.insert_made_and_relocate-then-list_len-lt32.ensures.exact);
      moved = (
          let ts = pending_targets c.args.self.now in
          let f = c.insert_made_and_relocate-then-list_len-lt32.new.self in
          on_ok_weaker c.insert_made_and_relocate-then-list_len-lt32.result (λ h some same. subst (λ i. AreMovedBeside i ts f) c.bucket_at-bucket.ensures.value h) c.insert_made_and_relocate-then-list_len-lt32.ensures.moved);
      drained = (any-ok c.insert_made_and_relocate-then-list_len-lt32.result (λ some ne. absurd (ne c.insert_made_and_relocate-then-list_len-lt32.ensures.buckets)));
      unique = (search rules);
    }

pub returns : goal.returns
returns g c =
    let a = c.args.self.now in
    let i = c.bucket_at-bucket.result in
    let hk = hash_in g.H.Hashes.hash_of a in
    let held = room-listed hk g.E.Keyed.key_of a c.args.hash c.bucket_at-bucket.ensures.value c.bucket_at-bucket.ensures.routed c.list_len.ensures.len in
    let full : HasRoomAt hk g.E.Keyed.key_of a c.args.hash → ⊥ = λ room. absurd (let r = room.1 in omega arith) in
    let some : 0 < bucket_count a = let z = c.if-bucket_count-eq0.false in let m = c.bucket_count.ensures.count in omega arith in
    let f = c.insert_made_full.new.self in
    let none-waits : pending_of a ≡ 0 = let p = c.pending.ensures in let q = c.if-pending-gt0.false in omega arith in
    let grows : GrowsWhenDue hk g.E.Keyed.key_of a (g.E.Keyed.key_of (g.E.Made.made_of c.args.parts)) f = record {
      still = λ none. c.insert_made_full.ensures.noted (λ r. none record { array = some; not_waiting = none-waits; full = λ room. full (rw c.requires.hashed room); half = r.0; below = r.1 });
      grown = λ _ ne. c.insert_made_full.ensures.lowered ne;
      denied = λ due same. c.insert_made_full.ensures.denied due.half due.below same;
    } in
    record {
      ok = (search rules);
      err = (search rules);
      growth = (search rules);
      due = grows;
      first = (search rules);
      kept = (λ room. absurd (full (rw c.requires.hashed room)));
      once = (
          λ ready. once-made hk g.E.Keyed.key_of a c.insert_made_full.new.self c.args.hash c.insert_made_full.ensures.growth (λ room. absurd (full room))
          (λ some w. elim w as (λ _. bucket_count c.insert_made_full.new.self ≡ bucket_count a) [ inl up ↦ absurd (omega arith) | inr marked ↦ c.insert_made_full.ensures.once marked ]) (rw c.requires.hashed ready));
      fewer = (search rules);
      less = (search rules);
      most = (search rules);
      grown = (search rules);
      array = (search rules);
      not_waiting = (search rules);
      exact = (
          any-ok c.insert_made_full.result
          (λ some same short.
          let left : pending_of f ≡ 0 = let l = c.insert_made_full.ensures.less same in omega arith in
          none-left (bucket_number (settings_of a).skipped (bucket_count a) c.args.hash) a (pending_targets f) none-waits (nil_from_length (pending_targets f) (targets-length f ∙ left) ∙ sym (nil_from_length (pending_targets a) (targets-length a ∙ none-waits)))));
      spread = (on_ok_weaker c.insert_made_full.result (λ h some ne. h ne) c.insert_made_full.ensures.spread);
      all_but_two = (
          on_ok_weaker c.insert_made_full.result
          (λ h some ne short.
          let twice = c.insert_made_full.ensures.growth.doubled some ne in
          all-but-two _ (bucket_count f) f (omega arith) (h ne short))
          c.insert_made_full.ensures.spread);
      by_two = (
          let p = c.pending.ensures in
          let q = c.if-pending-gt0.false in
          any-ok c.insert_made_full.result (λ some same short. let l = c.insert_made_full.ensures.less same in omega arith));
      moved = (
          any-ok c.insert_made_full.result
          (λ some same.
          let left : pending_of f ≡ 0 = let l = c.insert_made_full.ensures.less same in omega arith in
          moved-nothing (bucket_number (settings_of a).skipped (bucket_count a) c.args.hash) a f none-waits left));
      drained = (on_ok_weaker c.insert_made_full.result (λ h some ne. h ne) c.insert_made_full.ensures.drained);
      unique = (search rules);
    }
