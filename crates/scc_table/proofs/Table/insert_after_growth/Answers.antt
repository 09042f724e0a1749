use Rattle.std.proofs.Common.{◌≡◌, ◌∙◌, ◌-◌, ◌≤◌, ◌≢◌, ◌*◌, ℕ, length, replicate, true, false, sym, ap, subst, arith, rules}
use Rattle.std.proofs.lemmas.Result.{IfErr-weaker, IfOk-weaker, on_err_weaker, on_ok_weaker}
use Rattle.std.specs.List.{count_by, range_with_len}
use Rattle.scc_common.specs.Contents.{HasRoomAt, bucket_count, entries, hash_in, minimum_of, settings_of, waiting_of}
use Rattle.scc_buckets.specs.Pour.{IsRegrouped}
use Rattle.scc_common.specs.Routing.{bucket_number}
use Rattle.scc_common.specs.Sizes.{IsArraySize}
use Rattle.scc_common.specs.Steps.{IsGrowthDue}
use Rattle.scc_buckets.proofs.Resizes.{absent-permuted, rests-resizes, rests-inserted}
use Rattle.scc_table.specs.Places.{spot_of}
use Rattle.scc_table.specs.Relocates.{AreMovedBeside, AreShort, left_after}
use Rattle.scc_table.specs.TwoArrays.{pending_targets, waits_at}
use Rattle.scc_table.proofs.relocations.OneByOne.{pending-is}
use Rattle.scc_table.proofs.resizes.Growth.{grown-spread}
use Rattle.scc_table.proofs.arrays.SameParts.{list-same, pending-same}
use Rattle.scc_table.proofs.insertions.Room.{once-made, rests-kept}
use Rattle.scc_table.proofs.resizes.Installation.{count-up}
use Rattle.scc_table.proofs.relocations.Targets.{all-but-two, by-two, targets-all, targets-same}
use Rattle.scc_table.proofs.Table.insert_after_growth.Goals as goal

pub insert_and_relocate-requires : goal.insert_and_relocate-requires
insert_and_relocate-requires g c =
    record {
      within = search rules;
      routed = search rules;
      hashed = search rules;
      absent = absent-permuted _ (entries c.args.self.now) (entries c.bucket_for_new.new.self) (rests-resizes c.args.self.now c.bucket_for_new.new.self c.bucket_for_new.ensures.finds.rests).same c.requires.absent;
    }

pub returns-in-Ok : goal.returns-in-Ok
returns-in-Ok g c =
    let a = c.args.self.now in
    let b = c.bucket_for_new.new.self in
    let made = c.bucket_for_new.ensures.finds in
    let f = c.insert_and_relocate.new.self in
    let n = bucket_count f in
    let same : n ≡ bucket_count b = c.insert_and_relocate.ensures.buckets in
    let hash = λ (e : g.row.E.Denot). hash_in g.H.Hashes.hash_of a (g.E.Keyed.key_of e) in
    record {
      ok = (IfOk-weaker c.insert_and_relocate.result _ _ (λ p i. rests-inserted c.args.self.now c.bucket_for_new.new.self c.insert_and_relocate.new.self c.args.entry (spot_of c.insert_and_relocate.new.self p) c.bucket_for_new.ensures.finds.rests i) c.insert_and_relocate.ensures.ok);
      err = (IfErr-weaker c.insert_and_relocate.result _ _ (λ y p. (p.0, rests-kept a b f p.1 made.rests)) c.insert_and_relocate.ensures.err);
      full = (
          on_err_weaker c.insert_and_relocate.result
          (λ none room.
          let had : HasRoomAt (hash_in g.H.Hashes.hash_of c.args.self.now) g.E.Keyed.key_of c.args.self.now c.args.hash = rw c.requires.hashed room in
          let same = c.bucket_for_new.ensures.finds.still had in
          none (rw same room))
          c.insert_and_relocate.ensures.full);
      growth = (
          let other = λ (d : bucket_count f ≢ bucket_count a) (e : bucket_count b ≡ bucket_count a). d (same ∙ e) in
          record {
            first = λ none d. subst (λ (m : ℕ). IsArraySize (minimum_of a) (32 * m)) (sym same) (made.growth.first none (other d));
            half = λ l d. made.growth.half l (other d);
            below = λ l d. made.growth.below l (other d);
            doubled = λ l d. same ∙ made.growth.doubled l (other d);
            not_waiting = λ l d. made.growth.not_waiting l (other d);
          });
      due = (
          let hk = hash_in g.H.Hashes.hash_of a in
          record {
            still = λ none. c.insert_and_relocate.ensures.refused ∙ made.noted (λ due _. none (subst (IsGrowthDue hk g.E.Keyed.key_of a) c.requires.hashed due));
            grown = λ some ne. c.insert_and_relocate.ensures.refused ∙ made.lowered some (λ e. ne (same ∙ e));
            denied = λ due e. c.insert_and_relocate.ensures.refused ∙ made.denied (subst (IsGrowthDue hk g.E.Keyed.key_of a) (sym c.requires.hashed) due) due.below (sym same ∙ e);
          });
      first = (on_ok_weaker c.insert_and_relocate.result (λ h. record { made = λ z. rw c.insert_and_relocate.ensures.buckets (c.in-Ok.ensures.finds.first.made z) }) c.insert_and_relocate.ensures.exact);
      none = (
          on_err_weaker c.insert_and_relocate.result
          (λ full none.
          let bare = c.bucket_for_new.ensures.finds.bare none in
          absurd (full (omega (arith, c.in-Ok.ensures.finds.within), rw bare (omega arith))))
          c.insert_and_relocate.ensures.full);
      kept = (
          λ room.
          let had : HasRoomAt (hash_in g.H.Hashes.hash_of c.args.self.now) g.E.Keyed.key_of c.args.self.now c.args.hash = rw c.requires.hashed room in
          c.insert_and_relocate.ensures.buckets ∙ ap bucket_count (c.bucket_for_new.ensures.finds.still had));
      once = (
          let hk = hash_in g.H.Hashes.hash_of a in
          λ ready. c.insert_and_relocate.ensures.buckets ∙ once-made hk g.E.Keyed.key_of a b c.args.hash made.growth (λ had. ap bucket_count (made.still had)) (λ some why. made.once some why) (rw (← c.requires.hashed) at ready));
      fewer = (λ some kept i up. let w = made.waiting some (sym same ∙ kept) in rw (sym w) (c.insert_and_relocate.ensures.fewer i up));
      less = (
          λ some same.
          let w = c.bucket_for_new.ensures.finds.waiting some (sym c.insert_and_relocate.ensures.buckets ∙ same) in
          let p = pending-same c.args.self.now c.bucket_for_new.new.self w in
          omega (arith, c.insert_and_relocate.ensures.less));
      most = (
          λ some same.
          let w = c.bucket_for_new.ensures.finds.waiting some (sym c.insert_and_relocate.ensures.buckets ∙ same) in
          let p = pending-same c.args.self.now c.bucket_for_new.new.self w in
          omega (arith, c.insert_and_relocate.ensures.most));
      grown = (
          λ some ne.
          let b = c.bucket_for_new.new.self in
          let p = pending-is b ∙ ap (count_by (λ w. w)) (c.bucket_for_new.ensures.finds.all some (λ z. ne (c.insert_and_relocate.ensures.buckets ∙ z))) ∙ count-up (bucket_count b) in
          omega (arith, c.insert_and_relocate.ensures.most, c.insert_and_relocate.ensures.buckets));
      array = (
          λ none.
          let p = pending-is c.bucket_for_new.new.self ∙ ap (count_by (λ w. w)) (c.bucket_for_new.ensures.finds.not_waiting none) in
          omega (arith, c.insert_and_relocate.ensures.less));
      not_waiting = (
          let settings = (rests-resizes a b made.rests).settings in
          let at = c.in-Ok.ensures.finds.routed ∙ ap (λ s. bucket_number s.skipped (bucket_count b) c.args.hash) settings ∙ ap (λ m. bucket_number (settings_of a).skipped m c.args.hash) (sym same) in
          on_ok_weaker c.insert_and_relocate.result (subst (λ i. waits_at (waiting_of f) i ≡ false) at) c.insert_and_relocate.ensures.not_waiting);
      exact = (
          on_ok_weaker c.insert_and_relocate.result
          (λ h some same short.
          let e : bucket_count b ≡ bucket_count a = sym c.insert_and_relocate.ensures.buckets ∙ same in
          let w = made.waiting some e in
          let after : AreShort b = record { short = λ k up. subst (λ z. length z ≤ 32) (sym (list-same a b (made.stays some e) k)) (short.short k (ap (λ v. waits_at v k) (sym w) ∙ up)) } in
          let settings = (rests-resizes a b made.rests).settings in
          h after ∙ ap (left_after c.in-Ok.bucket) (targets-same a b w)
          ∙ ap (λ i. left_after i (pending_targets a)) (c.in-Ok.ensures.finds.routed ∙ ap (λ s. bucket_number s.skipped (bucket_count b) c.args.hash) settings ∙ ap (λ m. bucket_number (settings_of a).skipped m c.args.hash) e))
          c.insert_and_relocate.ensures.exact);
      spread = (
          on_ok_weaker c.insert_and_relocate.result
          (λ h some ne.
          let other = λ (z : bucket_count b ≡ bucket_count a). ne (same ∙ z) in
          let reg : IsRegrouped hash n a b = subst (λ m. IsRegrouped hash m a b) (sym same) (made.lists some other) in
          let all : waiting_of b ≡ replicate n true = made.all some other ∙ ap (λ m. replicate m true) (sym same) in
          grown-spread hash n a b f c.args.hash c.in-Ok.bucket reg all c.in-Ok.ensures.finds.routed h)
          c.insert_and_relocate.ensures.exact);
      all_but_two = (
          on_ok_weaker c.insert_and_relocate.result
          (λ h some ne short.
          let other = λ (z : bucket_count b ≡ bucket_count a). ne (same ∙ z) in
          let reg : IsRegrouped hash n a b = subst (λ m. IsRegrouped hash m a b) (sym same) (made.lists some other) in
          let all : waiting_of b ≡ replicate n true = made.all some other ∙ ap (λ m. replicate m true) (sym same) in
          let twice = made.growth.doubled some other in
          all-but-two _ n f (omega arith) (grown-spread hash n a b f c.args.hash c.in-Ok.bucket reg all c.in-Ok.ensures.finds.routed h short))
          c.insert_and_relocate.ensures.exact);
      by_two = (
          on_ok_weaker c.insert_and_relocate.result
          (λ h some kept short.
          let e : bucket_count b ≡ bucket_count a = sym same ∙ kept in
          let w = made.waiting some e in
          let after : AreShort b = record { short = λ k up. subst (λ z. length z ≤ 32) (sym (list-same a b (made.stays some e) k)) (short.short k (ap (λ v. waits_at v k) (sym w) ∙ up)) } in
          by-two c.in-Ok.bucket b f (h after) ∙ ap (λ m. m - 2) (pending-same a b w))
          c.insert_and_relocate.ensures.exact);
      moved = (
          on_ok_weaker c.insert_and_relocate.result
          (λ h some same.
          let e : bucket_count b ≡ bucket_count a = sym c.insert_and_relocate.ensures.buckets ∙ same in
          let settings = (rests-resizes a b made.rests).settings in
          let at = c.in-Ok.ensures.finds.routed ∙ ap (λ s. bucket_number s.skipped (bucket_count b) c.args.hash) settings ∙ ap (λ m. bucket_number (settings_of a).skipped m c.args.hash) e in
          subst (λ i. AreMovedBeside i (pending_targets a) f) at (subst (λ ts. AreMovedBeside c.in-Ok.bucket ts f) (targets-same a b (made.waiting some e)) h))
          c.insert_and_relocate.ensures.moved);
      drained = (
          on_ok_weaker c.insert_and_relocate.result
          (λ h some ne.
          let other = λ (z : bucket_count b ≡ bucket_count a). ne (same ∙ z) in
          let all : waiting_of b ≡ replicate n true = made.all some other ∙ ap (λ m. replicate m true) (sym same) in
          let settings = (rests-resizes a b made.rests).settings in
          let at = c.in-Ok.ensures.finds.routed ∙ ap (λ s. bucket_number s.skipped (bucket_count b) c.args.hash) settings ∙ ap (λ m. bucket_number (settings_of a).skipped m c.args.hash) (sym same) in
          subst (λ i. AreMovedBeside i (range_with_len 0 n) f) at (subst (λ ts. AreMovedBeside c.in-Ok.bucket ts f) (targets-all n b all) h))
          c.insert_and_relocate.ensures.moved);
      unique = (search rules);
    }

pub returns-in-Err : goal.returns-in-Err
returns-in-Err g c =
    record {
      ok = (search rules);
      err = (search rules);
      full = (search rules);
      growth = (search rules);
      due = (search rules);
      first = (search rules);
      none = (search rules);
      kept = (search rules);
      once = (search rules);
      fewer = (search rules);
      less = (search rules);
      most = (search rules);
      grown = (search rules);
      array = (λ none. pending-is c.bucket_for_new.new.self ∙ ap (count_by (λ w. w)) (c.bucket_for_new.ensures.finds.not_waiting none));
      not_waiting = (search rules);
      exact = (search rules);
      spread = (search rules);
      all_but_two = (search rules);
      by_two = (search rules);
      moved = (search rules);
      drained = (search rules);
      unique = (search rules);
    }
