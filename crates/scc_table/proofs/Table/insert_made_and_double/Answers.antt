use Rattle.std.proofs.Common.{◌≡◌, ◌∙◌, ◌*◌, ℕ, Some, sym, ap, subst, arith, rules}
use Rattle.std.specs.List.{range_with_len}
use Rattle.scc_common.specs.Contents.{bucket_count, hash_in, settings_of, waiting_of}
use Rattle.scc_common.specs.Routing.{bucket_number}
use Rattle.scc_table.specs.Relocates.{left_after, AreMovedBeside, AreShortBut}
use Rattle.scc_table.specs.TwoArrays.{waits_at}
use Rattle.scc_table.proofs.resizes.Growth.{around-inserted, around-short}
use Rattle.scc_table.proofs.insertions.OneList.{put-count, put-here, put-within}
use Rattle.scc_table.proofs.arrays.SameParts.{count-same, hash-same, pending-same, unchanged-same}
use Rattle.scc_table.proofs.arrays.NoneWaits.{not_waiting-all}
use Rattle.scc_table.proofs.Table.insert_made_and_double.Goals as goal

pub double_and_relocate-requires-clause-within : goal.double_and_relocate-requires-clause-within
double_and_relocate-requires-clause-within g c =
    let counted = put-count _ _ _ _ _ c.in-Ok.ensures.exact c.requires.new.within in
    omega (arith, counted, c.in-Ok.ensures.exact.bucket, c.requires.new.within)

pub double_and_relocate-requires-clause-slot : goal.double_and_relocate-requires-clause-slot
double_and_relocate-requires-clause-slot g c = (put-within _ _ _ _ _ c.in-Ok.ensures.exact c.requires.new.within).slot

pub double_and_relocate-requires-clause-hashed : goal.double_and_relocate-requires-clause-hashed
double_and_relocate-requires-clause-hashed g c =
    let m = c.insert_made_in.new.self in
    let put = c.in-Ok.ensures.exact in
    let outer = hash-same g.H.Hashes.hash_of c.args.self.now m put.settings in
    λ x got.
    let same : Some x ≡ Some (g.E.Made.made_of c.args.parts) = sym got ∙ put-here _ _ _ _ _ put c.requires.new.within in
    let here : x ≡ g.E.Made.made_of c.args.parts = cc in
    c.requires.new.hashed ∙ ap (λ (h : g.row.E-Key.Denot → ℕ). h (g.E.Keyed.key_of (g.E.Made.made_of c.args.parts))) (sym outer) ∙ ap (λ z. hash_in g.H.Hashes.hash_of m (g.E.Keyed.key_of z)) (sym here)

pub double_and_relocate-requires-clause-pending : goal.double_and_relocate-requires-clause-pending
double_and_relocate-requires-clause-pending g c =
    pending-same c.args.self.now c.insert_made_in.new.self c.insert_made_in.ensures.waiting ∙ c.requires.pending

pub double_and_relocate-requires-clause-below : goal.double_and_relocate-requires-clause-below
double_and_relocate-requires-clause-below g c =
    let counted = put-count _ _ _ _ _ c.in-Ok.ensures.exact c.requires.new.within in
    omega (arith, c.requires.below, counted)

pub returns-in-Ok : goal.returns-in-Ok
returns-in-Ok g c =
    let a = c.args.self.now in
    let m = c.insert_made_in.new.self in
    let put = c.in-Ok.ensures.exact in
    let counted = put-count _ _ _ _ _ c.in-Ok.ensures.exact c.requires.new.within in
    let d = c.double_and_relocate.new.self in
    let q = c.double_and_relocate.result in
    let r = c.double_and_relocate.ensures in
    let at : q.bucket ≡ bucket_number (settings_of a).skipped (bucket_count d) c.args.hash = r.routed ∙ ap (λ s. bucket_number s.skipped (bucket_count d) c.args.hash) put.settings in
    record {
      ok = around-inserted _ _ _ _ _ put c.requires.new.within d q r.rests r.within r.here r.not_waiting;
      err = (search rules);
      doubled = (λ ne. r.doubled (λ z. ne (z ∙ counted)) ∙ ap (λ n. 2 * n) counted);
      lowered = (λ ne. r.lowered (λ z. ne (z ∙ counted)));
      denied = (λ z. r.denied (z ∙ sym counted));
      none = (λ z. r.none (z ∙ sym counted));
      most = (λ ne. r.most (λ z. ne (z ∙ counted)));
      spread = (
          let hash = λ (x : g.row.E.Denot). hash_in g.H.Hashes.hash_of a (g.E.Keyed.key_of x) in
          let same = hash-same g.H.Hashes.hash_of a m put.settings in
          λ ne short.
          let few : AreShortBut hash (bucket_count d) q.bucket m = around-short _ _ _ _ _ put c.requires.new.within hash (bucket_count d) q.bucket (at ∙ ap (bucket_number (settings_of a).skipped (bucket_count d)) c.requires.new.hashed) short in
          r.spread (λ z. ne (z ∙ counted)) (subst (λ (h : g.row.E-Key.Denot → ℕ). AreShortBut (λ x. h (g.E.Keyed.key_of x)) (bucket_count d) q.bucket m) (sym same) few) ∙ ap (λ z. left_after z (range_with_len 0 (bucket_count d))) at);
      drained = (λ ne. subst (λ z. AreMovedBeside z (range_with_len 0 (bucket_count d)) d) at (r.drained (λ z. ne (z ∙ counted))));
      not_waiting = (ap (waits_at (waiting_of d)) (sym at) ∙ r.not_waiting);
      unique = (search rules);
    }

pub returns-in-Err : goal.returns-in-Err
returns-in-Err g c =
    record {
      ok = (search rules);
      err = (
          let z = c.in-Err.ensures.stays in
          let lists = c.note.ensures.lists ∙ z.lists in
          (c.in-Err.ensures.err, unchanged-same c.args.self.now c.note.new.self lists (c.note.ensures.settings ∙ z.settings)));
      doubled = (λ ne. absurd (ne (count-same c.args.self.now c.note.new.self (c.note.ensures.lists ∙ c.in-Err.ensures.stays.lists))));
      lowered = (λ ne. absurd (ne (count-same c.args.self.now c.note.new.self (c.note.ensures.lists ∙ c.in-Err.ensures.stays.lists))));
      denied = (λ _. c.note.ensures.noted);
      none = (λ same. pending-same c.args.self.now c.note.new.self (c.note.ensures.waiting ∙ c.insert_made_in.ensures.waiting) ∙ c.requires.pending);
      most = (λ ne. absurd (ne (count-same c.args.self.now c.note.new.self (c.note.ensures.lists ∙ c.in-Err.ensures.stays.lists))));
      spread = (search rules);
      drained = (search rules);
      not_waiting = (search rules);
      unique = (search rules);
    }

pub insert_made_in-requires-clause-not_waiting : goal.insert_made_in-requires-clause-not_waiting
insert_made_in-requires-clause-not_waiting g c = not_waiting-all c.args.self.now c.requires.pending c.args.bucket

pub double_and_relocate-requires-clause-empty : goal.double_and_relocate-requires-clause-empty
double_and_relocate-requires-clause-empty g c =
    let counted = put-count _ _ _ _ _ c.in-Ok.ensures.exact c.requires.new.within in
    rw counted c.requires.empty

pub double_and_relocate-requires-clause-flags : goal.double_and_relocate-requires-clause-flags
double_and_relocate-requires-clause-flags g c =
    let counted = put-count _ _ _ _ _ c.in-Ok.ensures.exact c.requires.new.within in
    rw counted c.requires.flags
