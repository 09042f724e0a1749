use Rattle.std.proofs.Common.{◌≡◌, ◌∙◌, ◌*◌, true, false, ap, sym, subst, arith, rules}
use Rattle.std.specs.List.{range_with_len}
use Rattle.scc_common.specs.Contents.{bucket_count, hash_in, settings_of}
use Rattle.scc_common.specs.Routing.{bucket_number}
use Rattle.scc_buckets.proofs.Powers.{double-array}
use Rattle.scc_table.specs.Relocates.{left_after, AreMovedBeside, AreShortAmong}
use Rattle.scc_table.specs.TwoArrays.{pending_targets, waits_at}
use Rattle.scc_draining.proofs.Arriving.{any-ok}
use Rattle.scc_table.proofs.resizes.Growth.{on-both}
use Rattle.scc_table.proofs.arrays.SameParts.{pending-same}
use Rattle.scc_table.proofs.arrays.NoneWaits.{not_waiting-all}
use Rattle.scc_table.proofs.Table.insert_made_full.Goals as goal

pub is_full_once_doubled-requires-clause-not_waiting : goal.is_full_once_doubled-requires-clause-not_waiting
is_full_once_doubled-requires-clause-not_waiting g c =
    not_waiting-all c.args.self.now c.requires.pending c.args.bucket

pub insert_made_grown-requires-clause-array : goal.insert_made_grown-requires-clause-array
insert_made_grown-requires-clause-array g c =
    double-array c.bucket_count-count.result c.bucket_count-count.ensures.lawful (omega (arith, c.requires.new.within, c.bucket_count-count.ensures.count)) (omega arith)

pub returns-then-is_full_once_doubled : goal.returns-then-is_full_once_doubled
returns-then-is_full_once_doubled g c =
    record {
      ok = (search rules);
      err = (search rules);
      growth = (
          record {
            first = λ none ne. absurd (omega (arith, c.requires.new.within));
            half = λ some ne. omega (arith, c.bucket_count-count.ensures.count, c.len-length.ensures.len);
            below = λ some ne. omega (arith, c.bucket_count-count.ensures.count);
            doubled = λ some ne. c.insert_made_and_double.ensures.doubled ne;
            not_waiting = λ some ne. c.requires.pending;
          });
      noted = (λ none. absurd (none (omega (arith, c.len-length.ensures.len, c.bucket_count-count.ensures.count), omega (arith, c.bucket_count-count.ensures.count))));
      lowered = (search rules);
      denied = (λ _ _ same. c.insert_made_and_double.ensures.denied same);
      once = (search rules);
      fewer = (λ same i up. absurd (let z : true ≡ false = sym up ∙ not_waiting-all c.insert_made_and_double.new.self (c.insert_made_and_double.ensures.none same) i in cc));
      less = (λ same. let none = c.insert_made_and_double.ensures.none same in omega arith);
      grown = (search rules);
      spread = (search rules);
      drained = (search rules);
      not_waiting = (search rules);
      unique = (search rules);
    }

pub fresh_waiting-requires : goal.fresh_waiting-requires
fresh_waiting-requires g c =
    (double-array c.bucket_count-count.result c.bucket_count-count.ensures.lawful (omega (arith, c.requires.new.within, c.bucket_count-count.ensures.count)) (omega arith)).most

pub returns-else-is_full_once_doubled : goal.returns-else-is_full_once_doubled
returns-else-is_full_once_doubled g c =
    record {
      ok = (search rules);
      err = (search rules);
      growth = (
          record {
            first = λ none ne. absurd (omega (arith, c.requires.new.within));
            half = λ some ne. omega (arith, c.bucket_count-count.ensures.count, c.len-length.ensures.len);
            below = λ some ne. omega (arith, c.bucket_count-count.ensures.count);
            doubled = λ some ne. c.insert_made_grown.ensures.doubled ne ∙ ap (λ n. 2 * n) c.bucket_count-count.ensures.count;
            not_waiting = λ some ne. c.requires.pending;
          });
      noted = (λ none. absurd (none (omega (arith, c.len-length.ensures.len, c.bucket_count-count.ensures.count), omega (arith, c.bucket_count-count.ensures.count))));
      lowered = (search rules);
      denied = (λ _ _ same. c.insert_made_grown.ensures.denied same);
      once = (search rules);
      fewer = (λ same i up. ap (λ ws. waits_at ws i) (sym (c.insert_made_grown.ensures.same same)) ∙ up);
      less = (λ same. let p = pending-same c.args.self.now c.insert_made_grown.new.self (c.insert_made_grown.ensures.same same) in omega arith);
      grown = (λ ne. let n = c.insert_made_grown.ensures.doubled ne in let p = c.insert_made_grown.ensures.grown ne in omega arith);
      spread = (
          let a = c.args.self.now in
          let f = c.insert_made_grown.new.self in
          let n = 2 * c.bucket_count-count.result in
          let hash = λ (e : g.row.E.Denot). hash_in g.H.Hashes.hash_of a (g.E.Keyed.key_of e) in
          let s = (settings_of a).skipped in
          on-both c.insert_made_grown.result
          (λ (e : bucket_count f ≡ n) (h : AreShortAmong hash n a → pending_targets f ≡ left_after (bucket_number s n c.args.hash) (range_with_len 0 n)) ne short.
          subst (λ m. pending_targets f ≡ left_after (bucket_number s m c.args.hash) (range_with_len 0 m)) (sym e) (h (subst (λ m. AreShortAmong hash m a) e short)))
          c.insert_made_grown.ensures.buckets c.insert_made_grown.ensures.spread);
      drained = (
          let a = c.args.self.now in
          let f = c.insert_made_grown.new.self in
          let n = 2 * c.bucket_count-count.result in
          let s = (settings_of a).skipped in
          on-both c.insert_made_grown.result
          (λ (e : bucket_count f ≡ n) (h : AreMovedBeside (bucket_number s n c.args.hash) (range_with_len 0 n) f) ne.
          subst (λ m. AreMovedBeside (bucket_number s m c.args.hash) (range_with_len 0 m) f) (sym e) h)
          c.insert_made_grown.ensures.buckets c.insert_made_grown.ensures.drained);
      not_waiting = (search rules);
      unique = (search rules);
    }

pub returns-then-length-count : goal.returns-then-length-count
returns-then-length-count g c =
    record {
      ok = (search rules);
      err = (search rules);
      growth = (search rules);
      noted = (λ _. c.insert_made_and_relocate.ensures.refused);
      lowered = (λ ne. absurd (ne c.insert_made_and_relocate.ensures.buckets));
      denied = (search rules);
      once = (search rules);
      fewer = (search rules);
      less = (search rules);
      grown = (search rules);
      spread = (any-ok c.insert_made_and_relocate.result (λ ne. absurd (ne c.insert_made_and_relocate.ensures.buckets)));
      drained = (any-ok c.insert_made_and_relocate.result (λ ne. absurd (ne c.insert_made_and_relocate.ensures.buckets)));
      not_waiting = (search rules);
      unique = (search rules);
    }
