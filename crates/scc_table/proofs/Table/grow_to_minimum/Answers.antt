use Rattle.std.proofs.Common.{◌<◌, true, false, refl, arith, rules}
use Rattle.scc_common.specs.Contents.{bucket_count, notes_of}
use Rattle.scc_buckets.proofs.Resizes.{reaches-due}
use Rattle.scc_table.proofs.resizes.Attempts.{growth-due, spreads-all, spreads-less}
use Rattle.scc_table.proofs.resizes.Marks.{both-are}
use Rattle.scc_table.proofs.Table.grow_to_minimum.Goals as goal
use Rattle.scc_table.proofs.Table.grow_to_minimum.Goals.{then-count-eq0-via-then-count-eq0, then-count-eq0-via-else-count-eq0+then-count-wanted}

pub returns-then-count-eq0 : goal.returns-then-count-eq0
returns-then-count-eq0 g c =
    record {
      resizes = (search rules);
      more = (search rules);
      size = (search rules);
      due = (
          let size = rw c.minimum.ensures.value at c.buckets_for-wanted.ensures.size in
          reaches-due c.buckets_for-wanted.result c.args.self.now c.args.self.now size (λ _. refl) (λ ne. absurd (ne refl))
          (λ some less. elim c.then-count-eq0.branch [
            | then-count-eq0-via-then-count-eq0 w ↦ absurd (omega (arith, c.bucket_count-count.ensures.count))
            | then-count-eq0-via-else-count-eq0+then-count-wanted w ↦ absurd (omega (arith, c.bucket_count-count.ensures.count))
          ]));
      spreads = (search rules);
      unique = (search rules);
    }

pub returns-in-Ok : goal.returns-in-Ok
returns-in-Ok g c =
    record {
      resizes = (search rules);
      more = (search rules);
      size = (search rules);
      due = (
          let size = rw (c.minimum.ensures.value, ← c.in-Ok.ensures.lists.settings) at c.buckets_for-wanted.ensures.size in
          let n = c.in-Ok.ensures.lists.count in
          let p = c.bucket_count-count.ensures.count in
          let z = c.if-count-eq0.false in
          reaches-due c.buckets_for-wanted.result c.args.self.now c.resize_to.new.self size (λ none. absurd (none (omega arith) (omega arith)))
          (λ _. (n, both-are (notes_of c.resize_to.new.self) false false c.in-Ok.ensures.down c.resize_to.ensures.unmarked)) (λ _ _ e. absurd (omega arith)));
      spreads = (
          let size = rw c.minimum.ensures.value at c.buckets_for-wanted.ensures.size in
          let z = c.if-count-eq0.false in
          let n = c.bucket_count-count.ensures.count in
          let less : bucket_count c.args.self.now < c.buckets_for-wanted.result = omega arith in
          spreads-all c.args.self.now c.resize_to.new.self c.buckets_for-wanted.result c.in-Ok.ensures.lists.count (λ e. absurd (omega arith)) c.in-Ok.ensures.pending (growth-due _ c.buckets_for-wanted.result c.args.self.now (omega arith) size less));
      unique = (search rules);
    }

pub returns-in-Err : goal.returns-in-Err
returns-in-Err g c =
    let n = c.bucket_count-count.ensures.count in
    let z = c.if-count-eq0.false in
    record {
      resizes = (search rules);
      more = (search rules);
      size = (search rules);
      due = (
          let size = rw (c.minimum.ensures.value, ← c.in-Err.ensures.err.settings) at c.buckets_for-wanted.ensures.size in
          reaches-due c.buckets_for-wanted.result c.args.self.now c.resize_to.new.self size (λ none. absurd (none (omega arith) (omega arith)))
          (λ ne. absurd (ne c.in-Err.ensures.err.buckets)) (λ _ _ _. both-are (notes_of c.resize_to.new.self) true false c.in-Err.ensures.up c.resize_to.ensures.unmarked));
      spreads = (
          let size = rw c.minimum.ensures.value at c.buckets_for-wanted.ensures.size in
          let less : bucket_count c.args.self.now < c.buckets_for-wanted.result = omega arith in
          spreads-less c.args.self.now c.resize_to.new.self c.in-Err.ensures.err.buckets c.in-Err.ensures.fewer c.in-Err.ensures.less (growth-due _ c.buckets_for-wanted.result c.args.self.now (omega arith) size less));
      unique = (search rules);
    }
