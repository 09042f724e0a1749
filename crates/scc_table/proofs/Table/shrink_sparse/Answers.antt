use Rattle.std.proofs.Common.{◌∙◌, true, false, refl, inr, arith}
use Rattle.std.proofs.lemmas.List.Sorted.{length_permutation}
use Rattle.scc_common.specs.Contents.{entries, notes_of}
use Rattle.scc_buckets.proofs.Resizes.{regrouped-shrunk, shrinks-due}
use Rattle.scc_table.proofs.resizes.Attempts.{shrink-due, spreads-all, spreads-less}
use Rattle.scc_table.proofs.resizes.Marks.{both-are}
use Rattle.scc_table.proofs.Table.shrink_sparse.Goals as goal

pub overflow_mul-len : goal.overflow_mul-len
overflow_mul-len g c = record { fits = omega (arith, c.requires, c.bucket_count-present.ensures.count, c.bucket_count-present.ensures.most, c.len.ensures.len) }

pub resize_to-requires-clause-some : goal.resize_to-requires-clause-some
resize_to-requires-clause-some g c = omega (arith, c.bucket_count-present.ensures.count)

pub resize_to-requires-clause-other : goal.resize_to-requires-clause-other
resize_to-requires-clause-other g c = λ e. absurd (omega (arith, c.bucket_count-present.ensures.count))

pub returns-in-Ok-clause-resizes : goal.returns-in-Ok-clause-resizes
returns-in-Ok-clause-resizes g c =
    let least = rw c.minimum.ensures.value at c.buckets_for.ensures.size in
    let fitting = rw c.len.ensures.len at c.buckets_for-2.ensures.size in
    let lists = rw c.max-count.ensures at c.in-Ok.ensures.lists in
    (regrouped-shrunk _ c.buckets_for.result c.buckets_for-2.result c.args.self.now c.resize_to.new.self lists c.in-Ok.ensures.same c.buckets_for.ensures.array c.buckets_for-2.ensures.array least fitting (omega (arith, c.minimum.ensures.value, c.minimum.ensures.most)) c.requires (omega (arith, c.max-count.ensures, c.bucket_count-present.ensures.count))).resizes

pub returns-in-Ok-clause-shrinks : goal.returns-in-Ok-clause-shrinks
returns-in-Ok-clause-shrinks g c =
    let least = rw c.minimum.ensures.value at c.buckets_for.ensures.size in
    let fitting = rw c.len.ensures.len at c.buckets_for-2.ensures.size in
    let lists = rw c.max-count.ensures at c.in-Ok.ensures.lists in
    inr (regrouped-shrunk _ c.buckets_for.result c.buckets_for-2.result c.args.self.now c.resize_to.new.self lists c.in-Ok.ensures.same c.buckets_for.ensures.array c.buckets_for-2.ensures.array least fitting (omega (arith, c.minimum.ensures.value, c.minimum.ensures.most)) c.requires (omega (arith, c.max-count.ensures, c.bucket_count-present.ensures.count)))

pub returns-then-count-present-clause-due : goal.returns-then-count-present-clause-due
returns-then-count-present-clause-due g c =
    let least = rw c.minimum.ensures.value at c.buckets_for.ensures.size in
    let fitting = rw c.len.ensures.len at c.buckets_for-2.ensures.size in
    shrinks-due c.buckets_for.result c.buckets_for-2.result c.args.self.now c.args.self.now least fitting (λ _. refl) (λ ne. absurd (ne refl)) (λ _ less. absurd (omega (arith, c.max-count.ensures, c.bucket_count-present.ensures.count)))

pub returns-in-Ok-clause-due : goal.returns-in-Ok-clause-due
returns-in-Ok-clause-due g c =
    let least = rw (c.minimum.ensures.value, ← c.in-Ok.ensures.lists.settings) at c.buckets_for.ensures.size in
    let fitting = rw (c.len.ensures.len, ← length_permutation (entries c.args.self.now) (entries c.resize_to.new.self) c.in-Ok.ensures.same) at c.buckets_for-2.ensures.size in
    shrinks-due c.buckets_for.result c.buckets_for-2.result c.args.self.now c.resize_to.new.self least fitting
    (λ none. absurd (none (omega (arith, length_permutation (entries c.args.self.now) (entries c.resize_to.new.self) c.in-Ok.ensures.same, c.requires)) (omega (arith, c.max-count.ensures, c.bucket_count-present.ensures.count))))
    (λ _. (c.in-Ok.ensures.lists.count ∙ c.max-count.ensures, both-are (notes_of c.resize_to.new.self) false false c.in-Ok.ensures.down c.resize_to.ensures.unmarked))
    (λ _ _ e. let n = c.in-Ok.ensures.lists.count in absurd (omega (arith, c.bucket_count-present.ensures.count)))

pub returns-in-Err-clause-due : goal.returns-in-Err-clause-due
returns-in-Err-clause-due g c =
    let still = c.in-Err.ensures.err in
    let least = rw (c.minimum.ensures.value, ← still.settings) at c.buckets_for.ensures.size in
    let fitting = rw (c.len.ensures.len, ← still.exact) at c.buckets_for-2.ensures.size in
    shrinks-due c.buckets_for.result c.buckets_for-2.result c.args.self.now c.resize_to.new.self least fitting
    (λ none. absurd (none (rw still.exact c.requires) (omega (arith, c.max-count.ensures, c.bucket_count-present.ensures.count))))
    (λ ne. absurd (ne still.buckets))
    (λ _ _ _. both-are (notes_of c.resize_to.new.self) true false c.in-Err.ensures.up c.resize_to.ensures.unmarked)

pub returns-in-Ok-clause-spreads : goal.returns-in-Ok-clause-spreads
returns-in-Ok-clause-spreads g c =
    let least = rw c.minimum.ensures.value at c.buckets_for.ensures.size in
    let fitting = rw c.len.ensures.len at c.buckets_for-2.ensures.size in
    spreads-all c.args.self.now c.resize_to.new.self c.max-count.result c.in-Ok.ensures.lists.count (λ e. absurd (omega (arith, c.bucket_count-present.ensures.count))) c.in-Ok.ensures.pending
    (shrink-due c.buckets_for.result c.buckets_for-2.result c.args.self.now least fitting c.requires (omega (arith, c.max-count.ensures, c.bucket_count-present.ensures.count)))

pub returns-in-Err-clause-spreads : goal.returns-in-Err-clause-spreads
returns-in-Err-clause-spreads g c =
    let least = rw c.minimum.ensures.value at c.buckets_for.ensures.size in
    let fitting = rw c.len.ensures.len at c.buckets_for-2.ensures.size in
    spreads-less c.args.self.now c.resize_to.new.self c.in-Err.ensures.err.buckets c.in-Err.ensures.fewer c.in-Err.ensures.less
    (shrink-due c.buckets_for.result c.buckets_for-2.result c.args.self.now least fitting c.requires (omega (arith, c.max-count.ensures, c.bucket_count-present.ensures.count)))
