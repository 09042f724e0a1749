use Rattle.std.proofs.Common.{◌∙◌, ℕ, ◌<◌, ◌≤◌, length, refl, sym, subst, arith, rules}
use Rattle.std.proofs.lemmas.Bool.{true≢false}
use Rattle.scc_buckets.specs.Bounded.{stays_wide, denied_narrow, narrows}
use Rattle.scc_common.specs.Contents.{entries, hash_in, settings_of}
use Rattle.scc_buckets.specs.Pour.{destined_for}
use Rattle.scc_table.proofs.arrays.SameParts.{count-same}
use Rattle.scc_table.proofs.relocations.ShortLists.{listed-anew, listed-later, short-listed}
use Rattle.scc_table.proofs.resizes.Attempts.{spreads-all, spreads-less}
use Rattle.scc_table.proofs.resizes.NarrowShrinks.{narrow-is, narrow-may, narrow-only, narrowed, narrowed-listed, narrowed-smaller}
use Rattle.scc_table.proofs.Table.shrink_sparse_within.Goals as goal

pub returns-then-count-present-clause-shrinks : goal.returns-then-count-present-clause-shrinks
returns-then-count-present-clause-shrinks g c =
    let size = narrow-is c.args.self.now c.max-count.ensures c.minimum.ensures.value c.buckets_for.ensures.size c.len.ensures.len c.buckets_for-2.ensures.size in
    stays_wide (λ n may. let same = narrow-only size may.smaller in let fewer = may.smaller.fewer in absurd (omega (arith, c.bucket_count-present.ensures.count))) refl

pub returns-in-Ok-clause-shrinks : goal.returns-in-Ok-clause-shrinks
returns-in-Ok-clause-shrinks g c =
    let hash = λ (e : g.row.E.Denot). hash_in g.H.Hashes.hash_of c.args.self.now (g.E.Keyed.key_of e) in
    let size = narrow-is c.args.self.now c.max-count.ensures c.minimum.ensures.value c.buckets_for.ensures.size c.len.ensures.len c.buckets_for-2.ensures.size in
    let may = narrow-may size hash c.buckets_for.ensures.array c.buckets_for-2.ensures.array c.requires.few (omega (arith, c.bucket_count-present.ensures.count)) (c.is_short_in.ensures.0 (search rules)) in
    let bounded = c.resize_to.ensures.bounded c.requires.listed.bounded (short-listed hash c.args.self.now c.requires.listed) in
    let r = c.in-Ok.ensures in
    let enough = size.least.enough in
    narrows (narrowed-smaller hash may r.lists bounded) (omega (arith, r.lists.count, c.max-count.ensures, enough, c.minimum.ensures.value, c.minimum.ensures.most)) r.down (λ up. absurd (true≢false (sym up ∙ c.resize_to.ensures.unmarked))) (narrowed hash may r.lists bounded)

pub returns-in-Ok-clause-listed : goal.returns-in-Ok-clause-listed
returns-in-Ok-clause-listed g c =
    let hash = λ (e : g.row.E.Denot). hash_in g.H.Hashes.hash_of c.args.self.now (g.E.Keyed.key_of e) in
    let size = narrow-is c.args.self.now c.max-count.ensures c.minimum.ensures.value c.buckets_for.ensures.size c.len.ensures.len c.buckets_for-2.ensures.size in
    let may = narrow-may size hash c.buckets_for.ensures.array c.buckets_for-2.ensures.array c.requires.few (omega (arith, c.bucket_count-present.ensures.count)) (c.is_short_in.ensures.0 (search rules)) in
    let bounded = c.resize_to.ensures.bounded c.requires.listed.bounded (short-listed hash c.args.self.now c.requires.listed) in
    listed-anew (λ s (e : g.row.E.Denot). g.H.Hashes.hash_of s.hasher (g.E.Keyed.key_of e)) c.args.self.now c.resize_to.new.self c.resize_to.ensures.settings (narrowed-listed hash may c.in-Ok.ensures.lists bounded)

pub returns-in-Ok-clause-spreads : goal.returns-in-Ok-clause-spreads
returns-in-Ok-clause-spreads g c =
    let hash = λ (e : g.row.E.Denot). hash_in g.H.Hashes.hash_of c.args.self.now (g.E.Keyed.key_of e) in
    let size = narrow-is c.args.self.now c.max-count.ensures c.minimum.ensures.value c.buckets_for.ensures.size c.len.ensures.len c.buckets_for-2.ensures.size in
    let may = narrow-may size hash c.buckets_for.ensures.array c.buckets_for-2.ensures.array c.requires.few (omega (arith, c.bucket_count-present.ensures.count)) (c.is_short_in.ensures.0 (search rules)) in
    spreads-all c.args.self.now c.resize_to.new.self c.max-count.result c.in-Ok.ensures.lists.count (λ e. absurd (omega (arith, c.bucket_count-present.ensures.count))) c.in-Ok.ensures.pending (c.max-count.result, may)

pub returns-in-Err-clause-shrinks : goal.returns-in-Err-clause-shrinks
returns-in-Err-clause-shrinks g c =
    let hash = λ (e : g.row.E.Denot). hash_in g.H.Hashes.hash_of c.args.self.now (g.E.Keyed.key_of e) in
    let size = narrow-is c.args.self.now c.max-count.ensures c.minimum.ensures.value c.buckets_for.ensures.size c.len.ensures.len c.buckets_for-2.ensures.size in
    let may = narrow-may size hash c.buckets_for.ensures.array c.buckets_for-2.ensures.array c.requires.few (omega (arith, c.bucket_count-present.ensures.count)) (c.is_short_in.ensures.0 (search rules)) in
    let bounded = c.resize_to.ensures.bounded c.requires.listed.bounded (short-listed hash c.args.self.now c.requires.listed) in
    denied_narrow c.max-count.result may c.in-Err.ensures.up (λ up. absurd (true≢false (sym up ∙ c.resize_to.ensures.unmarked))) (record { lists = c.in-Err.ensures.still; settings = c.resize_to.ensures.settings; spilled = bounded ∙ sym c.requires.listed.bounded })

pub returns-in-Err-clause-listed : goal.returns-in-Err-clause-listed
returns-in-Err-clause-listed g c =
    let a = c.args.self.now in
    let h = c.requires.listed in
    listed-later (λ s (e : g.row.E.Denot). g.H.Hashes.hash_of s.hasher (g.E.Keyed.key_of e)) a c.resize_to.new.self c.in-Err.ensures.still c.resize_to.ensures.settings (c.resize_to.ensures.bounded h.bounded (short-listed _ a h)) h

pub returns-in-Err-clause-spreads : goal.returns-in-Err-clause-spreads
returns-in-Err-clause-spreads g c =
    let hash = λ (e : g.row.E.Denot). hash_in g.H.Hashes.hash_of c.args.self.now (g.E.Keyed.key_of e) in
    let size = narrow-is c.args.self.now c.max-count.ensures c.minimum.ensures.value c.buckets_for.ensures.size c.len.ensures.len c.buckets_for-2.ensures.size in
    let may = narrow-may size hash c.buckets_for.ensures.array c.buckets_for-2.ensures.array c.requires.few (omega (arith, c.bucket_count-present.ensures.count)) (c.is_short_in.ensures.0 (search rules)) in
    let r = c.in-Err.ensures in
    spreads-less c.args.self.now c.resize_to.new.self (count-same c.args.self.now c.resize_to.new.self r.still) r.fewer r.less (c.max-count.result, may)

pub returns-then-not-is_short_in-clause-shrinks : goal.returns-then-not-is_short_in-clause-shrinks
returns-then-not-is_short_in-clause-shrinks g c =
    let size = narrow-is c.args.self.now c.max-count.ensures c.minimum.ensures.value c.buckets_for.ensures.size c.len.ensures.len c.buckets_for-2.ensures.size in
    let hash = λ (e : g.row.E.Denot). hash_in g.H.Hashes.hash_of c.args.self.now (g.E.Keyed.key_of e) in
    stays_wide (λ m may.
    let same = narrow-only size may.smaller in
    let yes = c.is_short_in.ensures.1 (subst (λ k. (i : ℕ) → i < k → length (destined_for hash (settings_of c.args.self.now).skipped k i (entries c.args.self.now)) ≤ 32) same may.short) in search rules) refl
