use Rattle.std.proofs.Common.{◌≡◌, ◌∙◌, ◌+◌, ◌*◌, ◌^◌, ◌<◌, ◌≤◌, inl, inr, ap, sym, length, arith}
use Rattle.scc_common.specs.Contents.{bucket_count, hash_in, settings_of}
use Rattle.scc_buckets.specs.Pour.{destined_for}
use Rattle.scc_table.proofs.relocations.ShortLists.{entries_until, joined-start, joined-more, joined-end, row-within}
use Rattle.scc_table.proofs.Table.joined_len.Goals as goal

pub overflow_mul-first : goal.overflow_mul-first
overflow_mul-first g c =
    let row = row-within c.args.target c.args.count c.args.spread c.requires.within in
    let most : bucket_count c.args.self.now ≤ 2 ^ 58 = elim c.requires.listed.lawful [ inl z ↦ omega arith | inr z ↦ z.most ] in
    record { fits = omega (arith, c.requires.spread) }

pub loop-bucket-init : goal.loop-bucket-init
loop-bucket-init g c =
    let hash = λ (e : g.row.E.Denot). hash_in g.H.Hashes.hash_of c.args.self.now (g.E.Keyed.key_of e) in
    record { total = sym (joined-start hash c.args.self.now c.requires.listed c.args.count c.args.spread c.requires.spread c.requires.some c.args.target); few = omega arith }

pub list_len-total-requires : goal.list_len-total-requires
list_len-total-requires g c =
    let row = row-within c.args.target c.args.count c.args.spread c.requires.within in
    omega (arith, c.requires.spread)

pub loop-bucket-preserved : goal.loop-bucket-preserved
loop-bucket-preserved g c =
    let a = c.args.self.now in
    let k = c.loop-bucket.bucket in
    let hash = λ (e : g.row.E.Denot). hash_in g.H.Hashes.hash_of a (g.E.Keyed.key_of e) in
    let row = row-within c.args.target c.args.count c.args.spread c.requires.within in
    let within : k < bucket_count a = omega (arith, c.requires.spread) in
    let more = joined-more hash a c.requires.listed c.args.count c.args.spread c.requires.spread c.requires.some c.args.target k (omega arith) (omega arith) within in
    let less = c.requires.listed.short k in
    record { total = omega (arith, more, c.loop-bucket.invariant.total, c.list_len-total.ensures.len); few = omega (arith, c.loop-bucket.invariant.few, c.list_len-total.ensures.len) }

pub returns : goal.returns
returns g c =
    let a = c.args.self.now in
    let hash = λ (e : g.row.E.Denot). hash_in g.H.Hashes.hash_of a (g.E.Keyed.key_of e) in
    let upper = c.loop-bucket.auto.bucket-end (omega arith) in
    let at : c.loop-bucket.bucket ≡ c.args.target * c.args.spread + c.args.spread = omega arith in
    c.loop-bucket.invariant.total ∙ ap (λ m. length (destined_for hash (settings_of a).skipped c.args.count c.args.target (entries_until a m))) at
    ∙ joined-end hash a c.requires.listed c.args.count c.args.spread c.requires.spread c.requires.some c.args.target
