use Rattle.std.proofs.Common.{◌≡◌, ◌∙◌, ◌*◌, ◌/◌, ◌<◌, ◌≤◌, length, ap, subst, sym, mul_comm, arith}
use native.Mathlib.Decide.{dec_lt}
use Rattle.scc_common.specs.Contents.{bucket_count, entries, hash_in, settings_of}
use Rattle.scc_buckets.specs.Pour.{destined_for}
use Rattle.scc_table.proofs.relocations.ShortLists.{even-parts}
use Rattle.scc_table.proofs.Table.is_short_in.Goals as goal

pub joined_len-requires-clause-spread : goal.joined_len-requires-clause-spread
joined_len-requires-clause-spread g c =
    let n = c.args.count in
    let parts = even-parts (bucket_count c.args.self.now) n c.requires.listed.lawful c.requires.array c.requires.fewer in
    ap (λ m. n * (m / n)) c.bucket_count.ensures.count ∙ mul_comm n (bucket_count c.args.self.now / n) ∙ parts.0

pub joined_len-requires-clause-some : goal.joined_len-requires-clause-some
joined_len-requires-clause-some g c =
    let n = c.args.count in
    let parts = even-parts (bucket_count c.args.self.now) n c.requires.listed.lawful c.requires.array c.requires.fewer in
    subst (λ m. 0 < m / n) (sym c.bucket_count.ensures.count) parts.1

pub loop-target-preserved : goal.loop-target-preserved
loop-target-preserved g c =
    let a = c.args.self.now in
    let hash = λ (e : g.row.E.Denot). hash_in g.H.Hashes.hash_of a (g.E.Keyed.key_of e) in
    λ i l. elim (dec_lt i c.loop-target.target) [
      | yes q ↦ c.loop-target.invariant i q
      | no q ↦ let at : c.loop-target.target ≡ i = omega arith in subst (λ m. length (destined_for hash (settings_of a).skipped c.args.count m (entries a)) ≤ 32) at (omega (arith, c.joined_len.ensures))
    ]
