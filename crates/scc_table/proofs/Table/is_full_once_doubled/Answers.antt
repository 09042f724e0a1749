use Rattle.std.proofs.Common.{◌≡◌, ◌∙◌, ℕ, ◌*◌, ◌<◌, false, length, take, sym, ap, arith, rules}
use Rattle.std.proofs.lemmas.List.{take_all}
use Rattle.scc_common.specs.Contents.{bucket_count, hash_in, list_of, settings_of, Settings}
use Rattle.scc_buckets.specs.Pour.{destined_for}
use Rattle.scc_common.specs.Routing.{bucket_number}
use Rattle.scc_table.specs.TwoArrays.{waits_at}
use Rattle.scc_table.proofs.resizes.Doubling.{destined-few}
use Rattle.scc_table.proofs.places.OldSpots.{own-list}
use Rattle.scc_table.proofs.arrays.Views.{count-seen, settings-seen, waiting-seen}
use Rattle.scc_table.proofs.Table.is_full_once_doubled.Goals as goal

pub count_destined-requires-clause-within : goal.count_destined-requires-clause-within
count_destined-requires-clause-within g c =
    let t = c.self.inside in
    let count = count-seen _ t.current t.draining.waiting.items t.draining.array c.args.self.now c.self.view_is c.self.invariant.arrays.flags in
    omega (arith, count, c.requires.within)

pub count_destined-requires-clause-first : goal.count_destined-requires-clause-first
count_destined-requires-clause-first g c =
    let t = c.self.inside in
    let a = c.args.self.now in
    let i = c.args.bucket in
    let count = count-seen _ t.current t.draining.waiting.items t.draining.array a c.self.view_is c.self.invariant.arrays.flags in
    let down : waits_at t.draining.waiting.items i ≡ false = ap (λ w. waits_at w i) (sym (waiting-seen _ t.current t.draining.waiting.items t.draining.array a c.self.view_is)) ∙ c.requires.not_waiting in
    let own = ap (λ d. length (list_of d i)) (sym c.self.view_is) ∙ ap length (own-list _ t.current t.draining.waiting.items t.draining.array c.self.invariant.arrays i (omega (arith, count, c.requires.within)) down) in
    omega (arith, own, c.list_len-entry_count.ensures.len)

pub returns : goal.returns
returns g c =
    let t = c.self.inside in
    let a = c.args.self.now in
    let r = c.bucket_count-count.result in
    let hash = λ (e : g.row.E.Denot). hash_in g.H.Hashes.hash_of a (g.E.Keyed.key_of e) in
    let es = list_of a c.args.bucket in
    let settings = settings-seen _ t.current t.draining.waiting.items t.draining.array a c.self.view_is in
    let s : (settings_of t.current).skipped ≡ (settings_of a).skipped = ap (λ z. z.skipped) (sym settings) in
    let n : 2 * r ≡ 2 * bucket_count a = ap (λ z. 2 * z) c.bucket_count-count.ensures.count in
    let at : c.bucket-target.result ≡ bucket_number (settings_of a).skipped (2 * bucket_count a) c.args.hash =
    rw c.router.ensures at c.bucket-target.ensures.value ∙ ap (λ z. bucket_number z (2 * r) c.args.hash) s ∙ ap (λ z. bucket_number (settings_of a).skipped z c.args.hash) n in
    let i = c.args.bucket in
    let count = count-seen _ t.current t.draining.waiting.items t.draining.array a c.self.view_is c.self.invariant.arrays.flags in
    let down : waits_at t.draining.waiting.items i ≡ false = ap (λ w. waits_at w i) (sym (waiting-seen _ t.current t.draining.waiting.items t.draining.array a c.self.view_is)) ∙ c.requires.not_waiting in
    let own : es ≡ list_of t.current i = ap (λ d. list_of d i) (sym c.self.view_is) ∙ own-list _ t.current t.draining.waiting.items t.draining.array c.self.invariant.arrays i (omega (arith, count, c.requires.within)) down in
    let hashes = λ (s : Settings g.row.H.Denot). let h : g.row.E.Denot → ℕ = λ e. g.H.Hashes.hash_of s.hasher (g.E.Keyed.key_of e) in h in
    let counted = c.count_destined.ensures ∙ ap (λ xs. length (destined_for (hashes (settings_of t.current)) (settings_of t.current).skipped (2 * r) c.bucket-target.result (take c.list_len-entry_count.result xs))) (sym own)
    ∙ ap (λ s. length (destined_for (hashes s) (settings_of t.current).skipped (2 * r) c.bucket-target.result (take c.list_len-entry_count.result es))) (sym settings) in
    let whole : take c.list_len-entry_count.result es ≡ es = take_all c.list_len-entry_count.result es (omega (arith, c.list_len-entry_count.ensures.len)) in
    let same = counted ∙ ap (λ z. length (destined_for hash (settings_of t.current).skipped (2 * r) c.bucket-target.result z)) whole
    ∙ ap (λ z. length (destined_for hash z (2 * r) c.bucket-target.result es)) s ∙ ap (λ z. length (destined_for hash (settings_of a).skipped z c.bucket-target.result es)) n
    ∙ ap (λ z. length (destined_for hash (settings_of a).skipped (2 * bucket_count a) z es)) at in
    let all = destined-few hash a c.args.hash c.args.bucket c.bucket_count-count.ensures.routed c.requires.routed in
    λ no.
    let low : c.count_destined.result < 32 = search rules in
    omega arith
