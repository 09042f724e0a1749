use Rattle.std.proofs.Common.{◌==◌, ◌<◌, ◌∙◌, sym, ap, rules, arith}
use Rattle.std.specs.List.{count_by}
use Rattle.scc_common.specs.Contents.{entries, bucket_count, bucket_of, hash_in, settings_of}
use Rattle.scc_common.specs.Routing.{bucket_number}
use Rattle.scc_table.proofs.places.OneList.{count-listed}
use Rattle.scc_table.proofs.Table.has_room.Goals as goal

pub returns : goal.returns
returns g c =
    let now = c.args.self.now in
    let hk = hash_in g.H.Hashes.hash_of now in
    let hash = λ (e : g.row.E.Denot). hk (g.E.Keyed.key_of e) in
    let i = c.bucket_at.result in
    let n = ap (λ m. count_by (λ (e : g.row.E.Denot). bucket_of hk now (g.E.Keyed.key_of e) == m) (entries now)) (sym (c.bucket_at.ensures.value ∙ ap (bucket_number (settings_of now).skipped (bucket_count now)) c.hash.ensures)) ∙ count-listed hash now i c.bucket_at.ensures.routed in
    let some : 0 < bucket_count now = omega (arith, c.bucket_count.ensures.count, c.if-bucket_count-eq0.false) in
    (λ yes. let l : c.list_len.result < 32 = search rules in (some, omega (arith, n, c.list_len.ensures.len)), λ room. let l : c.list_len.result < 32 = omega (arith, n, c.list_len.ensures.len, room.1) in search rules)
