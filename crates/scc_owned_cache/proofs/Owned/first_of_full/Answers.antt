use Rattle.std.proofs.Common.{◌≡◌, ◌∙◌, ◌<◌, ◌≤◌, Some, [], length, sym, subst, arith}
use Rattle.std.specs.List.{slice_get}
use Rattle.std.proofs.lemmas.List.{get_or_past}
use Rattle.scc_common.specs.Contents.{bucket_count, list_of, lists_of, settings_of}
use Rattle.scc_common.specs.Routing.{bucket_number}
use Rattle.scc_table.proofs.relocations.Fields.{count-is, list-is}
use Rattle.scc_owned_cache.proofs.Owned.first_of_full.Goals as goal

pub returns-then-bucket_count-eq0-clause-none : goal.returns-then-bucket_count-eq0-clause-none
returns-then-bucket_count-eq0-clause-none g c =
    let t = c.self.inside.table in
    let i = bucket_number (settings_of t).skipped (bucket_count t) c.args.hash in
    let none : list_of t i ≡ [] = list-is t i ∙ get_or_past (lists_of t) i [] (omega (arith, count-is t)) in
    rw (← c.self.view_is) (subst (λ l. length l < 32) (sym none) (omega arith))

pub returns-clause-some : goal.returns-clause-some
returns-clause-some g c =
    let t = c.self.inside.table in
    let at : c.bucket_at-bucket.result ≡ bucket_number (settings_of t).skipped (bucket_count t) c.args.hash = c.bucket_at-bucket.ensures.value in
    let many : 32 ≤ length (list_of t c.bucket_at-bucket.result) = omega (arith, c.list_len.ensures.len, c.if-list_len-lt32.false) in
    rw (← c.self.view_is) (subst (λ i. (32 ≤ length (list_of t i)) × (slice_get (list_of t i) 0 ≡ Some (c.parts.result.0.now, c.parts.result.1.now))) at (many, rw (c.parts.ensures.key, c.parts.ensures.value) c.first_entry.ensures))
