use Rattle.std.proofs.Common.{◌≡◌, ℕ, ◌⊎◌, inl, inr, ◌≤◌, ◌+◌, ◌*◌, ◌^◌, ◌∙◌, sym, ap, arith, rules, length}
use Rattle.std.specs.List.{sum_by}
use Rattle.scc_array.specs.Shelf.{Shelf, shelf_entries}
use Rattle.scc_common.specs.Contents.{entries, bucket_count, hash_in, overflow_of}
use Rattle.scc_buckets.specs.Tables.{overflow_in}
use Rattle.scc_draining.specs.Moves.{AreMultiples}
use Rattle.scc_table.proofs.arrays.Lists.{owed-most, len-fits, length-together, none-owed}
use Rattle.scc_table.proofs.Table.len.Goals as goal

pub overflow_add-result : goal.overflow_add-result
overflow_add-result g c =
    let t = c.self.inside in
    let cur = t.current in
    let ws = t.draining.waiting.items in
    let olds = t.draining.array in
    let inv = c.self.invariant in
    let hk = hash_in g.H.Hashes.hash_of cur in
    let hash = λ (e : g.row.E.Denot). hk (g.E.Keyed.key_of e) in
    let f : Shelf g.row.E.Denot → ℕ = λ b. length (shelf_entries b) in
    let left : sum_by f olds ≤ 32 * length olds + overflow_in olds = owed-most olds (λ j l. (inv.arrays.own.own j l).within) in
    let many : (t.draining.left ≡ 0) ⊎ ((length olds ≤ 2 ^ 58) × AreMultiples (length olds) (bucket_count cur)) = elim inv.arrays.multiples [
      | inl z ↦ inl (inv.left_is ∙ none-owed hash cur ws olds inv.arrays z)
      | inr m ↦ elim inv.arrays.sized [ inl z ↦ inl (inv.left_is ∙ none-owed hash cur ws olds inv.arrays z) | inr a ↦ inr (a.most, m) ]
    ] in
    let wide : bucket_count cur ≤ 2 ^ 58 = c.len.ensures.wide in
    let fits = len-fits (length olds) (bucket_count cur) c.len.result t.draining.left (overflow_of cur) (overflow_in olds) t.draining.left_overflow wide many c.len.ensures.most (omega (arith, inv.left_is)) inv.overflow_is inv.few in
    search rules

pub returns-clause-len : goal.returns-clause-len
returns-clause-len g c =
    let t = c.self.inside in
    let cur = t.current in
    let ws = t.draining.waiting.items in
    let olds = t.draining.array in
    let inv = c.self.invariant in
    let hk = hash_in g.H.Hashes.hash_of cur in
    let hash = λ (e : g.row.E.Denot). hk (g.E.Keyed.key_of e) in
    let all = length-together hash cur ws olds inv.arrays in
    let seen = ap (λ d. length (entries d)) (sym c.self.view_is) in
    omega (arith, c.len.ensures.len, inv.left_is)
