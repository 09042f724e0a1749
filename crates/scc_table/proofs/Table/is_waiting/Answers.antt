use Rattle.std.proofs.Common.{◌≡◌, ◌<◌, ◌∙◌, true, false, sym, ap, arith, length}
use Rattle.scc_common.specs.Contents.{bucket_count, waiting_of}
use Rattle.scc_table.specs.TwoArrays.{waits_at}
use Rattle.scc_table.proofs.arrays.JoinedLists.{count-together, waiting-together, flags-length}
use Rattle.scc_table.proofs.Table.is_waiting.Goals as goal

pub is_waiting-requires : goal.is_waiting-requires
is_waiting-requires g c =
    let t = c.self.inside in
    let some : 0 < t.draining.pending = omega arith in
    let long = flags-length t.current t.draining.waiting.items t.draining.pending c.self.invariant.arrays.flags c.self.invariant.counted some in
    let count = ap bucket_count (sym c.self.view_is) ∙ count-together _ t.current t.draining.waiting.items t.draining.array c.self.invariant.arrays.flags in
    let l : c.args.bucket < length t.draining.waiting.items = omega (arith, c.requires) in
    l

pub returns-then-self-eq0 : goal.returns-then-self-eq0
returns-then-self-eq0 g c =
    let t = c.self.inside in
    let flags : waiting_of c.args.self.now ≡ t.draining.waiting.items = ap waiting_of (sym c.self.view_is) ∙ waiting-together _ t.current t.draining.waiting.items t.draining.array in
    let none = flags ∙ c.self.invariant.none c.if-self-eq0.true in
    (λ h. absurd (let z : false ≡ true = h in cc), λ h. ap (λ ws. waits_at ws c.args.bucket) (sym none) ∙ h)

pub returns : goal.returns
returns g c =
    let t = c.self.inside in
    let flags : waiting_of c.args.self.now ≡ t.draining.waiting.items = ap waiting_of (sym c.self.view_is) ∙ waiting-together _ t.current t.draining.waiting.items t.draining.array in
    let both = c.is_waiting.ensures ∙ ap (λ ws. waits_at ws c.args.bucket) (sym flags) in
    (λ h. sym both ∙ h, λ h. both ∙ h)
