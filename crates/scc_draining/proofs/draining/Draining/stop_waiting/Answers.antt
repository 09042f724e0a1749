use Rattle.std.proofs.Common.{◌≡◌, false, set, arith}
use Rattle.std.specs.List.{count_by}
use Rattle.scc_buckets.proofs.Bare.{all-bare}
use Rattle.scc_draining.proofs.Flags.{one-down, up-within}
use Rattle.scc_draining.proofs.draining.Draining.stop_waiting.Goals as goal

pub destroy_empty-requires : goal.destroy_empty-requires
destroy_empty-requires g c =
    let o = c.args.self.now in
    let ws = o.waiting.items in
    let fewer = one-down ws c.args.bucket (up-within ws c.args.bucket c.requires.waits) c.requires.waits in
    let none : count_by (λ w. w) (set ws c.args.bucket false) ≡ 0 = omega (arith, fewer, c.requires.counted, c.if-self-eq0.true) in
    λ i l. rw c.replace-bare.ensures.value (all-bare o.array (c.requires.bare none) i)
