use Rattle.std.proofs.Common.{◌≡◌, ◌<◌, ◌∙◌, false, sym, ap, arith, length}
use native.Mathlib.Decide.{dec_lt}
use Rattle.std.proofs.lemmas.List.{get_or_read}
use Rattle.scc_draining.specs.Waiting.{waits_at}
use Rattle.scc_draining.proofs.Flags.{all-down}
use Rattle.scc_draining.proofs.draining.Draining.first_waiting.Goals as goal

pub loop-bucket-init : goal.loop-bucket-init
loop-bucket-init g c = c.requires.below

pub returns-then-index : goal.returns-then-index
returns-then-index g c =
    let ws = c.args.self.now.waiting.items in
    let l : c.loop-bucket.bucket < length ws = omega (arith, c.len-bucket-end.ensures) in
    let here : c.index.result.now ≡ waits_at ws c.loop-bucket.bucket = get_or_read ws c.loop-bucket.bucket c.index.result.now l c.index.ensures false in
    record { waits = sym here ∙ c.if-index.true; below = c.loop-bucket.invariant }

pub loop-bucket-preserved : goal.loop-bucket-preserved
loop-bucket-preserved g c =
    let ws = c.args.self.now.waiting.items in
    let l : c.loop-bucket.bucket < length ws = omega (arith, c.len-bucket-end.ensures) in
    let here : c.index.result.now ≡ waits_at ws c.loop-bucket.bucket = get_or_read ws c.loop-bucket.bucket c.index.result.now l c.index.ensures false in
    λ j lj. elim (dec_lt j c.loop-bucket.bucket) [
      | yes q ↦ c.loop-bucket.invariant j q
      | no q ↦ let same : j ≡ c.loop-bucket.bucket = omega arith in ap (waits_at ws) same ∙ sym here ∙ c.if-index.false
    ]

pub unreachable-requires : goal.unreachable-requires
unreachable-requires g c =
    let down = all-down c.args.self.now.waiting.items (λ k l. c.loop-bucket.invariant k (omega (arith, c.len-bucket-end.ensures))) in
    omega (arith, c.requires.some, down)
