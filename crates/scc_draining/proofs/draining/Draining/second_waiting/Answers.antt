use Rattle.std.proofs.Common.{◌≡◌, ◌<◌, ◌∙◌, false, length, sym, ap, arith}
use native.Mathlib.Decide.{dec_lt}
use Rattle.std.proofs.lemmas.List.{get_or_past, get_or_read}
use Rattle.scc_draining.specs.Waiting.{waits_at}
use Rattle.scc_draining.proofs.Flags.{up-within}
use Rattle.scc_draining.proofs.draining.Draining.second_waiting.Goals as goal

pub overflow_step-bucket : goal.overflow_step-bucket
overflow_step-bucket g c =
    let within = up-within c.args.self.now.waiting.items c.first_waiting-first.result c.first_waiting-first.ensures.waits in
    omega (arith, within, c.len-end.ensures)

pub loop-bucket-init : goal.loop-bucket-init
loop-bucket-init g c = λ j l m. absurd (omega arith)

pub returns-then-index-clause-second : goal.returns-then-index-clause-second
returns-then-index-clause-second g c =
    let ws = c.args.self.now.waiting.items in
    let l : c.loop-bucket.bucket < length ws = omega (arith, c.len-end.ensures) in
    let here = get_or_read ws c.loop-bucket.bucket c.index.result.now l c.index.ensures false in (
      c.first_waiting-first.result,
      record {
        first = c.first_waiting-first.ensures;
        behind = omega arith;
        waits = sym here ∙ c.if-index.true;
        between = c.loop-bucket.invariant;
      },
    )

pub loop-bucket-preserved : goal.loop-bucket-preserved
loop-bucket-preserved g c =
    let ws = c.args.self.now.waiting.items in
    let l : c.loop-bucket.bucket < length ws = omega (arith, c.len-end.ensures) in
    let here = get_or_read ws c.loop-bucket.bucket c.index.result.now l c.index.ensures false in
    λ j more lj. elim (dec_lt j c.loop-bucket.bucket) [
      | yes q ↦ c.loop-bucket.invariant j more q
      | no q ↦ let same : j ≡ c.loop-bucket.bucket = omega arith in ap (waits_at ws) same ∙ sym here ∙ c.if-index.false
    ]

pub returns-clause-lone : goal.returns-clause-lone
returns-clause-lone g c =
    let ws = c.args.self.now.waiting.items in (
      c.first_waiting-first.result,
      record {
        first = c.first_waiting-first.ensures;
        after = λ j more. elim (dec_lt j (length ws)) [
          | yes q ↦ c.loop-bucket.invariant j more (omega (arith, c.len-end.ensures))
          | no q ↦ get_or_past ws j false (omega arith)
        ];
      },
    )
