-- So far the pass has a receipt for each pair.
use Rattle.std.proofs.Common.{◌≡◌, ◌++◌, take, map}
use Rattle.scc_calls.specs.declared.calls_as_values.MapCall.TheVariants.{Upsert}
use Rattle.bench_recorded.proofs.recording.record_all.Given as goal

abbrev pub invariant-loop-key : goal.invariant-loop-key
invariant-loop-key g l = map (λ r. r.call) l.pass.log.receipts.items ≡ map (λ r. r.call) l.fn.pass.log.receipts.items ++ map (λ p. Upsert p.0 p.1) (take l.key-index l.pairs)
