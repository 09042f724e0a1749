use Rattle.std.proofs.Common.{map, []}
use Rattle.std.specs.Prelude.{slice_index_or}
use Rattle.scc_history.specs.Receipts.{seen}
use Rattle.scc_recorded.proofs.ComparingLemmas.{Least}
use Rattle.scc_recorded.proofs.checks.first_disagreement.Given as goal

abbrev pub invariant-loop-k : goal.invariant-loop-k
invariant-loop-k g l = Least g.C.Call.PartialEq.eq g.C.Reply.PartialEq.eq (λ p. p.log.number) (λ p. p.log.receipts.items) l.passes (λ n. slice_index_or (map (λ v. map seen v.items) l.records) n []) l.k l.first
