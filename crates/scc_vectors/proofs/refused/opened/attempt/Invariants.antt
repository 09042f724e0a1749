use Rattle.std.proofs.Common.{Some}
use Rattle.scc_recorded.specs.Setups.{request_of}
use Rattle.scc_vectors.proofs.refused.opened.attempt.Given as goal

abbrev pub ghosts-open_and_run-L-Ledger : goal.ghosts-open_and_run-L-Ledger
ghosts-open_and_run-L-Ledger g a = record { name = a.receipts.name; parts = a.receipts.parts }

abbrev pub ghosts-open_and_run-M-Ledger : goal.ghosts-open_and_run-M-Ledger
ghosts-open_and_run-M-Ledger g a = record { name = a.records.name; parts = a.records.parts }

abbrev pub ghosts-open_and_run-M-Site : goal.ghosts-open_and_run-M-Site
ghosts-open_and_run-M-Site g a = record { chosen = Some (request_of a.setup.capacity a.setup.maximum a.setup.hasher a.stripes); all = a.stripes }
