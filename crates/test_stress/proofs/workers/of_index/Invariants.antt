use Rattle.std.proofs.Common.{Some}
use Rattle.scc_recorded.specs.Setups.{request_of}
use Rattle.test_stress.proofs.workers.of_index.Given as goal

abbrev pub ghosts-work_on_index-L-Ledger : goal.ghosts-work_on_index-L-Ledger
ghosts-work_on_index-L-Ledger g a = record { name = a.receipts.name; parts = a.receipts.parts }

abbrev pub ghosts-work_on_index-M-Ledger : goal.ghosts-work_on_index-M-Ledger
ghosts-work_on_index-M-Ledger g a = record { name = a.records.name; parts = a.records.parts }

abbrev pub ghosts-work_on_index-M-Site : goal.ghosts-work_on_index-M-Site
ghosts-work_on_index-M-Site g a = record { chosen = Some (request_of 0 128 a.hasher 1); all = 1 }
