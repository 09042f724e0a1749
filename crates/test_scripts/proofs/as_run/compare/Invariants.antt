use Rattle.std.proofs.Common.{Some}
use Rattle.scc_recorded.specs.Setups.{request_of}
use Rattle.test_scripts.proofs.as_run.compare.Given as goal

abbrev pub ghosts-record-L-Ledger : goal.ghosts-record-L-Ledger
ghosts-record-L-Ledger g a = record { name = a.receipts.name; parts = a.receipts.parts }

abbrev pub ghosts-record-M-Ledger : goal.ghosts-record-M-Ledger
ghosts-record-M-Ledger g a = record { name = a.records.name; parts = a.records.parts }

abbrev pub ghosts-record-M-Site : goal.ghosts-record-M-Site
ghosts-record-M-Site g a = record { chosen = Some (request_of 0 128 a.hasher 1); all = 1 }
