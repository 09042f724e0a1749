use Rattle.std.proofs.Common.{Some}
use Rattle.scc_recorded.specs.Setups.{request_of}
use Rattle.example_audit.proofs.recorded.record.Given as goal

abbrev pub ghosts-record_in-L-Ledger : goal.ghosts-record_in-L-Ledger
ghosts-record_in-L-Ledger g a = record { name = a.receipts.name; parts = a.receipts.parts }

abbrev pub ghosts-record_in-M-Ledger : goal.ghosts-record_in-M-Ledger
ghosts-record_in-M-Ledger g a = record { name = a.records.name; parts = a.records.parts }

abbrev pub ghosts-record_in-M-Site : goal.ghosts-record_in-M-Site
ghosts-record_in-M-Site g a = record { chosen = Some (request_of 0 0 a.hasher 4); all = 4 }
