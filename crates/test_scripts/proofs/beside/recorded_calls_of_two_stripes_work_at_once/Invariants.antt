use Rattle.std.proofs.Common.{Some}
use Rattle.scc_recorded.specs.Setups.{request_of}
use Rattle.test_scripts.proofs.beside.recorded_calls_of_two_stripes_work_at_once.Given as goal

abbrev pub ghosts-works_at_once-L-Ledger : goal.ghosts-works_at_once-L-Ledger
ghosts-works_at_once-L-Ledger g a = record { name = a.receipts.name; parts = a.receipts.parts }

abbrev pub ghosts-works_at_once-M-Ledger : goal.ghosts-works_at_once-M-Ledger
ghosts-works_at_once-M-Ledger g a = record { name = a.records.name; parts = a.records.parts }

abbrev pub ghosts-works_at_once-M-Site : goal.ghosts-works_at_once-M-Site
ghosts-works_at_once-M-Site g a = record { chosen = Some (request_of 0 0 a.hasher 2); all = 2 }
