use Rattle.std.proofs.Common.{Some}
use Rattle.scc_recorded.specs.Setups.{request_of}
use Rattle.test_stress.proofs.workers.of_map.Given as goal

abbrev pub ghosts-work_on_map-L-Ledger : goal.ghosts-work_on_map-L-Ledger
ghosts-work_on_map-L-Ledger g a = record { name = a.receipts.name; parts = a.receipts.parts }

abbrev pub ghosts-work_on_map-M-Ledger : goal.ghosts-work_on_map-M-Ledger
ghosts-work_on_map-M-Ledger g a = record { name = a.records.name; parts = a.records.parts }

abbrev pub ghosts-work_on_map-M-Site : goal.ghosts-work_on_map-M-Site
ghosts-work_on_map-M-Site g a = record { chosen = Some (request_of 0 128 a.hasher 1); all = 1 }
