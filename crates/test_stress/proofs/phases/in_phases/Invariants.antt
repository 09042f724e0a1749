use Rattle.std.proofs.Common.{Some}
use Rattle.scc_recorded.specs.Setups.{request_of}
use Rattle.test_stress.proofs.phases.in_phases.Given as goal

abbrev pub ghosts-work_in_phases-L-Ledger : goal.ghosts-work_in_phases-L-Ledger
ghosts-work_in_phases-L-Ledger g a = record { name = a.receipts.name; parts = a.receipts.parts }

abbrev pub ghosts-work_in_phases-M-Ledger : goal.ghosts-work_in_phases-M-Ledger
ghosts-work_in_phases-M-Ledger g a = record { name = a.records.name; parts = a.records.parts }

abbrev pub ghosts-work_in_phases-M-Site : goal.ghosts-work_in_phases-M-Site
ghosts-work_in_phases-M-Site g a = record { chosen = Some (request_of 0 0 a.hasher 2); all = 2 }
