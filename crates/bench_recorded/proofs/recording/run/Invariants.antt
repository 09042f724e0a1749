use Rattle.std.proofs.Common.{Some}
use Rattle.scc_recorded.specs.Setups.{request_of}
use Rattle.bench_recorded.proofs.recording.run.Given as goal

abbrev pub ghosts-run_in-L-Ledger : goal.ghosts-run_in-L-Ledger
ghosts-run_in-L-Ledger g a = record { name = a.receipts.name; parts = a.receipts.parts }

abbrev pub ghosts-run_in-M-Ledger : goal.ghosts-run_in-M-Ledger
ghosts-run_in-M-Ledger g a = record { name = a.records.name; parts = a.records.parts }

abbrev pub ghosts-run_in-M-Site : goal.ghosts-run_in-M-Site
ghosts-run_in-M-Site g a = record { chosen = Some (request_of 0 0 a.hasher 16); all = 16 }
