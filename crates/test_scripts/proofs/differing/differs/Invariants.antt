use Rattle.std.proofs.Common.{Some}
use Rattle.scc_recorded.specs.Setups.{request_of}
use Rattle.test_scripts.proofs.differing.differs.Given as goal

abbrev pub ghosts-differs_in-L-Ledger : goal.ghosts-differs_in-L-Ledger
ghosts-differs_in-L-Ledger g a = record { name = a.receipts.name; parts = a.receipts.parts }

abbrev pub ghosts-differs_in-M-Ledger : goal.ghosts-differs_in-M-Ledger
ghosts-differs_in-M-Ledger g a = record { name = a.records.name; parts = a.records.parts }

abbrev pub ghosts-differs_in-M-Site : goal.ghosts-differs_in-M-Site
ghosts-differs_in-M-Site g a = record { chosen = Some (request_of 0 256 a.hasher 1); all = 1 }
