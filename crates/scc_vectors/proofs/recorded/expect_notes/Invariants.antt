use Rattle.std.proofs.Common.{Some}
use Rattle.scc_recorded.specs.Setups.{request_of}
use Rattle.scc_vectors.proofs.recorded.expect_notes.Given as goal

abbrev pub ghosts-play-L-Ledger : goal.ghosts-play-L-Ledger
ghosts-play-L-Ledger g a = record { name = a.receipts.name; parts = a.receipts.parts }

abbrev pub ghosts-play-M-Ledger : goal.ghosts-play-M-Ledger
ghosts-play-M-Ledger g a = record { name = a.records.name; parts = a.records.parts }

abbrev pub ghosts-play-M-Site : goal.ghosts-play-M-Site
ghosts-play-M-Site g a = record { chosen = Some (request_of 0 0 a.hasher 2); all = 2 }
