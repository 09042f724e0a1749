use Rattle.std.proofs.Common.{Some}
use Rattle.scc_recorded.specs.Setups.{request_of}
use Rattle.scc_play.proofs.kinds.play_map.Given as goal

abbrev pub ghosts-play_map_in-L-Ledger : goal.ghosts-play_map_in-L-Ledger
ghosts-play_map_in-L-Ledger g a = record { name = a.receipts.name; parts = a.receipts.parts }

abbrev pub ghosts-play_map_in-M-Ledger : goal.ghosts-play_map_in-M-Ledger
ghosts-play_map_in-M-Ledger g a = record { name = a.records.name; parts = a.records.parts }

abbrev pub ghosts-play_map_in-M-Site : goal.ghosts-play_map_in-M-Site
ghosts-play_map_in-M-Site g a = record { chosen = Some (request_of 0 256 a.hasher a.stripes); all = a.stripes }
