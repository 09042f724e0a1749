use denote.Param.Send.{IsSync}
use denote.RattleType.{RattleType}
use Rattle.scc_slots.proofs.Crossing.{row-sync}
use Rattle.scc_slots.specs.contracts.row.Row.{the_row}

pub sync : (R : RattleType) → IsSync R → IsSync (the_row R)
sync = row-sync
