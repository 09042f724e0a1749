use denote.Param.Send.{IsSend}
use denote.RattleType.{RattleType}
use Rattle.scc_slots.proofs.Crossing.{row-send}
use Rattle.scc_slots.specs.contracts.row.Row.{the_row}

pub send : (R : RattleType) → IsSend R → IsSend (the_row R)
send = row-send
