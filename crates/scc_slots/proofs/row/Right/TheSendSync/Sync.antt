use denote.Param.Send.{IsSync}
use denote.RattleType.{RattleType}
use Rattle.core.specs.declared.alloc.Allocator.{Ghosts}
use Rattle.scc_slots.proofs.Crossing.{right-sync}
use Rattle.scc_slots.specs.contracts.row.Right.{the_row}

pub sync : (R A : RattleType) (g : Ghosts A.Denot) → IsSync (the_row R A g)
sync = right-sync
