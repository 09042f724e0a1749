use denote.Param.Send.{IsSend, Frees}
use denote.RattleType.{RattleType}
use Rattle.core.specs.declared.alloc.Allocator.{Ghosts}
use Rattle.scc_slots.proofs.Crossing.{right-send}
use Rattle.scc_slots.specs.contracts.row.Right.{the_row}

pub send : (R A : RattleType) (g : Ghosts A.Denot) → IsSend A → Frees g g.dealloc_token → IsSend (the_row R A g)
send R A g s = right-send R A g
