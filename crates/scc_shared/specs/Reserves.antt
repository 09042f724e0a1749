-- The slots and the container of a reservation.
use Rattle.std.specs.Prelude.{ℕ}
use Rattle.scc_stripes.specs.Stripes.{reservation_slots}
use Rattle.scc_shared.specs.declared.HashContainer.{HashContainer}
use Rattle.scc_shared.specs.declared.sizes.Reserve.{Reserve}

module _ {E H K T : Type 0} where
  -- the number of slots that r reserves
  abbrev pub reserved_slots : Reserve E H K T → ℕ
  reserved_slots r = reservation_slots r.added

  -- the container in which r reserves slots
  abbrev pub reserved_in : Reserve E H K T → HashContainer E H K T
  reserved_in r = r.of.now
