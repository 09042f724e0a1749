use Rattle.std.proofs.Common.{◌≡◌}
use Rattle.scc_buckets.specs.Places as spots
use Rattle.scc_table.proofs.Table.place_past.Given as goal

abbrev pub invariant-loop-next : goal.invariant-loop-next
invariant-loop-next g l = spots.index_of_spot l.self (record { bucket = l.next; slot = 0 }) ≡ spots.index_of_spot l.self (record { bucket = l.bucket; slot = 0 })
