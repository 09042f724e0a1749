use Rattle.std.proofs.Common.{◌≡◌, ◌≤◌}
use Rattle.scc_stripes.specs.Seats.{seat_stripe}
use Rattle.scc_owned.proofs.locked.walk.first_later.Given as goal

abbrev pub invariant-loop : goal.invariant-loop
invariant-loop g l = record {
  among : l.seat.stripes.now ≡ l.fn.seat.stripes.now;
  reached : seat_stripe l.fn.seat ≤ seat_stripe l.seat;
}
