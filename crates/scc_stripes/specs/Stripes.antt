-- What stripes hold, and the share of each.
use Rattle.std.specs.Prelude.{ℕ, ◌+◌, ◌-◌, ◌/◌, ◌^◌, vec_len}
use Rattle.std.specs.Arc.{arc_value}
use Rattle.scc_stripes.specs.declared.shares.BookReservation.{BookReservation}
use Rattle.scc_stripes.specs.declared.shares.ReserveBook.{ReserveBook}
use Rattle.scc_stripes.specs.declared.Striped.{Striped}

-- the slots that all stripes together were asked for at making
abbrev pub book_slots : ReserveBook → ℕ
book_slots b = b.asked

module _ {O H : Type 0} where
  -- the slots that all stripes together were asked for at making
  abbrev pub stripe_slots : Striped O H → ℕ
  stripe_slots s = book_slots s.book

  -- the number of stripes
  abbrev pub stripe_count : Striped O H → ℕ
  stripe_count s = vec_len s.locks

  -- how many first bits of a hash name the stripe
  abbrev pub stripe_bits : Striped O H → ℕ
  stripe_bits s = s.bits

  -- the hasher, which all stripes share
  abbrev pub stripes_hasher : Striped O H → H
  stripes_hasher s = arc_value s.hasher

-- the number of slots of a reservation
abbrev pub reservation_slots : BookReservation → ℕ
reservation_slots a = a.additional

-- the share of one of 2 ^ bits stripes, rounded up
abbrev pub share_of : ℕ → ℕ → ℕ
share_of bits slots = (slots + (2 ^ bits - 1)) / 2 ^ bits
