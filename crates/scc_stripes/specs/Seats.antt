-- Which stripe an entry has locked.
use Rattle.std.specs.Prelude.{◌≡◌, ◌<◌, ℕ, suc}
use Rattle.std.specs.Hash.{HashWrites}
use Rattle.std.specs.declared.hash.Hasher as hasher
use Rattle.std.specs.declared.hash.BuildHasher as builder
use Rattle.scc_common.specs.Routing.{stripe_of}
use Rattle.scc_stripes.specs.declared.seats.Seat.{Seat}
use Rattle.scc_stripes.specs.declared.Striped.{Striped}
use Rattle.scc_stripes.specs.Stripes.{stripe_count, stripes_hasher}

module _ {O H : Type 0} where
  -- the number of the stripe of a seat
  abbrev pub seat_stripe : Seat O H → ℕ
  seat_stripe s = s.stripe

  -- the stripes to which a seat belongs
  abbrev pub seat_stripes : Seat O H → Striped O H
  seat_stripes s = s.stripes.now

  -- s is the seat of the stripe `number` of `stripes`
  pub record IsSeatIn (stripes : Striped O H) (number : ℕ) (s : Seat O H) : Type 0 where
    pub among : seat_stripes s ≡ stripes
    pub stripe : seat_stripe s ≡ number
    pub within : number < stripe_count stripes

  -- t is the seat of the stripe after that of s, among the same stripes
  pub record IsNextSeat (s t : Seat O H) : Type 0 where
    pub among : seat_stripes t ≡ seat_stripes s
    pub next : seat_stripe t ≡ suc (seat_stripe s)
    pub within : seat_stripe t < stripe_count (seat_stripes t)

  -- t is the seat of a stripe after that of s, among the same stripes
  pub record IsLaterSeat (s t : Seat O H) : Type 0 where
    pub among : seat_stripes t ≡ seat_stripes s
    pub later : seat_stripe s < seat_stripe t
    pub within : seat_stripe t < stripe_count (seat_stripes t)

module _ {O H T K : Type 0} (build : builder.Ghosts H T) (feed : hasher.Ghosts T) (input : K → HashWrites) where
  -- s is the seat of the stripe of k
  abbrev pub IsSeatOfKey : Striped O H → K → Seat O H → Type 0
  IsSeatOfKey stripes k s = IsSeatIn stripes (stripe_of build feed input (stripes_hasher stripes) (stripe_count stripes) k) s
