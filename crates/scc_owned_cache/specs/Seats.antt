-- Which stripe an entry of a shared cache holds.
use Rattle.std.specs.Prelude.{ℕ}
use Rattle.std.specs.declared.cmp.PartialEq as eq
use Rattle.std.specs.declared.hash.Hash as hash
use Rattle.std.specs.declared.hash.Hasher as hasher
use Rattle.std.specs.declared.hash.BuildHasher as builder
use Rattle.scc_common.specs.declared.rule.Rule as rule
use Rattle.scc_common.specs.declared.guard.Guard as guard
use Rattle.scc_stripes.specs.Seats.{seat_stripe}
use Rattle.scc_stripes.specs.declared.seats.Seat.{Seat}
use Rattle.scc_owned_cache.specs.Caches.{Cached}
use Rattle.scc_owned_cache.specs.declared.held.HeldOccupied.{HeldOccupied}
use Rattle.scc_owned_cache.specs.declared.held.HeldVacant.{HeldVacant}
use Rattle.scc_owned_cache.specs.declared.held.HeldEntry.{HeldEntry}
use Rattle.scc_owned_cache.specs.declared.held.HeldEntry.TheVariants.{Occupied, Vacant}
use Rattle.scc_owned_cache.specs.declared.held.HeldReplace.{HeldReplace}
use Rattle.scc_owned_cache.specs.declared.held.HeldReplace.TheVariants.{Replaced, NotReplaced}

module _ {G N K V S R T : Type 0} {d : guard.Ghosts G (Cached (K × V) S)} {g : eq.Ghosts K} {h : hash.Ghosts K} {b : builder.Ghosts S T} {rules : rule.Ghosts R K V} {w : hasher.Ghosts T} where
  -- the `rest` of an occupied entry: its seat if the entry holds a stripe
  abbrev pub occupied_rest : HeldOccupied G N K V S R T d g h b w rules → N
  occupied_rest o = o.rest

  -- the `rest` of a vacant entry
  abbrev pub vacant_rest : HeldVacant G N K V S R T d g h b w rules → N
  vacant_rest e = e.rest

  -- the `rest` of an entry
  abbrev pub entry_rest : HeldEntry G N K V S R T d g h b w rules → N
  entry_rest (Occupied o) = o.rest
  entry_rest (Vacant e) = e.rest

  -- the `rest` of the result of a replacement
  abbrev pub replaced_rest : HeldReplace G N K V S R T d g h b w rules → N
  replaced_rest (Replaced o k) = o.rest
  replaced_rest (NotReplaced e) = e.rest

module _ {G O H K V S R T : Type 0} {d : guard.Ghosts G (Cached (K × V) S)} {g : eq.Ghosts K} {h : hash.Ghosts K} {b : builder.Ghosts S T} {rules : rule.Ghosts R K V} {w : hasher.Ghosts T} where
  -- the number of the stripe that an occupied entry holds
  abbrev pub occupied_stripe : HeldOccupied G (Seat O H) K V S R T d g h b w rules → ℕ
  occupied_stripe o = seat_stripe o.rest

  -- the number of the stripe that a vacant entry holds
  abbrev pub vacant_stripe : HeldVacant G (Seat O H) K V S R T d g h b w rules → ℕ
  vacant_stripe e = seat_stripe e.rest
