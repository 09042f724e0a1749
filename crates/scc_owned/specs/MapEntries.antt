-- The words of the contracts of an entry of a map.
use Rattle.std.specs.Prelude.{◌≡◌, ℕ, zero, suc, Bool, List, [], ◌∷◌, map, ⊤}
use Rattle.std.specs.Borrow.{Fml, RattleType, MutBor, Lends}
use Rattle.std.specs.Fn.{Once, FnOnceTakesAtMut, FnOnceReturnsAtMut}
use Rattle.std.specs.declared.cmp.PartialEq as eq
use Rattle.std.specs.declared.hash.Hash as hash
use Rattle.std.specs.declared.hash.Hasher as hasher
use Rattle.std.specs.declared.hash.BuildHasher as builder
use Rattle.std.proofs.Common.{refl, sym, ap, subst}
use Rattle.scc_array.specs.ShelfWrites.{write_at}
use Rattle.scc_buckets.specs.Placed.{at, at-get}
use Rattle.scc_buckets.specs.declared.place.Place.{Place}
use Rattle.scc_buckets.proofs.WritingTables.{exactly-write}
use Rattle.scc_common.specs.Contents.{Contents, entries, list_of}
use Rattle.scc_common.specs.PairSteps.{SwapsKey}
use Rattle.scc_common.specs.Pairs.{IsUnique, with_pair_value}
use Rattle.scc_common.specs.Steps.{HoldsExactly}
use Rattle.scc_common.specs.declared.guard.Guard as guard
use Rattle.scc_table.specs.Placed.{IsWrittenAt, IsPlace-with_write_at}
use Rattle.scc_table.specs.Places.{IsPlace, spot_of, with_write_at}
use Rattle.scc_owned.specs.Entries.{IsInserted, IsVacantAt}
use Rattle.scc_owned.specs.Insertions.{RestsOfMap}
use Rattle.scc_owned.specs.Held.{Occupied, Vacant, occupied_pair}
use Rattle.scc_owned.specs.Lends.{pair_keys, pair_row}
use Rattle.scc_owned.specs.contracts.held.HeldOccupied.{the_row}
use Rattle.scc_owned.specs.declared.held.HeldOccupied.{HeldOccupied}
use Rattle.scc_owned.specs.declared.held.HeldEntry.{HeldEntry}
use Rattle.scc_owned.specs.declared.held.HeldReplace.{HeldReplace}
use Rattle.scc_owned.specs.declared.held.HeldReplace.TheVariants.{Replaced, NotReplaced}

-- d is c after an insertion of the new key k was refused memory
abbrev pub RestsRefused : {K V S : Type 0} → (K → K → Bool) → (K → ℕ) → Contents (K × V) S → K → Contents (K × V) S → Type 0
RestsRefused same hash c k d = RestsOfMap (λ p. p.0) same hash c k d

-- a write of a value changes no key
same_keys : {K V : Type 0} (es : List (K × V)) (i : ℕ) (v : V) → map (λ e. e.0) (write_at with_pair_value es i v) ≡ map (λ e. e.0) es
same_keys [] i v = refl
same_keys (e ∷ es) zero v = refl
same_keys (e ∷ es) (suc i) v = ap (λ ks. e.0 ∷ ks) (same_keys es i v)

-- keys stay distinct if a value is written at a place
pub value_apart : {K V S : Type 0} (same : K → K → Bool) (m : Contents (K × V) S) (p : Place) → IsPlace m p → IsUnique same m → (v : V) → IsUnique same (with_write_at with_pair_value m p v)
value_apart same m p within u v =
    let s = spot_of m p in
    let h = exactly-write with_pair_value m s within (at (list_of m s.bucket) s.slot within.slot) (at-get (list_of m s.bucket) s.slot within.slot) v in
    rw (h.exact, same_keys) u

module _ {G N K V S T : Type 0} {d : guard.Ghosts G (Contents (K × V) S)} {b : builder.Ghosts S T} {w : hasher.Ghosts T} {g : eq.Ghosts K} {h : hash.Ghosts K} where
  -- p is the entry o after v became its value
  pub record IsWritten (o : HeldOccupied G N (K × V) S K T d pair_keys g b w h) (v : V) (p : HeldOccupied G N (K × V) S K T d pair_keys g b w h) : Type 0 where
    pub same_guard : p.guard ≡ d.with_inner o.guard (d.inner p.guard)
    pub rest : p.rest ≡ o.rest
    pub at : IsWrittenAt (d.inner o.guard) o.place ((occupied_pair o).0, v) (d.inner p.guard) p.place p.within

  -- the map after v became the value of the entry's pair
  abbrev pub written_map : HeldOccupied G N (K × V) S K T d pair_keys g b w h → V → Contents (K × V) S
  written_map o v = with_write_at with_pair_value (d.inner o.guard) o.place v

  -- the place of an entry is still a place after a write to it
  pub still_within : (o : HeldOccupied G N (K × V) S K T d pair_keys g b w h) (v : V) → IsPlace (d.inner (d.with_inner o.guard (written_map o v))) o.place
  still_within o v =
      let P : Contents (K × V) S → Type 0 = λ c. IsPlace c o.place in
      subst P (sym (d.inner_law o.guard (written_map o v))) (IsPlace-with_write_at with_pair_value (d.inner o.guard) o.place v o.within)

  -- keys are still distinct after a write to an entry
  pub still_unique : (o : HeldOccupied G N (K × V) S K T d pair_keys g b w h) (v : V) → IsUnique g.eq (d.inner (d.with_inner o.guard (written_map o v)))
  still_unique o v = subst (λ c. IsUnique g.eq c) (sym (d.inner_law o.guard (written_map o v))) (value_apart g.eq (d.inner o.guard) o.place o.within o.unique v)

  -- o after v became its value
  abbrev pub with_value : HeldOccupied G N (K × V) S K T d pair_keys g b w h → V → HeldOccupied G N (K × V) S K T d pair_keys g b w h
  with_value o v = record {
    guard = d.with_inner o.guard (written_map o v);
    place = o.place;
    rest = o.rest;
    of = o.of;
    within = still_within o v;
    unique = still_unique o v;
  }

  -- o is the entry, with v as its value; if the entry was vacant, v was inserted
  abbrev pub SetsEntry : HeldEntry G N (K × V) S K T d pair_keys g b w h → V → HeldOccupied G N (K × V) S K T d pair_keys g b w h → Type 0
  SetsEntry (Occupied p) v o = IsWritten p v o
  SetsEntry (Vacant e) v o = IsInserted e v o

  -- the guard of the entry's map
  abbrev pub replaced_guard : HeldReplace G N (K × V) S K T d pair_keys g b w h → G
  replaced_guard (Replaced o k) = o.guard
  replaced_guard (NotReplaced e) = e.guard

  -- k is put in the place of the key that equals it, where o stands; if no key equals k, nothing changes
  abbrev pub Replaces : (K → K → Bool) → Contents (K × V) S → K → HeldReplace G N (K × V) S K T d pair_keys g b w h → Type 0
  Replaces same c k (Replaced o old) = SwapsKey same (entries c) k old (λ v es. (occupied_pair o ≡ (k, v)) × HoldsExactly c es (d.inner o.guard))
  Replaces same c k (NotReplaced e) = IsVacantAt same c k e

  module _ {F : Type 0} (f : Once F (MutBor V × Unit {0}) (Unit {0} × (MutBor V × Unit {0}))) (x : F) where
    -- f may be called on the value
    abbrev pub TakesEntry : HeldEntry G N (K × V) S K T d pair_keys g b w h → Type 0
    TakesEntry (Occupied o) = FnOnceTakesAtMut f x (occupied_pair o).1
    TakesEntry (Vacant e) = ⊤

    -- the entry after f was called on its value
    abbrev pub Modifies : HeldEntry G N (K × V) S K T d pair_keys g b w h → HeldEntry G N (K × V) S K T d pair_keys g b w h → Type 0
    Modifies (Occupied o) (Occupied p) = (v : V) × FnOnceReturnsAtMut f x (occupied_pair o).1 tt v × IsWritten o v p
    Modifies (Vacant e) (Vacant p) = p ≡ e
    Modifies e p = ⊥

module _ (G N K V S T : RattleType) {d : guard.Ghosts G.Denot (Contents (K.Denot × V.Denot) S.Denot)} {b : builder.Ghosts S.Denot T.Denot} {w : hasher.Ghosts T.Denot} {g : eq.Ghosts K.Denot} {h : hash.Ghosts K.Denot} where
  -- after the borrow r ends, the entry behind o has the last value written through r
  abbrev pub occupied_lends : MutBor (HeldOccupied G.Denot N.Denot (K.Denot × V.Denot) S.Denot K.Denot T.Denot d pair_keys g b w h) → MutBor V.Denot → Fml
  occupied_lends o r = Lends (the_row G N (pair_row K V) S K T d pair_keys g b w h) V o r (with_value o.now)
