-- The words of an entry's contracts at pairs: in a map and in an index an entry is a pair.
pub use Rattle.scc_common.specs.declared.errors.InsertError.TheVariants.{Exists, Memory}
use Rattle.std.specs.Prelude.{Bool}
use Rattle.std.specs.declared.cmp.PartialEq as eq
use Rattle.std.specs.declared.hash.Hash as hash
use Rattle.std.specs.declared.hash.Hasher as hasher
use Rattle.std.specs.declared.hash.BuildHasher as builder
use Rattle.scc_common.specs.Contents.{Contents}
use Rattle.scc_common.specs.declared.guard.Guard as guard
use Rattle.scc_owned.specs.Insertions as inserting
use Rattle.scc_owned.specs.Lends.{pair_keys}
use Rattle.scc_owned.specs.Lookups as lookups
use Rattle.scc_owned.specs.Lookups.{pair_lookups}
use Rattle.scc_owned.specs.declared.held.HeldOccupied.{HeldOccupied}
use Rattle.scc_owned.specs.declared.held.HeldEntry.{HeldEntry}
use Rattle.scc_owned.specs.declared.held.HeldVacant.{HeldVacant}

module _ {G N K V S T : Type 0} {d : guard.Ghosts G (Contents (K × V) S)} {b : builder.Ghosts S T} {w : hasher.Ghosts T} {g : eq.Ghosts K} {h : hash.Ghosts K} where
  -- the container is c, and o stands at the pair of k
  abbrev pub IsOccupiedAt : (K → K → Bool) → Contents (K × V) S → K → HeldOccupied G N (K × V) S K T d pair_keys g b w h → Type 0
  IsOccupiedAt same c k o = lookups.IsOccupiedAt pair_lookups same c k o

  -- the container is c, and e has the key k, which the container lacks
  abbrev pub IsVacantAt : (K → K → Bool) → Contents (K × V) S → K → HeldVacant G N (K × V) S K T d pair_keys g b w h → Type 0
  IsVacantAt same c k e = lookups.IsVacantAt pair_lookups same c k e

  -- the entry is the entry of k: occupied if the container has k, else vacant
  abbrev pub IsEntryOf : (K → K → Bool) → Contents (K × V) S → K → HeldEntry G N (K × V) S K T d pair_keys g b w h → Type 0
  IsEntryOf same c k e = lookups.IsEntryOf pair_lookups same c k e

  -- o stands at the pair that was inserted through e
  abbrev pub IsInserted : HeldVacant G N (K × V) S K T d pair_keys g b w h → V → HeldOccupied G N (K × V) S K T d pair_keys g b w h → Type 0
  IsInserted e v o = inserting.IsInserted pair_lookups.made e v o

  -- o is the entry; if the entry was vacant, v was inserted
  abbrev pub OrInserts : HeldEntry G N (K × V) S K T d pair_keys g b w h → V → HeldOccupied G N (K × V) S K T d pair_keys g b w h → Type 0
  OrInserts e v o = inserting.OrInserts pair_lookups.made e v o
