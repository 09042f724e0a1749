-- The hash of a key.
use Rattle.std.specs.Prelude.{ℕ}
use Rattle.std.specs.Hash.{HashWrites}
use Rattle.std.specs.List.{fold}
use Rattle.std.specs.declared.hash.Hasher as hasher
use Rattle.std.specs.declared.hash.BuildHasher as builder

-- the result of a new hasher of `state` after it was fed the writes
abbrev pub hash_of : {S T : Type 0} → builder.Ghosts S T → hasher.Ghosts T → S → HashWrites → ℕ
hash_of build feed state writes = feed.finish (fold feed.write (build.build_hasher state) writes)
