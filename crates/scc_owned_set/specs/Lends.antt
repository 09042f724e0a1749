-- The set's type, as the logic has it.
use Rattle.std.specs.Borrow.{RattleType}
use Rattle.std.specs.HashMap.Lent.{HashMembers}
use Rattle.std.specs.declared.hash.Hasher as hasher
use Rattle.std.specs.declared.hash.BuildHasher as builder
use Rattle.scc_owned_set.specs.contracts.Owned.{the_row}

-- the set's type, as the logic has it
abbrev pub set_row : (K S H : RattleType) → HashMembers K.Denot → builder.Ghosts S.Denot H.Denot → hasher.Ghosts H.Denot → RattleType
set_row K S H key build feed = the_row K S H (record {}) (record { eq = key.eq }) (record { hash_input = key.hash_input }) build feed
