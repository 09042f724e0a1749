-- What a search by a hint tells.
use Rattle.std.specs.Prelude.{◌≡◌, ℕ, Bool, None}
use Rattle.std.specs.List.{position}
use Rattle.scc_common.specs.Contents.{Contents, entries}
use Rattle.scc_table.specs.Places.{IsFoundAt}
use Rattle.scc_table.specs.declared.lookup.hinted.Hinted.{Hinted}
use Rattle.scc_table.specs.declared.lookup.hinted.Hinted.TheVariants.{Found, Missed, Unknown}

module _ {E S : Type 0} (passes : E → Bool) (c : Contents E S) (hint hash : ℕ) where
  -- what is said of the first entry that passes holds; all that pass have the hash `hash`
  abbrev pub IsHinted : Hinted → Type 0
  IsHinted (Found p) = IsFoundAt passes c p
  IsHinted Missed = (hint ≡ hash) × (position passes (entries c) ≡ None)
  IsHinted Unknown = Unit {0}
