-- A new version in the place of a stored one, under a rule.
use Rattle.std.proofs.Common.{◌≡◌, Bool, subst}
use Rattle.std.specs.declared.cmp.PartialEq as eq
use Rattle.std.specs.declared.hash.Hash as hash
use Rattle.std.specs.declared.hash.Hasher as hasher
use Rattle.std.specs.declared.hash.BuildHasher as builder
use Rattle.scc_common.specs.Contents.{Contents}
use Rattle.scc_common.specs.declared.guard.Guard as guard
use Rattle.scc_owned.specs.IndexEntries.{IsUpdated}
use Rattle.scc_owned.specs.Lends.{pair_keys}
use Rattle.scc_owned.specs.declared.held.HeldOccupied.{HeldOccupied}

module _ {G N K V S T : Type 0} {d : guard.Ghosts G (Contents (K × V) S)} {b : builder.Ghosts S T} {w : hasher.Ghosts T} {g : eq.Ghosts K} {h : hash.Ghosts K} where
  -- the value of the version that is put in is v
  pub updated-value : (C : K → K → Type 0) (same : K → K → Bool) (o p : HeldOccupied G N (K × V) S K T d pair_keys g b w h) (u v : V) → u ≡ v → IsUpdated C same o u p → IsUpdated C same o v p
  updated-value C same o p u v is = subst (λ x. IsUpdated C same o x p) is
