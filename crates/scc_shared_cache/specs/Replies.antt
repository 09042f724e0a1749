-- What the arguments of a replacement decide of its result, whatever the stripe held.
use Rattle.std.specs.Prelude.{◌≡◌, Bool, true}
use Rattle.std.specs.declared.cmp.PartialEq as eq
use Rattle.std.specs.declared.hash.Hash as hash
use Rattle.std.specs.declared.hash.Hasher as hasher
use Rattle.std.specs.declared.hash.BuildHasher as builder
use Rattle.scc_common.specs.declared.rule.Rule as rule
use Rattle.scc_common.specs.declared.guard.Guard as guard
use Rattle.scc_owned_cache.specs.Caches.{Cached}
use Rattle.scc_owned_cache.specs.Entries.{occupied_pair}
use Rattle.scc_owned_cache.specs.declared.held.HeldReplace.{HeldReplace}
use Rattle.scc_owned_cache.specs.declared.held.HeldReplace.TheVariants.{Replaced, NotReplaced}

module _ {G N K V S R T : Type 0} {d : guard.Ghosts G (Cached (K × V) S)} {g : eq.Ghosts K} {h : hash.Ghosts K} {b : builder.Ghosts S T} {rules : rule.Ghosts R K V} {w : hasher.Ghosts T} where
  -- k is the key of the entry, and the old key equals k; or k is the key of the vacant entry
  abbrev pub ReplacesEqual : (K → K → Bool) → K → HeldReplace G N K V S R T d g h b w rules → Type 0
  ReplacesEqual same k (Replaced o old) = (same k old ≡ true) × ((occupied_pair o).0 ≡ k)
  ReplacesEqual same k (NotReplaced e) = e.key ≡ k
