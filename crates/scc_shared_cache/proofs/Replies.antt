-- Facts about the keys of a replacement, whatever the stripe held.
use Rattle.std.proofs.Common.{Bool, ap}
use Rattle.std.specs.declared.cmp.PartialEq as eq
use Rattle.std.specs.declared.hash.Hash as hash
use Rattle.std.specs.declared.hash.Hasher as hasher
use Rattle.std.specs.declared.hash.BuildHasher as builder
use Rattle.scc_common.specs.declared.rule.Rule as rule
use Rattle.scc_common.specs.Contents.{lists_of}
use Rattle.scc_common.specs.declared.guard.Guard as guard
use Rattle.scc_owned_cache.specs.Caches.{Cached}
use Rattle.scc_owned_cache.specs.Entries.{Replaces}
use Rattle.scc_owned_cache.specs.declared.held.HeldReplace.{HeldReplace}
use Rattle.scc_owned_cache.specs.declared.held.HeldReplace.TheVariants.{Replaced, NotReplaced}
use Rattle.scc_owned_cache.proofs.Replies.{there-equal}
use Rattle.scc_shared_cache.specs.Replies.{ReplacesEqual}

module _ {G N K V S R T : Type 0} {d : guard.Ghosts G (Cached (K × V) S)} {g : eq.Ghosts K} {h : hash.Ghosts K} {b : builder.Ghosts S T} {rules : rule.Ghosts R K V} {w : hasher.Ghosts T} where
  pub replaces-equal : (same : K → K → Bool) (c : Cached (K × V) S) (k : K) (r : HeldReplace G N K V S R T d g h b w rules) → Replaces same c k r → ReplacesEqual same k r
  replaces-equal same c k (Replaced o old) s = let t = s.moved.changes.lists in (there-equal _ same (lists_of c.contents) k t.0 (old, s.value) t.1, ap (λ p. p.0) s.pair)
  replaces-equal same c k (NotReplaced e) s = s.key
