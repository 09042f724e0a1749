-- Facts about a call's reply that follow from its step, for a caller that doesn't know the cache before the call.
use Rattle.std.proofs.Common.{◌≡◌, ◌⊎◌, ℕ, Bool, true, List, Option, Result, Ok, Err, inl, inr, sym, ap, subst}
use Rattle.std.specs.Prelude.{IfErr}
use Rattle.std.specs.declared.cmp.PartialEq as eq
use Rattle.std.specs.declared.hash.Hash as hash
use Rattle.std.specs.declared.hash.Hasher as hasher
use Rattle.std.specs.declared.hash.BuildHasher as builder
use Rattle.scc_common.specs.declared.rule.Rule as rule
use Rattle.scc_common.specs.Contents.{lists_of}
use Rattle.scc_common.specs.declared.errors.InsertError.{InsertError}
use Rattle.scc_common.specs.declared.guard.Guard as guard
use Rattle.scc_owned_cache.specs.Caches.{Cached}
use Rattle.scc_owned_cache.specs.CacheSteps.{Puts}
use Rattle.scc_owned_cache.specs.Entries.{Exists, Memory, Occupied, Vacant, entry_key, occupied_pair, IsEntryOf, IsRefreshed}
use Rattle.scc_owned_cache.specs.ListSteps.{IsThere}
use Rattle.scc_owned_cache.specs.declared.held.HeldOccupied.{HeldOccupied}
use Rattle.scc_owned_cache.specs.declared.held.HeldEntry.{HeldEntry}
use Rattle.scc_owned_cache.proofs.Caching.{position-passes}

-- the key of the pair of k equals k
pub there-equal : {K V : Type 0} (number : ℕ → K → ℕ) (same : K → K → Bool) (ls : List (List (K × V))) (k : K) (i : ℕ) (p : K × V) → IsThere number same ls k i p → same k p.0 ≡ true
there-equal number same ls k i p t = position-passes (λ q. same k q.0) _ i p t.first t.pair

module _ {K V S : Type 0} (hash : K → ℕ) (same : K → K → Bool) (c : Cached (K × V) S) where
  -- a refused put returns the pair that was supplied
  pub puts-back : (p : K × V) (r : Result (Option (K × V)) (InsertError K V)) (d : Cached (K × V) S) → Puts hash same c p r d → IfErr r (λ e. (e ≡ Exists p) ⊎ (e ≡ Memory p))
  puts-back p (Ok x) d h = tt
  puts-back p (Err (Exists q)) d h = inl (ap Exists h.0)
  puts-back p (Err (Memory q)) d h = inr (ap Memory h.0)

module _ {G N K V S R T : Type 0} {d : guard.Ghosts G (Cached (K × V) S)} {g : eq.Ghosts K} {h : hash.Ghosts K} {b : builder.Ghosts S T} {rules : rule.Ghosts R K V} {w : hasher.Ghosts T} where
  -- the key of a refreshed entry equals k
  pub refreshed-key : (same : K → K → Bool) (c : Cached (K × V) S) (k : K) (o : HeldOccupied G N K V S R T d g h b w rules) → IsRefreshed same c k o → same k (occupied_pair o).0 ≡ true
  refreshed-key same c k o s = let t = s.changes.lists in there-equal _ same (lists_of c.contents) k t.0 (occupied_pair o) t.1

  -- the key of the entry of k equals k: an occupied entry is refreshed, and a vacant entry has k itself
  pub entry-key : (same : K → K → Bool) → ((k : K) → same k k ≡ true) → (c : Cached (K × V) S) (k : K) (e : HeldEntry G N K V S R T d g h b w rules) → IsEntryOf same c k e → same k (entry_key e) ≡ true
  entry-key same self c k (Occupied o) s = refreshed-key same c k o s
  entry-key same self c k (Vacant e) s = subst (λ j. same k j ≡ true) (sym s.key) (self k)
