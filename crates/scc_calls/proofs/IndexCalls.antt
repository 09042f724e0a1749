-- The calls of an index as calls on its state.
use Rattle.std.proofs.Common.{◌≡◌, ◌∙◌, List, [], ◌∷◌, Bool, true, false, cond, Option, None, Some, Ok, refl, ap, inl}
use Rattle.std.specs.Cmp.{IsEquivalence}
use Rattle.std.specs.Map.{set_value, set_key}
use Rattle.std.specs.Option.{IsSome}
use Rattle.std.specs.declared.cmp.PartialEq as equality
use Rattle.std.specs.declared.hash.Hash as hash
use Rattle.std.specs.declared.hash.Hasher as hasher
use Rattle.std.specs.declared.hash.BuildHasher as builder
use Rattle.scc_common.specs.declared.guard.Guard as guard
use Rattle.scc_common.specs.Contents.{Contents, entries, bucket_count}
use Rattle.scc_common.specs.Pairs.{find, without}
use Rattle.scc_common.specs.Steps.{Holds}
use Rattle.scc_buckets.proofs.PairSplits.{cond-true}
use Rattle.scc_owned.specs.Held.{occupied_pair}
use Rattle.scc_owned.specs.Entries.{IsOccupiedAt}
use Rattle.scc_owned.specs.IndexEntries.{IsUpdated}
use Rattle.scc_owned.specs.IndexSteps.{Inserts, Removes}
use Rattle.scc_owned.specs.declared.held.HeldOccupied.{HeldOccupied}
use Rattle.scc_owned.proofs.AfterSteps.{find-written}
use Rattle.scc_calls.specs.Resized.{MovesResized}
use Rattle.scc_calls.specs.States.{ResizesTo, state_of, run_setting, run_setting_by}
use Rattle.scc_calls.specs.IndexCalls.{IndexMoves}
use Rattle.scc_calls.specs.declared.calls_as_values.IndexCall.TheVariants.{Insert, Update, Remove, Clear}
use Rattle.scc_calls.specs.declared.replies.Reply.TheVariants.{Inserted, Has, Cleared}
use Rattle.scc_calls.proofs.MapCalls.{none-left}
use Rattle.scc_calls.proofs.States.{holds-changes, unchanged-changes}
use Rattle.scc_owned.specs.Lends.{pair_keys}

some-of : {X : Type 0} (o : Option X) → IsSome o → (x : X) × (o ≡ Some x)
some-of None h = absurd (let z : false ≡ true = h in cc)
some-of (Some x) h = (x, refl)

-- tests with equal results write the key of the same pair
set_key-alike : {K V : Type 0} (t u : K → Bool) → ((x : K) → t x ≡ u x) → (es : List (K × V)) (q : K) → set_key t es q ≡ set_key u es q
set_key-alike t u h [] q = refl
set_key-alike t u h (x ∷ es) q = λ i. cond (h x.0 i) ((q, x.1) ∷ es) (x ∷ set_key-alike t u h es q i)

module _ {K V H : Type 0} (eq : K → K → Bool) (clone : K → K → Type 0) (c d : Contents (K × V) H) where
  -- an insertion of a new key
  pub inserted : (k : K) (v : V) (u : Unit {0}) → Inserts eq c (k, v) (Ok u) d
      → MovesResized (λ s. s.1) (IndexMoves eq clone) (ResizesTo (run_setting c)) (state_of c) (Insert k v) Inserted (state_of d)
  inserted k v u h = holds-changes (IndexMoves eq clone) (Insert k v) Inserted c d ((k, v) ∷ entries c) h.1 (λ number l p. (h.0, (p, refl)))

  -- a call that clears the index
  pub cleared : Holds c [] d → MovesResized (λ s. s.1) (IndexMoves eq clone) (ResizesTo (run_setting c)) (state_of c) Clear Cleared (state_of d)
  cleared h = holds-changes (IndexMoves eq clone) Clear Cleared c d [] h (λ number l p. (none-left l p, refl))

  -- a removal
  pub removed : (k : K) (b : Bool) → Removes eq c k b d → MovesResized (λ s. s.1) (IndexMoves eq clone) (ResizesTo (run_setting c)) (state_of c) (Remove k) (Has b) (state_of d)
  removed k false h = unchanged-changes (IndexMoves eq clone) (Remove k) (Has false) c d h.1 (λ e. (h.0, e))
  removed k true h =
      let p = some-of (find eq (entries c) k) h.0 in
      holds-changes (IndexMoves eq clone) (Remove k) (Has true) c d (without eq (entries c) k) h.1 (λ number l q. (p.0, (p.1, (q, refl))))

  pub removed-setting : (k : K) (b : Bool) → Removes eq c k b d → run_setting d ≡ run_setting c
  removed-setting k false h = ap run_setting_by h.1.settings
  removed-setting k true h = ap run_setting_by h.1.settings

module _ {G N K V S T : Type 0} {d : guard.Ghosts G (Contents (K × V) S)} {g : equality.Ghosts K} {h : hash.Ghosts K} {b : builder.Ghosts S T} {w : hasher.Ghosts T} {eq : K → K → Bool} (laws : IsEquivalence eq) (C : K → K → Type 0)
    (c : Contents (K × V) S) (k : K) (v : V) (o p : HeldOccupied G N (K × V) S K T d pair_keys g b w h) (at : IsOccupiedAt eq c k o) (up : IsUpdated C eq o v p) where
  near : eq k up.key ≡ true
  near = laws.congr k (occupied_pair o).0 up.key at.equal ∙ laws.symm (occupied_pair o).0 up.key ∙ up.equal

  -- an update of a present key
  pub updated : MovesResized (λ s. s.1) (IndexMoves eq C) (ResizesTo (run_setting c)) (state_of c) (Update k v) (Has true) (state_of (d.inner p.guard))
  updated =
      let buckets : bucket_count (d.inner p.guard) ≡ bucket_count c = up.at.contents.buckets ∙ ap bucket_count at.contents in
      inl (
        buckets,
        (
          (set_value (eq k) (entries c) v, bucket_count c),
          up.key,
          (occupied_pair o).0,
          (occupied_pair o).1,
          near,
          up.cloned,
          ((occupied_pair o).0, at.found, (refl, refl)),
          (
            v,
            find-written laws (entries c) k up.key (occupied_pair o) v at.found ∙ cond-true (Some ((occupied_pair o).0, v)) (find eq (entries c) up.key) (laws.symm up.key k ∙ near),
            (
              up.at.contents.exact ∙ at.updates up.key v ∙ set_key-alike (eq k) (eq up.key) (λ x. laws.congr k up.key x near) (set_value (eq k) (entries c) v) up.key,
              buckets,
            ),
          ),
        ),
      )

  pub updated-setting : run_setting (d.inner p.guard) ≡ run_setting c
  updated-setting = ap run_setting_by up.at.contents.settings ∙ ap run_setting at.contents
