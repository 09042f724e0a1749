-- How contracts look an entry up by its key, and change it, for entries of any kind; and the entry of a key.
use Rattle.std.specs.Prelude.{◌≡◌, ℕ, suc, Bool, true, List, ◌∷◌, ◌++◌, Option, None, Some, map, take, drop, ⊤}
use Rattle.std.specs.Cmp.{IsEquivalence}
use Rattle.std.specs.List as lists
use Rattle.std.specs.List.{IsDistinct, position, slice_get}
use Rattle.std.specs.Map.{lookup_entry, remove_entry, set_value, set_key}
use Rattle.std.specs.declared.cmp.PartialEq as eq
use Rattle.std.specs.declared.hash.Hash as hash
use Rattle.std.specs.declared.hash.Hasher as hasher
use Rattle.std.specs.declared.hash.BuildHasher as builder
use Rattle.std.proofs.Common.{ap, refl, sym, ◌∙◌}
use Rattle.scc_buckets.proofs.Finds.{lookup-find}
use Rattle.scc_buckets.proofs.Lookups.{find-position, find-position_none}
use Rattle.scc_buckets.proofs.PairWrites.{IsPlaceOf}
use Rattle.scc_buckets.proofs.PairSplits.{set_value-at, set_key-split, apart-at, without-at}
use Rattle.scc_common.specs.Contents.{Contents, entries}
use Rattle.scc_common.specs.declared.entry.Keyed as keyed
use Rattle.scc_common.specs.declared.guard.Guard as guard
use Rattle.scc_owned.specs.Held.{Occupied, Vacant, occupied_pair, occupied_front, occupied_back}
use Rattle.scc_owned.specs.declared.held.HeldOccupied.{HeldOccupied}
use Rattle.scc_owned.specs.declared.held.HeldEntry.{HeldEntry}
use Rattle.scc_owned.specs.declared.held.HeldVacant.{HeldVacant}

pub record Lookups (E K V : Type 0) : Type 0 where
  -- the entry of a key and a value
  pub made : K → V → E
  -- the first entry whose key passes
  pub find : (K → Bool) → List E → Option E
  -- the entries without the first one whose key passes
  pub without : (K → Bool) → List E → List E
  -- the entries with another value in the first one whose key passes
  pub with_value : (K → Bool) → List E → V → List E
  -- the entries with another key in the first one whose key passes
  pub with_key : (K → Bool) → List E → K → List E

-- entries that are pairs
abbrev pub pair_lookups : {K V : Type 0} → Lookups (K × V) K V
pair_lookups = record { made = λ k v. (k, v); find = lookup_entry; without = remove_entry; with_value = set_value; with_key = set_key }

module _ {E K V : Type 0} (l : Lookups E K V) (key : E → K) where
  -- e is the entry at index i, and the first one whose key passes
  pub record IsFirst (passes : K → Bool) (es : List E) (i : ℕ) (e : E) : Type 0 where
    pub here : slice_get es i ≡ Some e
    pub found : l.find passes es ≡ Some e
    pub equal : passes (key e) ≡ true

  -- what changes of the entry e of k, at index i, do to the entries
  pub record ChangesAt (same : K → K → Bool) (k : K) (es : List E) (i : ℕ) (e : E) : Type 0 where
    pub writes : (v : V) → take i es ++ l.made (key e) v ∷ drop (suc i) es ≡ l.with_value (same k) es v
    pub updates : (q : K) (v : V) → take i es ++ l.made q v ∷ drop (suc i) es ≡ l.with_key (same k) (l.with_value (same k) es v) q
    pub removes : take i es ++ drop (suc i) es ≡ l.without (same k) es

  -- an entry is made with its key, and the look-ups agree with the positions of the entries
  pub record AreLawful : Type 0 where
    pub keyed : (k : K) (v : V) → key (l.made k v) ≡ k
    pub finds : (passes : K → Bool) (es : List E) → l.find passes es ≡ lists.find (λ e. passes (key e)) es
    pub missing : (passes : K → Bool) (es : List E) → position (λ e. passes (key e)) es ≡ None → l.find passes es ≡ None
    pub first : (passes : K → Bool) (es : List E) (i : ℕ) → position (λ e. passes (key e)) es ≡ Some i → (e : E) × IsFirst passes es i e
    pub changes : {same : K → K → Bool} → IsEquivalence same → (k : K) (es : List E) (i : ℕ) (e : E) → IsDistinct same (map key es) → IsFirst (same k) es i e → ChangesAt same k es i e

-- the look-ups of pairs are lawful
pub pair_lookups-lawful : {K V : Type 0} → AreLawful (pair_lookups {K = K} {V = V}) (λ e. e.0)
pair_lookups-lawful = record {
  keyed = λ k v. refl;
  finds = lookup-find;
  missing = find-position_none;
  first = λ passes es i at. let f = find-position passes es i at in (f.0, record { here = f.1; found = f.2; equal = f.3 });
  changes = λ {same} laws k es i e unique first.
      let f : IsPlaceOf same es k i = (e, first.here, first.found, first.equal) in
      record {
        writes = λ v. sym (set_value-at laws k es i unique f v);
        updates = λ q v. sym (ap (λ l. set_key (same k) l q) (set_value-at laws k es i unique f v) ∙ set_key-split (same k) (take i es) (e.0, v) (drop (suc i) es) q (apart-at laws k es i unique f) first.equal);
        removes = sym (without-at laws k es i unique f);
      };
}

module _ {G N E V S K T : Type 0} {d : guard.Ghosts G (Contents E S)} {y : keyed.Ghosts E K} {b : builder.Ghosts S T} {w : hasher.Ghosts T} {g : eq.Ghosts K} {h : hash.Ghosts K} (l : Lookups E K V) where
  -- the container is c, and o stands at the pair of k
  pub record IsOccupiedAt (same : K → K → Bool) (c : Contents E S) (k : K) (o : HeldOccupied G N E S K T d y g b w h) : Type 0 where
    pub contents : d.inner o.guard ≡ c
    pub found : l.find (same k) (entries c) ≡ Some (occupied_pair o)
    pub equal : same k (y.key_of (occupied_pair o)) ≡ true
    pub writes : (v : V) → occupied_front o ++ l.made (y.key_of (occupied_pair o)) v ∷ occupied_back o ≡ l.with_value (same k) (entries c) v
    pub updates : (q : K) (v : V) → occupied_front o ++ l.made q v ∷ occupied_back o ≡ l.with_key (same k) (l.with_value (same k) (entries c) v) q
    pub removes : occupied_front o ++ occupied_back o ≡ l.without (same k) (entries c)

  -- the container is c, and e has the key k, which the container lacks
  pub record IsVacantAt (same : K → K → Bool) (c : Contents E S) (k : K) (e : HeldVacant G N E S K T d y g b w h) : Type 0 where
    pub contents : d.inner e.guard ≡ c
    pub found : l.find (same k) (entries c) ≡ None
    pub key : e.key ≡ k

  -- the entry is the entry of k: occupied if the container has k, else vacant
  abbrev pub IsEntryOf : (K → K → Bool) → Contents E S → K → HeldEntry G N E S K T d y g b w h → Type 0
  IsEntryOf same c k (Occupied o) = IsOccupiedAt same c k o
  IsEntryOf same c k (Vacant e) = IsVacantAt same c k e

module _ {G N E V S K T : Type 0} {d : guard.Ghosts G (Contents E S)} {y : keyed.Ghosts E K} {b : builder.Ghosts S T} {w : hasher.Ghosts T} {g : eq.Ghosts K} {h : hash.Ghosts K} (value_of : E → V) (allows : K → V → Type 0) where
  -- the value of o may stand under its key
  abbrev pub IsAllowed : HeldOccupied G N E S K T d y g b w h → Type 0
  IsAllowed o = allows (y.key_of (occupied_pair o)) (value_of (occupied_pair o))

  -- the value of o may stand under its key and under k
  abbrev pub IsAllowedAt : K → HeldOccupied G N E S K T d y g b w h → Type 0
  IsAllowedAt k o = allows (y.key_of (occupied_pair o)) (value_of (occupied_pair o)) × allows k (value_of (occupied_pair o))

  -- the value of an occupied entry may stand under its key and under k
  abbrev pub AllowsEntry : K → HeldEntry G N E S K T d y g b w h → Type 0
  AllowsEntry k (Occupied o) = IsAllowedAt k o
  AllowsEntry k (Vacant e) = ⊤
