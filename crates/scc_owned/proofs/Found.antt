-- What a search for a key that is there tells of a map, and what a write at the place that it found does.
use Rattle.std.proofs.Common.{◌≡◌, Bool, true, Some, sym, ap, ◌∙◌}
use Rattle.std.specs.Cmp.{IsEquivalence}
use Rattle.std.specs.List.{remove, slice_get}
use Rattle.std.specs.Map.{set_key, set_value}
use Rattle.scc_common.specs.Contents.{Contents, entries}
use Rattle.scc_common.specs.Pairs.{find, without, with_pair_key, with_pair_value, IsUnique}
use Rattle.scc_common.specs.Steps.{Holds, HoldsExactly}
use Rattle.scc_buckets.specs.declared.place.Place.{Place}
use Rattle.scc_buckets.proofs.PairWrites.{IsPlaceOf}
use Rattle.scc_table.specs.Places.{IsFoundAt, index_of, with_write_at}
use Rattle.scc_table.proofs.places.Entries.{place-found, key-unique, key-written, value-written, written-pair, written-taken_out}

module _ {K V S : Type 0} (eq : K → K → Bool) (m : Contents (K × V) S) (k : K) (p : Place) (found : IsFoundAt (λ (e : K × V). eq k e.0) m p) where
  -- the pair at the place, as a look-up finds it
  abbrev place : IsPlaceOf eq (entries m) k (index_of m p)
  place = place-found eq m k p found

  same-pair : (e : K × V) → slice_get (entries m) (index_of m p) ≡ Some e → place.0 ≡ e
  same-pair e got = let s : Some place.0 ≡ Some e = sym place.1 ∙ got in cc

  -- a look-up of k finds the pair at the place
  pub found-here : (e : K × V) → slice_get (entries m) (index_of m p) ≡ Some e → find eq (entries m) k ≡ Some e
  found-here e got = place.2 ∙ sym place.1 ∙ got

  -- the key at the place equals k
  pub found-equal : (e : K × V) → slice_get (entries m) (index_of m p) ≡ Some e → eq k e.0 ≡ true
  found-equal e got = ap (λ (x : K × V). eq k x.0) (sym (same-pair e got)) ∙ place.3

  module _ (laws : IsEquivalence eq) (unique : IsUnique eq m) where
    -- a write of a value at the place sets the value of k
    pub found-written : (w : V) → HoldsExactly m (set_value (eq k) (entries m) w) (with_write_at with_pair_value m p w)
    found-written w = value-written laws m p found.within k unique place w

    -- a write of k at the place puts it in the place of the key that equals it
    pub found-swapped : HoldsExactly m (set_key (eq k) (entries m) k) (with_write_at with_pair_key m p k)
    found-swapped = key-written laws m p found.within k unique place k

    -- and keys stay distinct
    pub swapped-unique : IsUnique eq (with_write_at with_pair_key m p k)
    swapped-unique = key-unique laws m p found.within k unique place k place.3

    -- a removal from the place after a write of a value takes the pair of k out
    pub found-taken : (w : V) (d : Contents (K × V) S) → Holds (with_write_at with_pair_value m p w) (remove (entries (with_write_at with_pair_value m p w)) (index_of (with_write_at with_pair_value m p w) p)) d → Holds m (without eq (entries m) k) d
    found-taken w d h = written-taken_out laws m p found.within k unique place w d h

    -- the pair at the place after a write of a value has its key and that value
    pub found-pair : (e : K × V) → slice_get (entries m) (index_of m p) ≡ Some e → (w : V) (q : K × V) → slice_get (entries (with_write_at with_pair_value m p w)) (index_of (with_write_at with_pair_value m p w) p) ≡ Some q → q ≡ (e.0, w)
    found-pair e got w q there = written-pair laws m p found.within k unique place w q there ∙ ap (λ (x : K × V). (x.0, w)) (same-pair e got)
