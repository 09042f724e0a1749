-- Lemmas about an entry of an index, whatever its guard is.
use Rattle.std.proofs.Common.{◌≡◌, Bool, true, Some, refl, sym, ap, subst, ◌∙◌}
use Rattle.std.specs.Cmp.{IsEquivalence}
use Rattle.std.specs.List.{IsDistinct, slice_get}
use Rattle.std.specs.Map.{keys_of}
use Rattle.std.specs.declared.cmp.PartialEq as eq
use Rattle.std.specs.declared.hash.Hash as hash
use Rattle.std.specs.declared.hash.Hasher as hasher
use Rattle.std.specs.declared.hash.BuildHasher as builder
use Rattle.scc_common.specs.Contents.{Contents, entries, list_of, waiting_of}
use Rattle.scc_common.specs.Pairs.{IsUnique}
use Rattle.scc_common.specs.declared.guard.Guard as guard
use Rattle.scc_array.specs.ShelfWrites.{put_whole}
use Rattle.scc_table.specs.Placed.{front_of, back_of, IsPlace-with_write_at}
use Rattle.scc_buckets.specs.Placed.{at, at-get}
use Rattle.scc_buckets.specs.declared.place.Place.{Place}
use Rattle.scc_buckets.proofs.WritingTables.{distinct-write, exactly-write}
use Rattle.scc_table.specs.Places.{IsPlace, index_of, spot_of, with_write_at}
use Rattle.scc_table.proofs.places.Entries.{splits-there, written-there}
use Rattle.scc_table.proofs.relocations.AfterWrites.{waiting-write}
use Rattle.scc_owned.specs.Held.{occupied_pair}
use Rattle.scc_owned.specs.IndexEntries.{IsUpdated}
use Rattle.scc_owned.specs.Lends.{pair_keys}
use Rattle.scc_owned.specs.declared.held.HeldOccupied.{HeldOccupied}
use Rattle.scc_owned.proofs.Updates.{finds-replaced}

-- keys stay distinct if an entry with an equal key is put in the place of one
pub version-apart : {K V S : Type 0} {eq : K → K → Bool} (laws : IsEquivalence eq) (m : Contents (K × V) S) (p : Place) (within : IsPlace m p) (e x : K × V) → slice_get (entries m) (index_of m p) ≡ Some e → eq x.0 e.0 ≡ true → IsUnique eq m → IsUnique eq (with_write_at put_whole m p x)
version-apart laws m p within e x got same u =
    let s = spot_of m p in
    let h = exactly-write put_whole m s within (at (list_of m s.bucket) s.slot within.slot) (at-get (list_of m s.bucket) s.slot within.slot) x in
    rw h.exact (distinct-write laws (λ y. y.0) put_whole (entries m) (index_of m p) e x got same u)

module _ {G N K V S T : Type 0} {d : guard.Ghosts G (Contents (K × V) S)} {b : builder.Ghosts S T} {w : hasher.Ghosts T} {g : eq.Ghosts K} {h : hash.Ghosts K} where
  -- after a version is written at a place through the guard, the place is still a place
  pub within-after : (o : HeldOccupied G N (K × V) S K T d pair_keys g b w h) (m n : Contents (K × V) S) (e : K × V) → m ≡ d.inner o.guard → n ≡ with_write_at put_whole m o.place e → IsPlace (d.inner (d.with_inner o.guard n)) o.place
  within-after o m n e is made =
      let P : Contents (K × V) S → Type 0 = λ c. IsPlace c o.place in
      subst P (sym (d.inner_law o.guard n)) (subst P (sym made) (IsPlace-with_write_at put_whole m o.place e (subst P (sym is) o.within)))

  -- if a version is written through the guard, the entry is updated to that version
  pub updated-after : (C : K → K → Type 0) {same : K → K → Bool} (laws : IsEquivalence same) (o : HeldOccupied G N (K × V) S K T d pair_keys g b w h) (m n : Contents (K × V) S) (e : K × V) → m ≡ d.inner o.guard → n ≡ with_write_at put_whole m o.place e → C (occupied_pair o).0 e.0 → same e.0 (occupied_pair o).0 ≡ true
      → IsDistinct same (keys_of (entries m)) → (p : IsPlace (d.inner (d.with_inner o.guard n)) o.place) (v : IsUnique g.eq (d.inner (d.with_inner o.guard n))) → IsUpdated C same o e.1 (record { guard = d.with_inner o.guard n; place = o.place; rest = o.rest; of = o.of; within = p; unique = v })
  updated-after C laws o m n e is made cloned equal u p v =
      let at = written-there put_whole (d.inner o.guard) o.place o.within e (d.inner (d.with_inner o.guard n)) p (d.inner_law o.guard n ∙ made ∙ ap (λ c. with_write_at put_whole c o.place e) is) in
      let split = splits-there (d.inner o.guard) o.place o.within in
      record {
        same_guard = ap (d.with_inner o.guard) (sym (d.inner_law o.guard n));
        rest = refl;
        key = e.0;
        cloned = cloned;
        equal = equal;
        at = at;
        finds = finds-replaced laws (front_of (d.inner o.guard) o.place) (back_of (d.inner o.guard) o.place) (occupied_pair o) e (entries (d.inner o.guard)) (entries (d.inner (d.with_inner o.guard n))) split.splits at.contents.exact equal (rw is at u);
      }

  -- a write of a version through the guard leaves the waiting buckets as they are
  pub waiting-after : (o : HeldOccupied G N (K × V) S K T d pair_keys g b w h) (m n : Contents (K × V) S) (e : K × V) → m ≡ d.inner o.guard → n ≡ with_write_at put_whole m o.place e → waiting_of (d.inner (d.with_inner o.guard n)) ≡ waiting_of (d.inner o.guard)
  waiting-after o m n e is made = ap waiting_of (d.inner_law o.guard n ∙ made) ∙ waiting-write put_whole m o.place e ∙ ap waiting_of is
