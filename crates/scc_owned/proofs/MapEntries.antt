-- Lemmas about an entry of a map, whatever its guard is.
use Rattle.std.proofs.Common.{◌≡◌, refl, sym, ap, subst, ◌∙◌}
use Rattle.std.specs.declared.cmp.PartialEq as eq
use Rattle.std.specs.declared.hash.Hash as hash
use Rattle.std.specs.declared.hash.Hasher as hasher
use Rattle.std.specs.declared.hash.BuildHasher as builder
use Rattle.scc_common.specs.Contents.{Contents, waiting_of}
use Rattle.scc_common.specs.Pairs.{IsUnique, with_pair_value}
use Rattle.scc_common.specs.declared.guard.Guard as guard
use Rattle.scc_buckets.specs.declared.place.Place.{Place}
use Rattle.scc_table.specs.Places.{IsPlace, with_write_at}
use Rattle.scc_table.proofs.places.Entries.{written-there}
use Rattle.scc_table.proofs.relocations.AfterWrites.{waiting-write}
use Rattle.scc_owned.specs.Lends.{pair_keys}
use Rattle.scc_owned.specs.MapEntries.{IsWritten, written_map, still_unique, still_within, with_value}
use Rattle.scc_owned.specs.declared.held.HeldOccupied.{HeldOccupied}
use Rattle.scc_owned.proofs.HeldEntries.{same-entry}

-- a write of a value leaves the waiting buckets as they are
pub waiting-put : {K V S : Type 0} (m : Contents (K × V) S) (p : Place) (v : V) (n : Contents (K × V) S) → n ≡ with_write_at with_pair_value m p v → waiting_of n ≡ waiting_of m
waiting-put m p v n made = ap waiting_of made ∙ waiting-write with_pair_value m p v

module _ {G N K V S T : Type 0} {d : guard.Ghosts G (Contents (K × V) S)} {b : builder.Ghosts S T} {w : hasher.Ghosts T} {g : eq.Ghosts K} {h : hash.Ghosts K} where
  -- after a write through the guard, the place of the entry is still a place
  pub within-written : (o : HeldOccupied G N (K × V) S K T d pair_keys g b w h) (m : Contents (K × V) S) (v : V) → m ≡ d.inner o.guard → IsPlace (d.inner (d.with_inner o.guard (with_write_at with_pair_value m o.place v))) o.place
  within-written o m v is = subst (λ c. IsPlace (d.inner (d.with_inner o.guard (with_write_at with_pair_value c o.place v))) o.place) (sym is) (still_within o v)

  -- after a write through the guard, keys are still distinct
  pub unique-written : (o : HeldOccupied G N (K × V) S K T d pair_keys g b w h) (m : Contents (K × V) S) (v : V) → m ≡ d.inner o.guard → IsUnique g.eq (d.inner (d.with_inner o.guard (with_write_at with_pair_value m o.place v)))
  unique-written o m v is = subst (λ c. IsUnique g.eq (d.inner (d.with_inner o.guard (with_write_at with_pair_value c o.place v)))) (sym is) (still_unique o v)

  -- the entry after a write is equal to `with_value o v`, whichever proofs it has that its place is a place and that keys
  -- are distinct
  pub written-same : (o : HeldOccupied G N (K × V) S K T d pair_keys g b w h) (m : Contents (K × V) S) (v : V) → (is : m ≡ d.inner o.guard) → (p : IsPlace (d.inner (d.with_inner o.guard (with_write_at with_pair_value m o.place v))) o.place)
      (u : IsUnique g.eq (d.inner (d.with_inner o.guard (with_write_at with_pair_value m o.place v)))) → record { guard = d.with_inner o.guard (with_write_at with_pair_value m o.place v); place = o.place; rest = o.rest; of = o.of; within = p; unique = u } ≡ with_value o v
  written-same o m v is =
      let Written : Contents (K × V) S → Type 0 = λ c. (p : IsPlace (d.inner (d.with_inner o.guard (with_write_at with_pair_value c o.place v))) o.place) (u : IsUnique g.eq (d.inner (d.with_inner o.guard (with_write_at with_pair_value c o.place v))))
      → record { guard = d.with_inner o.guard (with_write_at with_pair_value c o.place v); place = o.place; rest = o.rest; of = o.of; within = p; unique = u } ≡ with_value o v in
      subst Written (sym is) (λ p u. same-entry (with_value o v) p u)

  pub within-after : (o : HeldOccupied G N (K × V) S K T d pair_keys g b w h) (m n : Contents (K × V) S) (v : V) → m ≡ d.inner o.guard → n ≡ with_write_at with_pair_value m o.place v → IsPlace (d.inner (d.with_inner o.guard n)) o.place
  within-after o m n v is made = subst (λ c. IsPlace (d.inner (d.with_inner o.guard c)) o.place) (sym made) (within-written o m v is)

  -- a value that is written through the guard is written in the entry
  pub written-after : (o : HeldOccupied G N (K × V) S K T d pair_keys g b w h) (m n : Contents (K × V) S) (v : V) → m ≡ d.inner o.guard → n ≡ with_write_at with_pair_value m o.place v → (p : IsPlace (d.inner (d.with_inner o.guard n)) o.place) (u : IsUnique g.eq (d.inner (d.with_inner o.guard n)))
      → IsWritten o v (record { guard = d.with_inner o.guard n; place = o.place; rest = o.rest; of = o.of; within = p; unique = u })
  written-after o m n v is made p u = record {
    same_guard = ap (d.with_inner o.guard) (sym (d.inner_law o.guard n));
    rest = refl;
    at = written-there with_pair_value (d.inner o.guard) o.place o.within v (d.inner (d.with_inner o.guard n)) p (d.inner_law o.guard n ∙ made ∙ ap (λ c. with_write_at with_pair_value c o.place v) is);
  }

  pub written-with : (o : HeldOccupied G N (K × V) S K T d pair_keys g b w h) (v : V) → IsWritten o v (with_value o v)
  written-with o v = written-after o (d.inner o.guard) (written_map o v) v refl refl (still_within o v) (still_unique o v)

  -- a write of a value through the guard leaves the waiting buckets as they are
  pub waiting-after : (o : HeldOccupied G N (K × V) S K T d pair_keys g b w h) (m n : Contents (K × V) S) (v : V) → m ≡ d.inner o.guard → n ≡ with_write_at with_pair_value m o.place v → waiting_of (d.inner (d.with_inner o.guard n)) ≡ waiting_of (d.inner o.guard)
  waiting-after o m n v is made = ap waiting_of (d.inner_law o.guard n ∙ made) ∙ waiting-write with_pair_value m o.place v ∙ ap waiting_of is
