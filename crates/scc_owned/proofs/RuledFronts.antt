-- The pairs before the entry at which a walk over a map or an index under a rule stopped.
use Rattle.std.proofs.Common.{◌≡◌, suc, take, Some, sym, subst}
use Rattle.std.specs.List.{slice_get}
use Rattle.std.specs.declared.cmp.PartialEq as eq
use Rattle.std.specs.declared.hash.Hash as hash
use Rattle.std.specs.declared.hash.Hasher as hasher
use Rattle.std.specs.declared.hash.BuildHasher as builder
use Rattle.scc_buckets.specs.Placed as spots
use Rattle.scc_buckets.specs.declared.place.Place.{Place}
use Rattle.scc_common.specs.Contents.{Contents, entries}
use Rattle.scc_common.specs.declared.guard.Guard as guard
use Rattle.scc_common.specs.Rules.{AllKeep}
use Rattle.scc_table.specs.Places.{index_of}
use Rattle.scc_table.proofs.places.Entries.{entry_of-is}
use Rattle.scc_owned.specs.Held.{occupied_front, occupied_pair}
use Rattle.scc_owned.specs.Lends.{pair_keys}
use Rattle.scc_owned.specs.declared.held.HeldOccupied.{HeldOccupied}
use Rattle.scc_owned.proofs.RuledPairs.{kept-parts}

module _ {G N K V S T : Type 0} {d : guard.Ghosts G (Contents (K × V) S)} {b : builder.Ghosts S T} {w : hasher.Ghosts T} {g : eq.Ghosts K} {h : hash.Ghosts K} (holds : K → V → Type 0) where
  -- if the pairs up to the place q in the container of x keep the rule, so do those before an entry with the guard x and
  -- the place q, and its pair
  pub front-kept : (o : HeldOccupied G N (K × V) S K T d pair_keys g b w h) (x : G) (q : Place) → o.guard ≡ x → o.place ≡ q → {p : K × V} → slice_get (entries (d.inner x)) (index_of (d.inner x) q) ≡ Some p → AllKeep holds (take (suc (index_of (d.inner x) q)) (entries (d.inner x))) → AllKeep holds (occupied_front o) × holds (occupied_pair o).0 (occupied_pair o).1
  unfolding spots.front_of_spot
  front-kept o x q guarded placed {p} got kept =
      let here : slice_get (entries (d.inner o.guard)) (index_of (d.inner o.guard) o.place) ≡ Some p = rw (guarded, placed) got in
      let all : AllKeep holds (take (suc (index_of (d.inner o.guard) o.place)) (entries (d.inner o.guard))) = rw (guarded, placed) kept in
      let r = kept-parts holds (entries (d.inner o.guard)) (index_of (d.inner o.guard) o.place) p here all in
      (r.0, subst (λ (e : K × V). holds e.0 e.1) (sym (entry_of-is (d.inner o.guard) o.place o.within p here)) r.1)
