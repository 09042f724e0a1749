-- Lemmas about an entry, whatever its guard and its container are.
use Rattle.std.proofs.Common.{◌≡◌, ◌∙◌, Bool, None, Option, MatchOption, refl, ap, sym, subst, Some}
use Rattle.std.specs.Cmp.{IsEquivalence}
use Rattle.std.specs.Prelude.{map}
use mathlib.Core.Option.{some}
use Rattle.std.specs.Borrow.{MutBor}
use Rattle.std.specs.List.{IsDistinct, IsDistinct-prop, position, slice_get}
use Rattle.std.specs.declared.cmp.PartialEq as eq
use Rattle.std.specs.declared.hash.Hash as hash
use Rattle.std.specs.declared.hash.Hasher as hasher
use Rattle.std.specs.declared.hash.BuildHasher as builder
use Rattle.scc_buckets.specs.declared.place.Place.{Place}
use Rattle.scc_common.specs.Contents.{Contents, entries, IsUniqueBy}
use Rattle.scc_common.specs.declared.entry.Keyed as keyed
use Rattle.scc_common.specs.declared.guard.Guard as guard
use Rattle.scc_buckets.specs.Placed as spots
use Rattle.scc_table.specs.Places.{IsFoundAt, IsPlace, index_of}
use Rattle.scc_table.proofs.places.Entries.{place-prop, entry_of-is}
use Rattle.scc_owned.specs.Held.{occupied_pair}
use Rattle.scc_owned.specs.Lookups.{Lookups, AreLawful, IsFirst, IsOccupiedAt}
use Rattle.scc_owned.specs.declared.held.HeldOccupied.{HeldOccupied}

-- equal references have one name, in the form in which the check asks for it of a returned entry
pub same-name : {A : Type 0} {x y : MutBor A} → x ≡ y → some y.ghost_name ≡ some x.ghost_name
same-name is = ap (λ z. some z.ghost_name) (sym is)

module _ {G N E S K T : Type 0} {d : guard.Ghosts G (Contents E S)} {y : keyed.Ghosts E K} {b : builder.Ghosts S T} {w : hasher.Ghosts T} {g : eq.Ghosts K} {h : hash.Ghosts K} where
  -- if p stands at the entry's place in the contents behind the guard, p is the entry's pair
  pub pair-is : (o : HeldOccupied G N E S K T d y g b w h) (m : Contents E S) (p : E) → m ≡ d.inner o.guard → slice_get (entries m) (index_of m o.place) ≡ Some p → p ≡ occupied_pair o
  pair-is o m p is got = sym (entry_of-is (d.inner o.guard) o.place o.within p (subst (λ (c : Contents E S). slice_get (entries c) (index_of c o.place) ≡ Some p) is got))

  -- if p stands at the place q in the container of x, it is the pair of an entry with the guard x and the place q
  pub pair-at : (o : HeldOccupied G N E S K T d y g b w h) (x : G) (q : Place) → o.guard ≡ x → o.place ≡ q → (p : E) → slice_get (entries (d.inner x)) (index_of (d.inner x) q) ≡ Some p → occupied_pair o ≡ p
  pair-at o x q guarded placed p got = entry_of-is (d.inner o.guard) o.place o.within p (rw (guarded, placed) got)

  -- an entry that is made again from its parts is equal to the entry
  pub same-entry : (o : HeldOccupied G N E S K T d y g b w h) (p : IsPlace (d.inner o.guard) o.place) (u : IsUniqueBy g.eq y.key_of (d.inner o.guard)) → record o { within = p; unique = u } ≡ o
  same-entry o p u = ap (λ r. record o { within = r; unique = u }) (place-prop (d.inner o.guard) o.place p o.within) ∙ ap (λ r. record o { unique = r }) (IsDistinct-prop g.eq (map y.key_of (entries (d.inner o.guard))) u o.unique)

  -- an entry with the guard, the place and the rest of another is equal to it
  pub same-made : (o r : HeldOccupied G N E S K T d y g b w h) → r.guard ≡ o.guard → r.place ≡ o.place → r.rest ≡ o.rest → r ≡ o
  same-made o r guarded placed rests =
      let Made : G → Place → N → Type 0 = λ x p n. (i : IsPlace (d.inner x) p) (u : IsUniqueBy g.eq y.key_of (d.inner x)) → record { guard = x; place = p; rest = n; of = o.of; within = i; unique = u } ≡ o in
      subst (λ n. Made r.guard r.place n) (sym rests) (subst (λ p. Made r.guard p o.rest) (sym placed) (subst (λ x. Made x o.place o.rest) (sym guarded) (λ i u. same-entry o i u))) r.within r.unique

module _ {E K V S : Type 0} {l : Lookups E K V} {key : E → K} (lawful : AreLawful l key) where
  -- a search for a position tells what a look-up finds
  pub found-or-none : (t : K → Bool) (c : Contents E S) (o : Option Place) → MatchOption o (position (λ e. t (key e)) (entries c) ≡ None) (IsFoundAt (λ e. t (key e)) c) → MatchOption o (l.find t (entries c) ≡ None) (IsFoundAt (λ e. t (key e)) c)
  found-or-none t c None h = lawful.missing t (entries c) h
  found-or-none t c (Some p) h = h

module _ {G N E V S K T : Type 0} {d : guard.Ghosts G (Contents E S)} {y : keyed.Ghosts E K} {b : builder.Ghosts S T} {w : hasher.Ghosts T} {g : eq.Ghosts K} {h : hash.Ghosts K} {l : Lookups E K V} (lawful : AreLawful l y.key_of) where
  -- if an occupied entry stands at the first pair with the key k, it is the entry of k
  pub occupied-by : {same : K → K → Bool} (laws : IsEquivalence same) (k : K) (o : HeldOccupied G N E S K T d y g b w h) → IsDistinct same (map y.key_of (entries (d.inner o.guard))) → (e : E) → IsFirst l y.key_of (same k) (entries (d.inner o.guard)) (index_of (d.inner o.guard) o.place) e → IsOccupiedAt l same (d.inner o.guard) k o
  unfolding spots.front_of_spot spots.back_of_spot
  occupied-by {same = same} laws k o u e f =
      let c : Contents E S = d.inner o.guard in
      let is : occupied_pair o ≡ e = entry_of-is c o.place o.within e f.here in
      let changes = lawful.changes laws k (entries c) (index_of c o.place) e u f in
      record {
        contents = refl;
        found = f.found ∙ ap Some (sym is);
        equal = rw is f.equal;
        writes = λ v. rw is (changes.writes v);
        updates = changes.updates;
        removes = changes.removes;
      }

  -- if a search for k in the container of x found the place p, an entry with the guard x and the place p is the entry of
  -- k in its own container
  pub occupied-here : {same : K → K → Bool} (laws : IsEquivalence same) (k : K) (o : HeldOccupied G N E S K T d y g b w h) (x : G) (p : Place) → o.guard ≡ x → o.place ≡ p → IsDistinct same (map y.key_of (entries (d.inner x))) → IsFoundAt (λ e. same k (y.key_of e)) (d.inner x) p → IsOccupiedAt l same (d.inner o.guard) k o
  occupied-here {same = same} laws k o x p guarded placed u found =
      let here : IsFoundAt (λ e. same k (y.key_of e)) (d.inner o.guard) o.place = rw (guarded, placed) found in
      let f = lawful.first (same k) (entries (d.inner o.guard)) (index_of (d.inner o.guard) o.place) here.found in
      occupied-by laws k o (rw guarded u) f.0 f.1

  -- the same, and its container is that of x
  pub occupied-at : {same : K → K → Bool} (laws : IsEquivalence same) (k : K) (o : HeldOccupied G N E S K T d y g b w h) (x : G) (p : Place) → o.guard ≡ x → o.place ≡ p → IsDistinct same (map y.key_of (entries (d.inner x))) → IsFoundAt (λ e. same k (y.key_of e)) (d.inner x) p → IsOccupiedAt l same (d.inner x) k o
  occupied-at laws k o x p guarded placed u found = rw (← guarded) (occupied-here laws k o x p guarded placed u found)
