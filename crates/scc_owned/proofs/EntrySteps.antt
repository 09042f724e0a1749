-- Entries that stand one after another, under any guard.
use Rattle.std.proofs.Common.{◌≡◌, Bool, ◌∙◌, suc, [], ◌∷◌, refl, ap}
use Rattle.std.specs.List.{remove}
use Rattle.std.specs.declared.cmp.PartialEq as eq
use Rattle.std.specs.declared.hash.Hash as hash
use Rattle.std.specs.declared.hash.Hasher as hasher
use Rattle.std.specs.declared.hash.BuildHasher as builder
use Rattle.scc_common.specs.Contents.{Contents, entries, notes_of}
use Rattle.scc_table.specs.Placed.{entry_of, back_of}
use Rattle.scc_table.specs.Places.{IsPlace, index_of}
use Rattle.scc_buckets.specs.declared.place.Place.{Place}
use Rattle.scc_common.specs.Steps.{HoldsExactly}
use Rattle.scc_common.specs.declared.entry.Keyed as keyed
use Rattle.scc_common.specs.declared.guard.Guard as guard
use Rattle.scc_table.proofs.places.Entries.{splits-there, front-none, next-there, past-there}
use Rattle.scc_common.specs.PairWalks.{PassesAt, PassesFirst}
use Rattle.scc_table.proofs.walks.Steps.{passes-at}
use Rattle.scc_owned.specs.Held.{occupied_front, occupied_pair}
use Rattle.scc_owned.specs.Lends.{pair_keys}
use Rattle.scc_owned.specs.EntrySteps.{StandsIn, IsNext, IsNextPastRemoved}
use Rattle.scc_owned.specs.declared.held.HeldOccupied.{HeldOccupied}

module _ {G N E S K T : Type 0} {d : guard.Ghosts G (Contents E S)} {y : keyed.Ghosts E K} {b : builder.Ghosts S T} {w : hasher.Ghosts T} {g : eq.Ghosts K} {h : hash.Ghosts K} where
  -- the list of the container of x is the pairs before an entry with the guard x, then its pair, then the pairs after it
  pub stands-in : (o : HeldOccupied G N E S K T d y g b w h) (x : G) → o.guard ≡ x → StandsIn (d.inner x) o
  stands-in o x guarded = record { contents = ap d.inner guarded; at = splits-there (d.inner o.guard) o.place o.within }

  -- if q is the first place of the container of x, an entry with the guard x and the place q is the first entry
  pub stands-first : (o : HeldOccupied G N E S K T d y g b w h) (x : G) (q : Place) → o.guard ≡ x → o.place ≡ q → index_of (d.inner x) q ≡ 0 → StandsIn (d.inner x) o × (occupied_front o ≡ [])
  stands-first o x q guarded placed first = (stands-in o x guarded, front-none (d.inner o.guard) o.place (rw (guarded, placed) first))

  -- if the place q stands at the index after o, an entry p with the guard x and the place q is the next entry after o
  pub next-at : (o p : HeldOccupied G N E S K T d y g b w h) (x : G) (q : Place) → p.guard ≡ x → p.place ≡ q → x ≡ d.with_inner o.guard (d.inner x) → d.inner x ≡ d.inner o.guard → index_of (d.inner o.guard) q ≡ suc (index_of (d.inner o.guard) o.place) → IsNext o p
  next-at o p x q guarded placed same now index = record { same_guard = rw guarded same; at = next-there (d.inner o.guard) o.place o.within (d.inner p.guard) p.place p.within (rw guarded now) (rw placed index) }

  -- if the pair of o was removed from the container of x, and the place q stands at its index, an entry p with the guard x
  -- and the place q is the next entry after the removed entry
  pub next-past : (o p : HeldOccupied G N E S K T d y g b w h) (x : G) (q : Place) → p.guard ≡ x → p.place ≡ q → x ≡ d.with_inner o.guard (d.inner x) → HoldsExactly (d.inner o.guard) (remove (entries (d.inner o.guard)) (index_of (d.inner o.guard) o.place)) (d.inner x)
      → notes_of (d.inner x) ≡ notes_of (d.inner o.guard) → index_of (d.inner x) q ≡ index_of (d.inner o.guard) o.place → IsNextPastRemoved o p
  next-past o p x q guarded placed same others noted index = record { same_guard = rw guarded same; at = past-there (d.inner o.guard) o.place (d.inner p.guard) p.place p.within (rw guarded others) (rw guarded noted) (rw (guarded, placed) index) }

module _ {E S P : Type 0} (c : Contents E S) (p q : Place) where
  -- if q stands at the index after p, there are pairs after p
  pub none-after : (h : IsPlace c p) (j : IsPlace c q) → index_of c q ≡ suc (index_of c p) → back_of c p ≡ [] → P
  none-after h j index none = absurd (let e : entry_of c q j ∷ back_of c q ≡ [] = (next-there c p h c q j refl index).back ∙ none in cc)

  pub none-past : (d : Contents E S) (j : IsPlace d q) → HoldsExactly c (remove (entries c) (index_of c p)) d → notes_of d ≡ notes_of c → index_of d q ≡ index_of c p → back_of c p ≡ [] → P
  none-past d j others noted index none = absurd (let e : entry_of d q j ∷ back_of d q ≡ [] = (past-there c p d q j others noted index).back ∙ none in cc)

module _ {G N K V S T : Type 0} {d : guard.Ghosts G (Contents (K × V) S)} {b : builder.Ghosts S T} {w : hasher.Ghosts T} {g : eq.Ghosts K} {h : hash.Ghosts K} where
  -- if q is the place of the first pair of the container of x on which a closure returns true, an entry with the guard x and
  -- the place q stands at that pair
  pub passes-here : {F : Type 0} {C : F → K × V → Bool → F → Type 0} {f : F} (o : HeldOccupied G N (K × V) S K T d pair_keys g b w h) (x : G) (q : Place) → o.guard ≡ x → o.place ≡ q → PassesFirst C f (entries (d.inner x)) (index_of (d.inner x) q)
      → PassesAt C f (occupied_front o) (occupied_pair o)
  passes-here {C = C} {f = f} o x q guarded placed first = let here : PassesFirst C f (entries (d.inner o.guard)) (index_of (d.inner o.guard) o.place) = rw (guarded, placed) first in passes-at _ _ _ here
