-- Walks that go from place to place of two arrays.
use Rattle.std.proofs.Common.{◌≡◌, ℕ, zero, suc, ◌<◌, ◌-◌, ◌++◌, Bool, true, false, List, [], ◌∷◌, length, Option, None, Some, MatchOption, IfSome, take, drop, refl, sym, ap, ◌∙◌, arith}
use Rattle.std.specs.List.{slice_get}
use Rattle.scc_common.specs.Walks.{Walks, ended, stopped, went_on}
use Rattle.scc_common.proofs.WalkLemmas.{walk-append}
use Rattle.scc_common.specs.Contents.{Contents, entries}
use Rattle.scc_buckets.specs.Places as spots
use Rattle.scc_buckets.specs.Standing as standing
use Rattle.scc_buckets.specs.declared.place.Place.{Place}
use Rattle.scc_buckets.proofs.Standing.{index-below}
use Rattle.scc_table.specs.Placed.{spot-with_write_at}
use Rattle.scc_table.specs.Places.{IsPlace, StandsAt, index_of, spot_of, with_write_at}

-- how many entries stand before the place of a walk; all entries, if the walk is over
abbrev pub reached : {E S : Type 0} → Contents E S → Option Place → ℕ
reached c None = length (entries c)
reached c (Some p) = index_of c p

module _ {E S : Type 0} (c : Contents E S) where
  pub reached-at : (i : ℕ) (o : Option Place) → MatchOption o (i ≡ length (entries c)) (StandsAt c i) → (reached c o ≡ i) × IfSome o (IsPlace c)
  reached-at i None e = (sym e, tt)
  reached-at i (Some p) s = (s.index, s.within)

  pub reached-first : (o : Option Place) → MatchOption o (entries c ≡ []) (StandsAt c 0) → (reached c o ≡ 0) × IfSome o (IsPlace c)
  reached-first None e = (ap length e, tt)
  reached-first (Some p) s = (s.index, s.within)

  -- a walk that goes on comes nearer to its end
  pub nearer : (p : Place) (o : Option Place) → IsPlace c p → reached c o ≡ suc (index_of c p) → length (entries c) - reached c o < length (entries c) - index_of c p
  nearer p o h e = let l = index-below c (spot_of c p) h in omega arith

-- the spot of the place of a walk
abbrev pub walk_spot : {E S : Type 0} → Contents E S → Option Place → Option Place
walk_spot c None = None
walk_spot c (Some p) = Some (spot_of c p)

module _ {E S : Type 0} (c : Contents E S) where
  -- if a walk goes on at a place, it goes on at the spot of this place
  pub stands-spot : (A : Type 0) (i : ℕ) (o : Option Place) → MatchOption o A (StandsAt c i) → MatchOption (walk_spot c o) A (standing.StandsAtSpot c i)
  stands-spot A i None h = h
  stands-spot A i (Some p) h = h

  pub within-spot : (o : Option Place) → IfSome (walk_spot c o) (spots.IsSpot c) → IfSome o (IsPlace c)
  within-spot None h = h
  within-spot (Some p) h = h

  -- a write changes no spot
  pub spot-written : {X : Type 0} (put : E → X → E) (p : Place) (w : X) (n : Contents E S) → n ≡ with_write_at put c p w → (q : Place) → spot_of n q ≡ spot_of c q
  spot-written put p w n new q = ap (λ d. spot_of d q) new ∙ spot-with_write_at put c (spot_of c p) w q

pub all-taken : {X : Type 0} (xs : List X) (i : ℕ) → i ≡ length xs → take i xs ≡ xs
all-taken [] zero h = refl
all-taken [] (suc i) h = refl
all-taken (x ∷ xs) zero h = absurd (omega arith)
all-taken (x ∷ xs) (suc i) h = ap (λ z. x ∷ z) (all-taken xs i (omega arith))

module _ {F K V : Type 0} {T : F → K × V → Bool → F → Type 0} where
  -- a walk over es that goes on with one more pair is a walk over es and this pair
  pub walk-more : (es : List (K × V)) {f f' f'' : F} {p : K × V} → Walks T f es true f' → T f' p true f'' → Walks T f (es ++ p ∷ []) true f''
  walk-more es w t = walk-append w (went_on t ended)

  -- a walk over es that ends at the next pair is a walk over es, this pair and the rest
  pub walk-ends : (es rest : List (K × V)) {f f' f'' : F} {p : K × V} → Walks T f es true f' → T f' p false f'' → Walks T f (es ++ p ∷ rest) false f''
  walk-ends es rest w t = walk-append w (stopped t)

-- a list is the elements before number i, element x at number i, and the elements after it
pub split-at : {X : Type 0} (es : List X) (i : ℕ) (x : X) → slice_get es i ≡ Some x → es ≡ take i es ++ x ∷ drop (suc i) es
split-at [] i x e = absurd (let h : None ≡ Some x = e in cc)
split-at (y ∷ es) zero x e = let h : y ≡ x = cc in ap (λ z. z ∷ es) h
split-at (y ∷ es) (suc i) x e = ap (λ l. y ∷ l) (split-at es i x e)
