-- Walks that go on by one pair.
use Rattle.std.proofs.Common.{◌≡◌, ℕ, zero, suc, ◌<◌, ◌-◌, List, [], ◌∷◌, ◌++◌, length, take, Bool, false, Option, None, Some, MatchOption, IfSome, refl, sym, ap, arith}
use Rattle.std.specs.Borrow.{Bor, MutBor}
use Rattle.std.specs.Fn.{Mut}
use denote.Param.Always.{always_mut, mut_next}
use Rattle.scc_common.specs.Contents.{Contents, entries}
use Rattle.scc_buckets.specs.Places.{IsSpot, index_of_spot}
use Rattle.scc_buckets.specs.Standing.{StandsAtSpot}
use Rattle.scc_buckets.specs.declared.place.Place.{Place}
use Rattle.scc_buckets.proofs.Standing.{index-below}
use Rattle.scc_buckets.specs.Placed.{entry_of_spot, front_of_spot}
use Rattle.scc_buckets.proofs.Placed.{entry_of-is}
use Rattle.scc_common.proofs.WalkLemmas.{turn-always}
use Rattle.scc_common.specs.PairWalks.{CallableToWrite, Declines, ended, went_on, PassesAt, PassesFirst}

-- how many entries stand before the place of a walk; all entries, if the walk is over
abbrev pub reached : {E S : Type 0} → Contents E S → Option Place → ℕ
reached c None = length (entries c)
reached c (Some p) = index_of_spot c p

module _ {E S : Type 0} (c : Contents E S) where
  pub reached-at : (i : ℕ) (o : Option Place) → MatchOption o (i ≡ length (entries c)) (StandsAtSpot c i) → (reached c o ≡ i) × IfSome o (IsSpot c)
  reached-at i None e = (sym e, tt)
  reached-at i (Some p) s = (s.index, s.within)

  pub reached-first : (o : Option Place) → MatchOption o (entries c ≡ []) (StandsAtSpot c 0) → (reached c o ≡ 0) × IfSome o (IsSpot c)
  reached-first None e = (ap length e, tt)
  reached-first (Some p) s = (s.index, s.within)

  -- a walk that goes on comes nearer to its end
  pub nearer : (p : Place) (o : Option Place) → IsSpot c p → reached c o ≡ suc (index_of_spot c p) → length (entries c) - reached c o < length (entries c) - index_of_spot c p
  nearer p o h e = omega (arith, index-below c p h)

pub take-all : {X : Type 0} (xs : List X) (i : ℕ) → i ≡ length xs → take i xs ≡ xs
take-all [] zero h = refl
take-all [] (suc i) h = refl
take-all (x ∷ xs) zero h = absurd (omega arith)
take-all (x ∷ xs) (suc i) h = ap (λ z. x ∷ z) (take-all xs i (omega arith))

module _ {F K V : Type 0} {T : F → K × V → Bool → F → Type 0} where
  pub declines-more : (es : List (K × V)) {f f' f'' : F} {p : K × V} → Declines T f es f' → T f' p false f'' → Declines T f (es ++ p ∷ []) f''
  declines-more [] ended t = went_on t ended
  declines-more (x ∷ es) (went_on s d) t = went_on s (declines-more es d t)

-- the first pair that passes is the pair at p
pub passes-at : {K V S F : Type 0} {C : F → K × V → Bool → F → Type 0} {f : F} (c : Contents (K × V) S) (p : Place) (h : IsSpot c p) → PassesFirst C f (entries c) (index_of_spot c p) → PassesAt C f (front_of_spot c p) (entry_of_spot c p h)
unfolding front_of_spot
passes-at {C = C} {f = f} c p h x = rw (entry_of-is c p h x.pair x.here) x.first

-- if a closure may always be called, it may be called to write on all pairs
pub CallableToWrite-always : {F K V R : Type 0} (g : Mut F (Bor K × (MutBor V × Unit {0})) (R × (MutBor V × Unit {0}))) (On : R → Type 0) (f : F) (es : List (K × V)) → always_mut g f → CallableToWrite g On f es
CallableToWrite-always g On = turn-always _ _ (always_mut g) (λ f f' p t h. mut_next g _ _ _ _ _ t.3.called refl h) (λ f p h key value shows. (h.at ((key, (value, tt)) ∷ [])).0)
