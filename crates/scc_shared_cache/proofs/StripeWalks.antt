-- Walks over stripe after stripe, by a closure that takes the pairs which keep the rule.
use Rattle.std.proofs.Common.{◌≡◌, Bool, true, false, List, [], ◌∷◌, ◌++◌, Ok, map}
use Rattle.std.specs.Borrow.{Bor, MutBor}
use Rattle.std.specs.Fn.{Mut}
use Rattle.std.specs.List.{AllByRecursion, IsDistinct}
use Rattle.std.proofs.lemmas.Map.Keys.{IsDistinct-head, IsDistinct-tail, IsDistinct-cons}
use Rattle.scc_common.specs.PairWalks.{Retains, Takes}
use Rattle.scc_common.specs.PairWalks as pairs
use Rattle.scc_common.specs.Rules.{AllKeep}
use Rattle.scc_common.specs.RuleWalks.{CallableOnKept, CallableToWriteKept, CalledOnKept, CalledToWriteKept}
use Rattle.scc_common.specs.Walks.{Walks}
use Rattle.scc_common.specs.Walks as walks
use Rattle.scc_common.specs.declared.verdict.Verdict.{Verdict}
use Rattle.scc_common.specs.declared.verdict.Verdict.TheVariants.{Keep, Take}
use Rattle.scc_common.specs.PairWalks.{GoesOn}
use Rattle.std.specs.Prelude.{⊤}
use Rattle.scc_common.proofs.WalkLemmas.{turn-others}

-- every pair keeps a rule that holds of all
pub all-free : {K V : Type 0} (es : List (K × V)) → AllKeep (λ _ _. Unit {0}) es
all-free [] = tt
all-free (p ∷ es) = (tt, all-free es)

module _ {F K V : Type 0} (holds : K → V → Type 0) where
  -- after a walk through es, the closure may be called on the pairs that come next
  pub callable-next : (g : Mut F (Bor K × (Bor V × Unit {0})) Bool) (es fs : List (K × V)) {f f' : F} → CallableOnKept holds g true f (es ++ fs) → Walks (CalledOnKept holds g) f es true f' → CallableOnKept holds g true f' fs
  callable-next g [] fs h walks.ended = h
  callable-next g (p ∷ es) fs h (walks.went_on t w) = callable-next g es fs (turn-others _ _ h t.0) w

  -- the pairs of a walk that went to its end keep the rule
  pub walks-keep : (g : Mut F (Bor K × (Bor V × Unit {0})) Bool) {f f' : F} {es : List (K × V)} → Walks (CalledOnKept holds g) f es true f' → AllKeep holds es
  walks-keep g walks.ended = tt
  walks-keep g (walks.went_on t w) = (t.1, walks-keep g w)

  pub callable-after-retains : (g : Mut F (Bor K × (MutBor V × Unit {0})) (Bool × (MutBor V × Unit {0}))) {es stay : List (K × V)} (fs : List (K × V)) {f f' : F} → CallableToWriteKept holds g (λ _. ⊤) f (es ++ fs) → Retains (CalledToWriteKept holds g) f es stay f' → CallableToWriteKept holds g (λ _. ⊤) f' fs
  callable-after-retains g fs h pairs.ended = h
  callable-after-retains g fs h (pairs.kept t x) = callable-after-retains g fs (turn-others _ _ h (_, _, tt, t.0)) x
  callable-after-retains g fs h (pairs.removed t x) = callable-after-retains g fs (turn-others _ _ h (_, _, tt, t.0)) x

  pub callable-after-takes : (g : Mut F (Bor K × (MutBor V × Unit {0})) (Verdict × (MutBor V × Unit {0}))) {es stay taken : List (K × V)} (fs : List (K × V)) {f f' : F} → CallableToWriteKept holds g GoesOn f (es ++ fs) → Takes (CalledToWriteKept holds g) f es stay taken (Ok true) f' → CallableToWriteKept holds g GoesOn f' fs
  callable-after-takes g fs h pairs.ended = h
  callable-after-takes g fs h (pairs.kept t x) = callable-after-takes g fs (turn-others _ _ h (Keep, _, tt, t.0)) x
  callable-after-takes g fs h (pairs.took t x) = callable-after-takes g fs (turn-others _ _ h (Take, _, tt, t.0)) x

module _ {X K : Type 0} (eq : K → K → Bool) (key : X → K) where
  all-front : (P : K → Type 0) (xs ys : List X) → AllByRecursion P (map key (xs ++ ys)) → AllByRecursion P (map key xs)
  all-front P [] ys h = tt
  all-front P (x ∷ xs) ys h = (h.0, all-front P xs ys h.1)

  -- keys that are distinct are distinct in a beginning of the list
  pub distinct-front : (xs ys : List X) → IsDistinct eq (map key (xs ++ ys)) → IsDistinct eq (map key xs)
  unfolding IsDistinct
  distinct-front [] ys h = tt
  distinct-front (x ∷ xs) ys h =
      IsDistinct-cons eq (key x) (map key xs) (all-front (λ y. eq (key x) y ≡ false) xs ys (IsDistinct-head eq (key x) (map key (xs ++ ys)) h)) (distinct-front xs ys (IsDistinct-tail eq (key x) (map key (xs ++ ys)) h))
