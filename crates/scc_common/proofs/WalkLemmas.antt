-- Walks over joined lists.
use Rattle.std.proofs.Common.{◌≡◌, ℕ, zero, suc, ◌≤◌, Bool, true, false, List, [], ◌∷◌, ◌++◌, length, drop, refl, sym, ap, subst, ◌∙◌, append_assoc, arith}
use Rattle.std.specs.Borrow.{Bor}
use Rattle.std.specs.Fn.{Mut}
use Rattle.std.specs.List.{FoldsTo, All}
use Rattle.scc_common.specs.Walks.{CalledOn, TakesOn, HoldsInTurn, CallableWhile, Walks, ended, stopped, went_on}
use denote.Param.Always.{always_mut, mut_next}

module _ {F K V : Type 0} {T : F → K × V → Bool → F → Type 0} where
  -- a walk through all of xs and a walk through ys after it are a walk through xs ++ ys
  pub walk-append : {f g h : F} {xs ys : List (K × V)} {b : Bool} → Walks T f xs true g → Walks T g ys b h → Walks T f (xs ++ ys) b h
  walk-append ended v = v
  walk-append (went_on t w) v = went_on t (walk-append w v)

  -- a walk that stopped in xs also stops in xs ++ ys
  pub walk-stopped : {f g : F} {xs : List (K × V)} (ys : List (K × V)) → Walks T f xs false g → Walks T f (xs ++ ys) false g
  walk-stopped ys (stopped t) = stopped t
  walk-stopped ys (went_on t w) = went_on t (walk-stopped ys w)

pub drop-past : {X : Type 0} (xs : List X) (i : ℕ) → length xs ≤ i → drop i xs ≡ []
drop-past [] zero h = refl
drop-past [] (suc i) h = refl
drop-past (x ∷ xs) zero h = absurd (omega arith)
drop-past (x ∷ xs) (suc i) h = drop-past xs i (omega arith)

all-at : {X : Type 0} (P : X → Type 0) (before after : List X) (x : X) → All P (before ++ x ∷ after) → P x
all-at P [] after x h = h 0 x (omega arith)
all-at P (y ∷ before) after x h = all-at P before after x (λ k d below. h (suc k) d (omega arith))

module _ {F P : Type 0} (Step : F → P → F → Type 0) (Q : F → P → Type 0) where
  pub turn-first : {f : F} {p : P} {es : List P} → HoldsInTurn Step Q f (p ∷ es) → Q f p
  turn-first {f = f} {p = p} {es = es} h = h.at [] es p f refl refl

  -- after the step of the first item, `HoldsInTurn` holds of the other items
  pub turn-others : {f f' : F} {p : P} {es : List P} → HoldsInTurn Step Q f (p ∷ es) → Step f p f' → HoldsInTurn Step Q f' es
  turn-others {f' = f'} {p = p} h t = record { at = λ before after q f'' e folds. h.at (p ∷ before) after q f'' (ap (λ z. p ∷ z) e) (f', t, folds) }

  pub turn-front : {f : F} (es fs : List P) → HoldsInTurn Step Q f (es ++ fs) → HoldsInTurn Step Q f es
  turn-front es fs h = record { at = λ before after q f' e folds. h.at before (after ++ fs) q f' (ap (λ z. z ++ fs) e ∙ append_assoc before (q ∷ after) fs) folds }

  -- if each step keeps `Always`, and `Always` gives Q, then Q holds at each item
  pub turn-always : (Always : F → Type 0) → ((f f' : F) (p : P) → Step f p f' → Always f → Always f') → ((f : F) (p : P) → Always f → Q f p) → (f : F) (es : List P) → Always f → HoldsInTurn Step Q f es
  turn-always Always keeps gives f es a = record { at = λ before after p f' e folds. gives f' p (after-all before f f' folds a) }
    where
      after-all : (xs : List P) (g g' : F) → FoldsTo Step g xs g' → Always g → Always g'
      after-all [] g g' e h = subst Always e h
      after-all (x ∷ xs) g g' e h = after-all xs e.0 g' e.2 (keeps g e.0 x e.1 h)

module _ {F K V : Type 0} (g : Mut F (Bor K × (Bor V × Unit {0})) Bool) where
  -- after a walk through all of es, the closure may be called on the pairs that come next
  pub callable-after : (es fs : List (K × V)) {f f' : F} → CallableWhile g true f (es ++ fs) → Walks (CalledOn g) f es true f' → CallableWhile g true f' fs
  callable-after [] fs h ended = h
  callable-after (p ∷ es) fs h (went_on t w) = callable-after es fs (turn-others _ _ h t) w

  -- a closure that may always be called may be called on all pairs
  pub CallableWhile-always : (on : Bool) (f : F) (es : List (K × V)) → always_mut g f → CallableWhile g on f es
  CallableWhile-always on = turn-always _ _ (always_mut g) (λ f f' p t h. mut_next g _ _ _ _ _ t.called refl h) (λ f p h key value shows. (h.at ((key, (value, tt)) ∷ [])).0)

  -- a closure that no call changes may be called on all pairs that it takes
  pub CallableWhile-same : (on : Bool) (f : F) (es : List (K × V)) → ((p : K × V) (f' : F) → CalledOn g f p on f' → f' ≡ f) → All (TakesOn g f) es → CallableWhile g on f es
  CallableWhile-same on f es same takes = record { at = λ before after p f' e folds. subst (λ s. TakesOn g s p) (sym (unmoved before f' folds)) (all-at (TakesOn g f) before after p (subst (All (TakesOn g f)) e takes)) }
    where
      unmoved : (xs : List (K × V)) (f' : F) → FoldsTo (λ s p t. CalledOn g s p on t) f xs f' → f' ≡ f
      unmoved [] f' e = sym e
      unmoved (x ∷ xs) f' e = unmoved xs f' (subst (λ s. FoldsTo (λ s p t. CalledOn g s p on t) s xs f') (same x e.0 e.1) e.2)
