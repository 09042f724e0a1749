-- A list of pairs with distinct keys, seen from one of them.
use Rattle.std.proofs.Common.{◌≡◌, ℕ, zero, suc, ◌<◌, Bool, true, false, cond, List, [], ◌∷◌, ◌++◌, length, take, drop, get_or, None, Some, refl, sym, ap, subst, ◌∙◌, arith}
use Rattle.std.specs.Cmp.{IsEquivalence}
use Rattle.scc_buckets.proofs.PairWrites.{set_value_at}
use Rattle.scc_buckets.proofs.PairWrites.{IsPlaceOf}
use Rattle.std.specs.List.{AllByRecursion, IsDistinct, slice_get, slice_set, remove}
use Rattle.std.specs.Map.{keys_of, lookup_entry, remove_entry, set_value, set_key}
use Rattle.std.proofs.lemmas.Map.{NonePasses}
use Rattle.std.proofs.lemmas.Map.Keys.{IsDistinct-head, IsDistinct-tail, IsDistinct-cons}
use Rattle.std.proofs.lemmas.Bool.{false≢true}

pub cond-true : {A : Type 0} {b : Bool} (x y : A) → b ≡ true → cond b x y ≡ x
cond-true x y e = ap (λ c. cond c x y) e

pub cond-false : {A : Type 0} {b : Bool} (x y : A) → b ≡ false → cond b x y ≡ y
cond-false x y e = ap (λ c. cond c x y) e

pub by_answer : {P : Type 0} (b : Bool) → (b ≡ true → P) → (b ≡ false → P) → P
by_answer true p q = p refl
by_answer false p q = q refl

module _ {K V : Type 0} (t : K → Bool) where
  pub find-split : (front : List (K × V)) (p : K × V) (back : List (K × V)) → NonePasses t front → t p.0 ≡ true → lookup_entry t (front ++ p ∷ back) ≡ Some p
  find-split [] p back n y = cond-true _ _ y
  find-split (x ∷ front) p back n y = cond-false _ _ n.0 ∙ find-split front p back n.1 y

  pub without-split : (front : List (K × V)) (p : K × V) (back : List (K × V)) → NonePasses t front → t p.0 ≡ true → remove_entry t (front ++ p ∷ back) ≡ front ++ back
  without-split [] p back n y = cond-true _ _ y
  without-split (x ∷ front) p back n y = cond-false _ _ n.0 ∙ ap (λ l. x ∷ l) (without-split front p back n.1 y)

  pub set_value-split : (front : List (K × V)) (p : K × V) (back : List (K × V)) (w : V) → NonePasses t front → t p.0 ≡ true → set_value t (front ++ p ∷ back) w ≡ front ++ (p.0, w) ∷ back
  set_value-split [] p back w n y = cond-true _ _ y
  set_value-split (x ∷ front) p back w n y = cond-false _ _ n.0 ∙ ap (λ l. x ∷ l) (set_value-split front p back w n.1 y)

  pub set_key-split : (front : List (K × V)) (p : K × V) (back : List (K × V)) (k : K) → NonePasses t front → t p.0 ≡ true → set_key t (front ++ p ∷ back) k ≡ front ++ (k, p.1) ∷ back
  set_key-split [] p back k n y = cond-true _ _ y
  set_key-split (x ∷ front) p back k n y = cond-false _ _ n.0 ∙ ap (λ l. x ∷ l) (set_key-split front p back k n.1 y)

  pub none-find : (es : List (K × V)) → lookup_entry t es ≡ None → NonePasses t es
  none-find [] n = tt
  none-find (x ∷ es) n = by_answer (t x.0) (λ y. let h : Some x ≡ None = sym (cond-true (Some x) (lookup_entry t es) y) ∙ n in cc) (λ y. (y, none-find es (sym (cond-false (Some x) (lookup_entry t es) y) ∙ n)))

  pub apart-keys : (es : List (K × V)) → NonePasses t es → AllByRecursion (λ k. t k ≡ false) (keys_of es)
  apart-keys [] n = tt
  apart-keys (x ∷ es) n = (n.0, apart-keys es n.1)

pub get-index : {X : Type 0} (es : List X) (i : ℕ) (x : X) → i < length es → x ≡ get_or es i x → slice_get es i ≡ Some x
get-index [] i x h e = absurd (omega arith)
get-index (y ∷ es) zero x h e = ap Some (sym e)
get-index (y ∷ es) (suc i) x h e = get-index es i x (omega arith) e

pub split-place : {X : Type 0} (es : List X) (i : ℕ) (x : X) → slice_get es i ≡ Some x → es ≡ take i es ++ x ∷ drop (suc i) es
split-place [] i x e = absurd (let h : None ≡ Some x = e in cc)
split-place (y ∷ es) zero x e = let h : y ≡ x = cc in ap (λ z. z ∷ es) h
split-place (y ∷ es) (suc i) x e = ap (λ l. y ∷ l) (split-place es i x e)

pub place-below : {X : Type 0} (es : List X) (i : ℕ) (x : X) → slice_get es i ≡ Some x → i < length es
place-below [] i x e = absurd (let h : None ≡ Some x = e in cc)
place-below (y ∷ es) zero x e = omega arith
place-below (y ∷ es) (suc i) x e = omega (arith, place-below es i x e)

all-without : {K V : Type 0} (P : K → Type 0) (es : List (K × V)) (i : ℕ) → AllByRecursion P (keys_of es) → AllByRecursion P (keys_of (remove es i))
all-without P [] zero h = h
all-without P [] (suc i) h = h
all-without P (x ∷ es) zero h = h.1
all-without P (x ∷ es) (suc i) h = (h.0, all-without P es i h.1)

pub keys-set_value : {K V : Type 0} (es : List (K × V)) (i : ℕ) (w : V) → keys_of (set_value_at es i w) ≡ keys_of es
keys-set_value [] i w = refl
keys-set_value (x ∷ es) zero w = refl
keys-set_value (x ∷ es) (suc i) w = ap (λ l. x.0 ∷ l) (keys-set_value es i w)

all_keys_at : {K V : Type 0} (P : K → Type 0) (front : List (K × V)) (p : K × V) (back : List (K × V)) → AllByRecursion P (keys_of (front ++ p ∷ back)) → P p.0
all_keys_at P [] p back h = h.0
all_keys_at P (x ∷ front) p back h = all_keys_at P front p back h.1

module _ {K V : Type 0} {eq : K → K → Bool} (laws : IsEquivalence eq) where
  -- if the keys are distinct, no earlier key equals k
  pub front_apart : (k : K) (front : List (K × V)) (p : K × V) (back : List (K × V)) → IsDistinct eq (keys_of (front ++ p ∷ back)) → eq k p.0 ≡ true → NonePasses (eq k) front
  front_apart k [] p back d y = tt
  front_apart k (x ∷ front) p back d y =
      let apart : eq x.0 p.0 ≡ false = all_keys_at (λ z. eq x.0 z ≡ false) front p back (IsDistinct-head eq x.0 (keys_of (front ++ p ∷ back)) d) in
      (by_answer (eq k x.0) (λ e. absurd (false≢true (sym apart ∙ sym (laws.congr k x.0 p.0 e) ∙ y))) (λ e. e), front_apart k front p back (IsDistinct-tail eq x.0 (keys_of (front ++ p ∷ back)) d) y)

module _ {K V : Type 0} {eq : K → K → Bool} (laws : IsEquivalence eq) where
  -- a search that stopped at i found the place of k
  pub found-place : (k : K) (es : List (K × V)) (i : ℕ) (p : K × V) → IsDistinct eq (keys_of es) → slice_get es i ≡ Some p → eq k p.0 ≡ true → IsPlaceOf eq es k i
  found-place k es i p d at y =
      let parts : es ≡ take i es ++ p ∷ drop (suc i) es = split-place es i p at in
      let apart : NonePasses (eq k) (take i es) = front_apart laws k (take i es) p (drop (suc i) es) (subst (λ (l : List (K × V)). IsDistinct eq (keys_of l)) parts d) y in
      (p, at, ap (lookup_entry (eq k)) parts ∙ find-split (eq k) (take i es) p (drop (suc i) es) apart y, y)

  module _ (k : K) (es : List (K × V)) (i : ℕ) (d : IsDistinct eq (keys_of es)) (found : IsPlaceOf eq es k i) where
    pub parts-at : es ≡ take i es ++ found.0 ∷ drop (suc i) es
    parts-at = split-place es i found.0 found.1

    pub apart-at : NonePasses (eq k) (take i es)
    apart-at = front_apart laws k (take i es) found.0 (drop (suc i) es) (subst (λ (l : List (K × V)). IsDistinct eq (keys_of l)) parts-at d) found.3

    pub without-at : remove_entry (eq k) es ≡ remove es i
    without-at = ap (remove_entry (eq k)) parts-at ∙ without-split (eq k) (take i es) found.0 (drop (suc i) es) apart-at found.3

    pub set_value-at : (w : V) → set_value (eq k) es w ≡ take i es ++ (found.0.0, w) ∷ drop (suc i) es
    set_value-at w = ap (λ l. set_value (eq k) l w) parts-at ∙ set_value-split (eq k) (take i es) found.0 (drop (suc i) es) w apart-at found.3

    pub set_key-at : (q : K) → set_key (eq k) es q ≡ take i es ++ (q, found.0.1) ∷ drop (suc i) es
    set_key-at q = ap (λ l. set_key (eq k) l q) parts-at ∙ set_key-split (eq k) (take i es) found.0 (drop (suc i) es) q apart-at found.3

  -- keys stay distinct if a pair with a new key is added before the others
  pub distinct-added : (es : List (K × V)) (p : K × V) → IsDistinct eq (keys_of es) → lookup_entry (eq p.0) es ≡ None → IsDistinct eq (keys_of (p ∷ es))
  distinct-added es p d n = IsDistinct-cons eq p.0 (keys_of es) (apart-keys (eq p.0) es (none-find (eq p.0) es n)) d

  -- keys stay distinct if the pair at index i is removed
  pub distinct-without : (es : List (K × V)) (i : ℕ) → IsDistinct eq (keys_of es) → IsDistinct eq (keys_of (remove es i))
  distinct-without [] zero d = d
  distinct-without [] (suc i) d = d
  distinct-without (x ∷ es) zero d = IsDistinct-tail eq x.0 (keys_of es) d
  distinct-without (x ∷ es) (suc i) d =
      IsDistinct-cons eq x.0 (keys_of (remove es i)) (all-without (λ y. eq x.0 y ≡ false) es i (IsDistinct-head eq x.0 (keys_of es) d)) (distinct-without es i (IsDistinct-tail eq x.0 (keys_of es) d))

all-set : {K V : Type 0} (P : K → Type 0) (es : List (K × V)) (i : ℕ) (q : K × V) → P q.0 → AllByRecursion P (keys_of es) → AllByRecursion P (keys_of (slice_set es i q))
all-set P [] i q y h = h
all-set P (x ∷ es) zero q y h = (y, h.1)
all-set P (x ∷ es) (suc i) q y h = (h.0, all-set P es i q y h.1)

all-along : {K : Type 0} {P Q : K → Type 0} → ((k : K) → P k → Q k) → (ks : List K) → AllByRecursion P ks → AllByRecursion Q ks
all-along f [] h = h
all-along f (k ∷ ks) h = (f k h.0, all-along f ks h.1)

all-get : {K V : Type 0} (P : K → Type 0) (es : List (K × V)) (i : ℕ) (p : K × V) → slice_get es i ≡ Some p → AllByRecursion P (keys_of es) → P p.0
all-get P [] i p e h = absurd (let n : None ≡ Some p = e in cc)
all-get P (x ∷ es) zero p e h = let s : x ≡ p = cc in subst (λ q. P q.0) s h.0
all-get P (x ∷ es) (suc i) p e h = all-get P es i p e h.1

module _ {K V : Type 0} {eq : K → K → Bool} (laws : IsEquivalence eq) where
  -- keys stay distinct if a key is replaced by an equal one
  pub distinct-set : (es : List (K × V)) (i : ℕ) (p q : K × V) → slice_get es i ≡ Some p → eq q.0 p.0 ≡ true → IsDistinct eq (keys_of es) → IsDistinct eq (keys_of (slice_set es i q))
  distinct-set [] i p q e y d = d
  distinct-set (x ∷ es) zero p q e y d =
      let s : x ≡ p = cc in
      let z : eq q.0 x.0 ≡ true = rw s y in
      IsDistinct-cons eq q.0 (keys_of es) (all-along (λ k n. laws.congr q.0 x.0 k z ∙ n) (keys_of es) (IsDistinct-head eq x.0 (keys_of es) d)) (IsDistinct-tail eq x.0 (keys_of es) d)
  distinct-set (x ∷ es) (suc i) p q e y d =
      let apart = IsDistinct-head eq x.0 (keys_of es) d in
      let away : eq x.0 q.0 ≡ false = laws.symm x.0 q.0 ∙ laws.congr q.0 p.0 x.0 y ∙ laws.symm p.0 x.0 ∙ all-get (λ k. eq x.0 k ≡ false) es i p e apart in
      IsDistinct-cons eq x.0 (keys_of (slice_set es i q)) (all-set (λ k. eq x.0 k ≡ false) es i q away apart) (distinct-set es i p q e y (IsDistinct-tail eq x.0 (keys_of es) d))
