-- The keys of a set, in any order, decide the reply of a call and the keys that it leaves:
-- hashes and the number of buckets don't matter.
use Rattle.std.proofs.Common.{◌≡◌, ◌∙◌, Bool, true, false, List, [], ◌∷◌, ◌++◌, length, Option, None, Some, refl, sym, ap, subst, arith}
use Rattle.std.specs.Cmp.{IsEquivalence}
use Rattle.std.specs.List.{IsDistinct}
use Rattle.std.specs.List.Sorted.{IsPermutation}
use Rattle.std.specs.Option.{IsSome, is_some, option_map}
use Rattle.std.specs.Set.{swap_key}
use Rattle.std.proofs.lemmas.List.Sorted.{IsPermutation-refl, IsPermutation-sym, IsPermutation-cons, IsPermutation-trans, IsPermutation-middle, length_permutation}
use Rattle.std.proofs.lemmas.Map.Keys.{IsDistinct-head, IsDistinct-tail, IsDistinct-cons, IsDistinct-IsPermutation}
use Rattle.scc_owned.specs.Sinks.{with_units}
use Rattle.scc_owned_set.specs.Keys.{find, without, with_key}
use Rattle.scc_buckets.proofs.Lookups.{along}
use Rattle.scc_buckets.proofs.PairSplits.{by_answer, cond-true, cond-false, distinct-added}
use Rattle.scc_calls.specs.SetCalls.{SetMoves, key_of_set}
use Rattle.scc_calls.specs.Run.{IsRun}
use Rattle.scc_calls.specs.States.{State, ResizesTo}
use Rattle.scc_calls.specs.declared.fixed.Setting.{Setting}
use Rattle.scc_calls.specs.declared.calls_as_values.MapCall.TheVariants.{Remove as RemovePair}
use Rattle.scc_calls.specs.declared.calls_as_values.SetCall.{SetCall}
use Rattle.scc_calls.specs.declared.calls_as_values.SetCall.TheVariants.{Insert, Replace, Read, Contains, Remove, Clear, Len}
use Rattle.scc_calls.specs.declared.replies.Reply.{Reply}
use Rattle.scc_calls.specs.declared.replies.Reply.TheVariants.{Inserted, Exists, Key, Pair, Has, Cleared, Count}
use Rattle.scc_calls.proofs.Independence.{Agrees, runs-agree, equally-many, first-replies, no-more}
use Rattle.scc_calls.proofs.MapIndependence.{moves-alike as pair-moves-alike}
use Rattle.scc_uses.proofs.KeyLemmas.{paired, none-distinct, find-units, without-units, to-units, from-units, units-back, units-distinct, find-rearranged}

module _ {K : Type 0} (eq : K → K → Bool) where
  -- the keys are a rearrangement of the found key and the other keys
  found-apart : (ks : List K) (k p : K) → find eq ks k ≡ Some p → IsPermutation ks (p ∷ without eq ks k)
  found-apart [] k p f = absurd (let h : None ≡ Some p = f in cc)
  found-apart (x ∷ ks) k p f = by_answer (eq k x)
      (λ y.
      let h : Some x ≡ Some p = sym (cond-true (Some x) (find eq ks k) y) ∙ f in
      let s : x ≡ p = cc in
      subst (λ (l : List K). IsPermutation (x ∷ ks) (p ∷ l)) (sym (cond-true ks (x ∷ without eq ks k) y)) (subst (λ (z : K). IsPermutation (x ∷ ks) (z ∷ ks)) s (IsPermutation-refl (x ∷ ks))))
      (λ y.
      let inner = found-apart ks k p (sym (cond-false (Some x) (find eq ks k) y) ∙ f) in
      subst (λ (l : List K). IsPermutation (x ∷ ks) (p ∷ l)) (sym (cond-false ks (x ∷ without eq ks k) y))
      (IsPermutation-trans (x ∷ ks) (x ∷ p ∷ without eq ks k) (p ∷ x ∷ without eq ks k) (IsPermutation-cons x ks (p ∷ without eq ks k) inner) (IsPermutation-middle (x ∷ []) p (without eq ks k))))

  -- after q replaces the found key, the keys are a rearrangement of q and the other keys
  key-apart : (ks : List K) (k q p : K) → find eq ks k ≡ Some p → IsPermutation (swap_key (eq k) ks q) (q ∷ without eq ks k)
  key-apart [] k q p f = absurd (let h : None ≡ Some p = f in cc)
  key-apart (x ∷ ks) k q p f = by_answer (eq k x)
      (λ y.
      subst (λ (l : List K). IsPermutation l (q ∷ without eq (x ∷ ks) k)) (sym (cond-true (q ∷ ks) (x ∷ swap_key (eq k) ks q) y))
      (subst (λ (l : List K). IsPermutation (q ∷ ks) (q ∷ l)) (sym (cond-true ks (x ∷ without eq ks k) y)) (IsPermutation-refl (q ∷ ks))))
      (λ y.
      let inner = key-apart ks k q p (sym (cond-false (Some x) (find eq ks k) y) ∙ f) in
      subst (λ (l : List K). IsPermutation l (q ∷ without eq (x ∷ ks) k)) (sym (cond-false (q ∷ ks) (x ∷ swap_key (eq k) ks q) y))
      (subst (λ (l : List K). IsPermutation (x ∷ swap_key (eq k) ks q) (q ∷ l)) (sym (cond-false ks (x ∷ without eq ks k) y))
      (IsPermutation-trans (x ∷ swap_key (eq k) ks q) (x ∷ q ∷ without eq ks k) (q ∷ x ∷ without eq ks k) (IsPermutation-cons x (swap_key (eq k) ks q) (q ∷ without eq ks k) inner) (IsPermutation-middle (x ∷ []) q (without eq ks k)))))

  -- the found key equals the key that was looked up
  pub found-equal : (ks : List K) (k p : K) → find eq ks k ≡ Some p → eq k p ≡ true
  found-equal [] k p f = absurd (let h : None ≡ Some p = f in cc)
  found-equal (x ∷ ks) k p f = by_answer (eq k x)
      (λ y. let h : Some x ≡ Some p = sym (cond-true (Some x) (find eq ks k) y) ∙ f in let s : x ≡ p = cc in subst (λ (z : K). eq k z ≡ true) s y)
      (λ y. found-equal ks k p (sym (cond-false (Some x) (find eq ks k) y) ∙ f))

module _ {K : Type 0} {eq : K → K → Bool} (laws : IsEquivalence eq) where
  found-distinct : (ks : List K) (k p : K) → find eq ks k ≡ Some p → IsDistinct eq ks → IsDistinct eq (p ∷ without eq ks k)
  found-distinct ks k p f d = IsDistinct-IsPermutation eq laws.symm ks (p ∷ without eq ks k) (found-apart eq ks k p f) d

  others-distinct : (ks : List K) (k p : K) → find eq ks k ≡ Some p → IsDistinct eq ks → IsDistinct eq (without eq ks k)
  others-distinct ks k p f d = IsDistinct-tail eq p (without eq ks k) (found-distinct ks k p f d)

  -- if q equals the found key and replaces it, the keys stay distinct
  instead-distinct : (ks : List K) (k p q : K) → find eq ks k ≡ Some p → IsDistinct eq ks → eq q p ≡ true → IsDistinct eq (q ∷ without eq ks k)
  instead-distinct ks k p q f d y =
      let apart = found-distinct ks k p f d in
      IsDistinct-cons eq q (without eq ks k)
      (along (λ z n. laws.congr q p z y ∙ n) (without eq ks k) (IsDistinct-head eq p (without eq ks k) apart))
      (IsDistinct-tail eq p (without eq ks k) apart)

  added-distinct : (ks : List K) (k : K) → find eq ks k ≡ None → IsDistinct eq ks → IsDistinct eq (k ∷ ks)
  added-distinct ks k f d =
      subst (IsDistinct eq) (ap (λ l. k ∷ l) (units-back ks)) (distinct-added laws (with_units ks) (paired k) (units-distinct eq ks d) (find-units (eq k) ks ∙ ap (option_map paired) f))

  -- if ls is a rearrangement of ks, the other keys of ls are a rearrangement of the other keys of ks
  others-alike : (ks ls : List K) (k p : K) → find eq ks k ≡ Some p → IsDistinct eq ks → IsPermutation ks ls → IsPermutation (without eq ks k) (without eq ls k)
  others-alike ks ls k p f d perm =
      let es = with_units ks in
      let ds = with_units ls in
      let fe = find-units (eq k) ks ∙ ap (option_map paired) f in
      let fd = find-units (eq k) ls ∙ ap (option_map paired) (find-rearranged laws ks ls k perm d ∙ f) in
      from-units (without eq ks k) (without eq ls k)
      (pair-moves-alike laws (es, 0) (ds, 0) (with_units (without eq ks k), 0) (with_units (without eq ls k), 0) (RemovePair k) (Pair (Some (paired p))) (Pair (Some (paired p))) (units-distinct eq ks d) (to-units ks ls perm)
      (fe, (subst (λ (l : List (K × Unit {0})). IsPermutation l (with_units (without eq ks k))) (sym (without-units (eq k) ks)) (IsPermutation-refl (with_units (without eq ks k))), refl))
      (fd, (subst (λ (l : List (K × Unit {0})). IsPermutation l (with_units (without eq ls k))) (sym (without-units (eq k) ls)) (IsPermutation-refl (with_units (without eq ls k))), refl))).1

same : {E : Type 0} (s t : State E) → t ≡ s → IsPermutation s.0 t.0
same s t e = subst (λ u. IsPermutation s.0 u.0) (sym e) (IsPermutation-refl s.0)

some-of : {X : Type 0} (o : Option X) → IsSome o → (x : X) × (o ≡ Some x)
some-of None h = absurd (let z : false ≡ true = h in cc)
some-of (Some x) h = (x, refl)

module _ {K : Type 0} (eq : K → K → Bool) where
  abbrev pub find-if : List K → Option K → Option K
  find-if ks None = None
  find-if ks (Some k) = find eq ks k

  -- the stored key that the call's key equals, if there is one
  abbrev pub there : List K → SetCall K → Option K
  there ks call = find-if ks (key_of_set call)

  -- the reply of the call if this key is there, or none
  abbrev pub answered : Option K → List K → SetCall K → Reply K (Unit {0})
  answered None ks (Insert k) = Inserted
  answered (Some p) ks (Insert k) = Exists k tt
  answered o ks (Replace k) = Key o
  answered o ks (Remove k) = Key o
  answered o ks (Read k) = Key o
  answered o ks (Contains k) = Has (is_some o)
  answered o ks Clear = Cleared
  answered o ks Len = Count (length ks)

  -- the keys that the call leaves, in some order
  abbrev pub left : Option K → List K → SetCall K → List K
  left None ks (Insert k) = k ∷ ks
  left (Some p) ks (Insert k) = ks
  left None ks (Replace k) = k ∷ ks
  left (Some p) ks (Replace k) = k ∷ without eq ks k
  left None ks (Remove k) = ks
  left (Some p) ks (Remove k) = without eq ks k
  left o ks (Read k) = ks
  left o ks (Contains k) = ks
  left o ks Clear = []
  left o ks Len = ks

  -- a move returns this reply and leaves these keys
  pub not_waiting : (s : State K) (call : SetCall K) (reply : Reply K (Unit {0})) (t : State K) → SetMoves eq s call reply t
      → (o : Option K) × (there s.0 call ≡ o) × (reply ≡ answered o s.0 call) × IsPermutation (left o s.0 call) t.0
  not_waiting s (Insert k) Inserted t m = (None, m.0, refl, m.1)
  not_waiting s (Insert k) (Exists l u) t m =
      let p = some-of (find eq s.0 k) m.1 in
      (Some p.0, p.1, ap (λ q. Exists q u) m.0, same s t m.2)
  not_waiting s (Replace k) (Key None) t m = (None, m.0, refl, m.1)
  not_waiting s (Replace k) (Key (Some l)) t m =
      (Some l, m.0, refl, subst (IsPermutation (k ∷ without eq s.0 k)) (sym m.1) (IsPermutation-sym (with_key eq s.0 k) (k ∷ without eq s.0 k) (key-apart eq s.0 k k l m.0)))
  not_waiting s (Remove k) (Key None) t m = (None, m.0, refl, same s t m.1)
  not_waiting s (Remove k) (Key (Some l)) t m = (Some l, m.0, refl, m.1)
  not_waiting s (Read k) (Key r) t m = (find eq s.0 k, refl, ap Key m.0, same s t m.1)
  not_waiting s (Contains k) (Has b) t m = (find eq s.0 k, refl, ap Has m.0, same s t m.1)
  not_waiting s Clear Cleared t m = (None, refl, refl, subst (IsPermutation []) (sym m.0) (IsPermutation-refl []))
  not_waiting s Len (Count n) t m = (None, refl, ap Count m.0, same s t m.1)
  not_waiting s call reply t m = absurd m

module _ {K : Type 0} {eq : K → K → Bool} (laws : IsEquivalence eq) where
  there-alike : (ks ls : List K) (k : Option K) → IsDistinct eq ks → IsPermutation ks ls → find-if eq ls k ≡ find-if eq ks k
  there-alike ks ls None d perm = refl
  there-alike ks ls (Some k) d perm = find-rearranged laws ks ls k perm d

  answered-alike : (o : Option K) (ks ls : List K) (call : SetCall K) → IsPermutation ks ls → answered eq o ks call ≡ answered eq o ls call
  answered-alike o ks ls Len perm = ap Count (sym (length_permutation ks ls perm))
  answered-alike None ks ls call perm = refl
  answered-alike (Some p) ks ls call perm = refl

  left-alike : (o : Option K) (ks ls : List K) (call : SetCall K) → there eq ks call ≡ o → IsDistinct eq ks → IsPermutation ks ls → IsPermutation (left eq o ks call) (left eq o ls call)
  left-alike None ks ls (Insert k) f d perm = IsPermutation-cons k ks ls perm
  left-alike (Some p) ks ls (Insert k) f d perm = perm
  left-alike None ks ls (Replace k) f d perm = IsPermutation-cons k ks ls perm
  left-alike (Some p) ks ls (Replace k) f d perm = IsPermutation-cons k (without eq ks k) (without eq ls k) (others-alike laws ks ls k p f d perm)
  left-alike None ks ls (Remove k) f d perm = perm
  left-alike (Some p) ks ls (Remove k) f d perm = others-alike laws ks ls k p f d perm
  left-alike o ks ls (Read k) f d perm = perm
  left-alike o ks ls (Contains k) f d perm = perm
  left-alike o ks ls Clear f d perm = IsPermutation-refl []
  left-alike o ks ls Len f d perm = perm

  pub left-distinct : (o : Option K) (ks : List K) (call : SetCall K) → there eq ks call ≡ o → IsDistinct eq ks → IsDistinct eq (left eq o ks call)
  left-distinct None ks (Insert k) f d = added-distinct laws ks k f d
  left-distinct (Some p) ks (Insert k) f d = d
  left-distinct None ks (Replace k) f d = added-distinct laws ks k f d
  left-distinct (Some p) ks (Replace k) f d = instead-distinct laws ks k p k f d (found-equal eq ks k p f)
  left-distinct None ks (Remove k) f d = d
  left-distinct (Some p) ks (Remove k) f d = others-distinct laws ks k p f d
  left-distinct o ks (Read k) f d = d
  left-distinct o ks (Contains k) f d = d
  left-distinct o ks Clear f d = none-distinct eq
  left-distinct o ks Len f d = d

  -- a move keeps the keys distinct
  pub moves-distinct : (s t : State K) (call : SetCall K) (reply : Reply K (Unit {0})) → IsDistinct eq s.0 → SetMoves eq s call reply t → IsDistinct eq t.0
  moves-distinct s t call reply d m =
      let a = not_waiting eq s call reply t m in
      IsDistinct-IsPermutation eq laws.symm (left eq a.0 s.0 call) t.0 a.3 (left-distinct a.0 s.0 call a.1 d)

  -- if two states have the same keys in some order, a call returns the same reply in both and leaves the same keys in some order
  moves-alike : (s t u v : State K) (call : SetCall K) (q r : Reply K (Unit {0})) → IsDistinct eq s.0 → IsPermutation s.0 t.0 → SetMoves eq s call q u → SetMoves eq t call r v → (q ≡ r) × IsPermutation u.0 v.0
  moves-alike s t u v call q r d perm m n =
      let a = not_waiting eq s call q u m in
      let b = not_waiting eq t call r v n in
      let o : a.0 ≡ b.0 = sym a.1 ∙ sym (there-alike s.0 t.0 (key_of_set call) d perm) ∙ b.1 in (
        a.2 ∙ answered-alike a.0 s.0 t.0 call perm ∙ ap (λ z. answered eq z t.0 call) o ∙ sym b.2,
        IsPermutation-trans u.0 (left eq a.0 s.0 call) v.0 (IsPermutation-sym (left eq a.0 s.0 call) u.0 a.3)
            (IsPermutation-trans (left eq a.0 s.0 call) (left eq a.0 t.0 call) v.0 (left-alike a.0 s.0 t.0 call a.1 d perm)
            (subst (λ z. IsPermutation (left eq z t.0 call) v.0) (sym o) b.3)),
      )

module _ {K : Type 0} (eq : K → K → Bool) where
  -- both states have the same keys in some order, and no two of the keys are equal
  pub record IsRearranged (s t : State K) : Type 0 where
    pub distinct : IsDistinct eq s.0
    pub keys : IsPermutation s.0 t.0

module _ {K H I : Type 0} {eq : K → K → Bool} (laws : IsEquivalence eq) (g : Setting H) (h : Setting I) where
  -- two runs of one list of calls from the same keys agree, each with its own hasher, sizes and resizes
  set-runs-agree : {s t u v : State K} {calls : List (SetCall K)} {made others : List (Reply K (Unit {0}))}
      → IsDistinct eq s.0 → IsPermutation s.0 t.0 → IsRun (SetMoves eq) (ResizesTo g) s calls made u → IsRun (SetMoves eq) (ResizesTo h) t calls others v → Agrees (IsRearranged eq) made others u v
  set-runs-agree d perm a b =
      runs-agree (IsRearranged eq)
      (λ s t u v call q r l m n. let e = moves-alike laws s t u v call q r l.distinct l.keys m n in (e.0, record { distinct = moves-distinct laws s u call q l.distinct m; keys = e.1 }))
      (λ s t u number l z. record { distinct = IsDistinct-IsPermutation eq laws.symm s.0 u.0 z.same l.distinct; keys = IsPermutation-trans u.0 s.0 t.0 (IsPermutation-sym s.0 u.0 z.same) l.keys })
      (λ s t u number l z. record { distinct = l.distinct; keys = IsPermutation-trans s.0 t.0 u.0 l.keys z.same })
      (record { distinct = d; keys = perm }) a b

  module _ {s t u v : State K} {calls : List (SetCall K)} {made others : List (Reply K (Unit {0}))} (d : IsDistinct eq s.0) (perm : IsPermutation s.0 t.0)
      (a : IsRun (SetMoves eq) (ResizesTo g) s calls made u) (b : IsRun (SetMoves eq) (ResizesTo h) t calls others v) (all : length made ≡ length calls) where
    -- if both runs answer every call, they return equal replies, and their end keys are the same in some order
    pub set-runs-same : length others ≡ length calls → (made ≡ others) × IsPermutation u.0 v.0
    set-runs-same too = let e = equally-many (IsRearranged eq) made others u v (set-runs-agree d perm a b) (all ∙ sym too) in (e.0, e.1.keys)

    -- if one run answers every call, a run that may have stopped returns the first replies of that run
    pub set-runs-first : (rest : List (Reply K (Unit {0}))) × (made ≡ others ++ rest)
    set-runs-first = first-replies (IsRearranged eq) made others u v (set-runs-agree d perm a b) (omega (arith, all, no-more b))
