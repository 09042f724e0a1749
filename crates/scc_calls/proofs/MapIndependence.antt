-- The pairs of a map determine a call's reply and the pairs after it. Order, hashes and number of buckets don't matter.
use Rattle.std.proofs.Common.{◌≡◌, ◌∙◌, Bool, true, false, cond, List, [], ◌∷◌, ◌++◌, length, Option, None, Some, refl, sym, ap, subst, arith}
use Rattle.std.specs.Cmp.{IsEquivalence}
use Rattle.std.specs.List.{IsDistinct}
use Rattle.std.specs.List.Sorted.{IsPermutation}
use Rattle.std.specs.Map.{keys_of, lookup_entry, set_value, set_key}
use Rattle.std.specs.Option.{IsSome, is_some, option_map}
use Rattle.std.proofs.lemmas.List.Sorted.{IsPermutation-refl, IsPermutation-sym, IsPermutation-cons, IsPermutation-trans, IsPermutation-middle, length_permutation}
use Rattle.std.proofs.lemmas.Map.{NonePasses}
use Rattle.std.proofs.lemmas.Map.Keys.{IsDistinct-head, IsDistinct-tail, IsDistinct-cons}
use Rattle.scc_common.specs.Pairs.{find, without}
use Rattle.scc_owned.proofs.CallerLemmas.{same-finds}
use Rattle.scc_buckets.proofs.Lookups.{along, find-IsPermutation, find-without, distinct-IsPermutation}
use Rattle.scc_buckets.proofs.PairSplits.{by_answer, cond-true, cond-false, without-split, set_value-split, set_key-split, distinct-added}
use Rattle.scc_calls.specs.MapCalls.{MapMoves, map_key}
use Rattle.scc_calls.specs.Run.{IsRun}
use Rattle.scc_calls.specs.States.{State, ResizesTo}
use Rattle.scc_calls.specs.declared.fixed.Setting.{Setting}
use Rattle.scc_calls.specs.declared.calls_as_values.MapCall.{MapCall}
use Rattle.scc_calls.specs.declared.calls_as_values.MapCall.TheVariants.{Insert, Upsert, Replace, Read, Contains, Remove, Clear, Len}
use Rattle.scc_calls.specs.declared.replies.Reply.{Reply}
use Rattle.scc_calls.specs.declared.replies.Reply.TheVariants.{Inserted, Exists, Old, Key, Pair, Value, Has, Cleared, Count}
use Rattle.scc_calls.proofs.Independence.{Agrees, runs-agree, equally-many, first-replies, no-more}

module _ {K V : Type 0} (t : K → Bool) where
  -- the pairs before and after the found pair
  split-found : (es : List (K × V)) (p : K × V) → lookup_entry t es ≡ Some p → (front : List (K × V)) × (back : List (K × V)) × (es ≡ front ++ p ∷ back) × NonePasses t front × (t p.0 ≡ true)
  split-found [] p e = absurd (let h : None ≡ Some p = e in cc)
  split-found (x ∷ es) p e = by_answer (t x.0)
      (λ y. let h : Some x ≡ Some p = sym (cond-true (Some x) (lookup_entry t es) y) ∙ e in let s : x ≡ p = cc in ([], es, ap (λ z. z ∷ es) s, tt, subst (λ (q : K × V). t q.0 ≡ true) s y))
      (λ y. let r = split-found es p (sym (cond-false (Some x) (lookup_entry t es) y) ∙ e) in (x ∷ r.0, r.1, ap (λ l. x ∷ l) r.2, (y, r.3), r.4))

module _ {K V : Type 0} (eq : K → K → Bool) where
  -- the pairs are a permutation of the found pair and the others
  found-apart : (es : List (K × V)) (k : K) (p : K × V) → find eq es k ≡ Some p → IsPermutation es (p ∷ without eq es k)
  found-apart es k p f =
      let s = split-found (eq k) es p f in
      subst (λ (l : List (K × V)). IsPermutation l (p ∷ without eq l k)) (sym s.2)
      (subst (λ (l : List (K × V)). IsPermutation (s.0 ++ p ∷ s.1) (p ∷ l)) (sym (without-split (eq k) s.0 p s.1 s.3 s.4)) (IsPermutation-middle s.0 p s.1))

  -- the pairs with a value written into the found pair are a permutation of the written pair and the others
  value-apart : (es : List (K × V)) (k : K) (p : K × V) (w : V) → find eq es k ≡ Some p → IsPermutation (set_value (eq k) es w) ((p.0, w) ∷ without eq es k)
  value-apart es k p w f =
      let s = split-found (eq k) es p f in
      subst (λ (l : List (K × V)). IsPermutation (set_value (eq k) l w) ((p.0, w) ∷ without eq l k)) (sym s.2)
      (subst (λ (l : List (K × V)). IsPermutation l ((p.0, w) ∷ without eq (s.0 ++ p ∷ s.1) k)) (sym (set_value-split (eq k) s.0 p s.1 w s.3 s.4))
      (subst (λ (l : List (K × V)). IsPermutation (s.0 ++ (p.0, w) ∷ s.1) ((p.0, w) ∷ l)) (sym (without-split (eq k) s.0 p s.1 s.3 s.4)) (IsPermutation-middle s.0 (p.0, w) s.1)))

  -- the pairs with a key written into the found pair are a permutation of the written pair and the others
  key-apart : (es : List (K × V)) (k : K) (p : K × V) (q : K) → find eq es k ≡ Some p → IsPermutation (set_key (eq k) es q) ((q, p.1) ∷ without eq es k)
  key-apart es k p q f =
      let s = split-found (eq k) es p f in
      subst (λ (l : List (K × V)). IsPermutation (set_key (eq k) l q) ((q, p.1) ∷ without eq l k)) (sym s.2)
      (subst (λ (l : List (K × V)). IsPermutation l ((q, p.1) ∷ without eq (s.0 ++ p ∷ s.1) k)) (sym (set_key-split (eq k) s.0 p s.1 q s.3 s.4))
      (subst (λ (l : List (K × V)). IsPermutation (s.0 ++ (q, p.1) ∷ s.1) ((q, p.1) ∷ l)) (sym (without-split (eq k) s.0 p s.1 s.3 s.4)) (IsPermutation-middle s.0 (q, p.1) s.1)))

module _ {K V : Type 0} {eq : K → K → Bool} (laws : IsEquivalence eq) where
  found-distinct : (es : List (K × V)) (k : K) (p : K × V) → find eq es k ≡ Some p → IsDistinct eq (keys_of es) → IsDistinct eq (keys_of (p ∷ without eq es k))
  found-distinct es k p f d = distinct-IsPermutation laws es (p ∷ without eq es k) (found-apart eq es k p f) d

  others-distinct : (es : List (K × V)) (k : K) (p : K × V) → find eq es k ≡ Some p → IsDistinct eq (keys_of es) → IsDistinct eq (keys_of (without eq es k))
  others-distinct es k p f d = IsDistinct-tail eq p.0 (keys_of (without eq es k)) (found-distinct es k p f d)

  -- keys stay distinct if another pair with an equal key replaces the found pair
  instead-distinct : (es : List (K × V)) (k : K) (p q : K × V) → find eq es k ≡ Some p → IsDistinct eq (keys_of es) → eq q.0 p.0 ≡ true → IsDistinct eq (keys_of (q ∷ without eq es k))
  instead-distinct es k p q f d y =
      let apart = found-distinct es k p f d in
      IsDistinct-cons eq q.0 (keys_of (without eq es k))
      (along (λ z n. laws.congr q.0 p.0 z y ∙ n) (keys_of (without eq es k)) (IsDistinct-head eq p.0 (keys_of (without eq es k)) apart))
      (IsDistinct-tail eq p.0 (keys_of (without eq es k)) apart)

  -- if two lists are permutations, their pairs without the found pair are permutations
  others-alike : (es ds : List (K × V)) (k : K) (p : K × V) → find eq es k ≡ Some p → IsDistinct eq (keys_of es) → IsPermutation es ds → IsPermutation (without eq es k) (without eq ds k)
  others-alike es ds k p f d perm =
      let e = distinct-IsPermutation laws es ds perm d in
      same-finds laws (without eq es k) (without eq ds k) (others-distinct es k p f d) (others-distinct ds k p (find-IsPermutation laws es ds k perm d ∙ f) e)
      (λ q. find-without laws ds k q e ∙ ap (cond (eq q k) None) (find-IsPermutation laws es ds q perm d) ∙ sym (find-without laws es k q d))

none-distinct : {K : Type 0} (eq : K → K → Bool) → IsDistinct eq []
unfolding IsDistinct
none-distinct eq = tt

same : {E : Type 0} (s t : State E) → t ≡ s → IsPermutation s.0 t.0
same s t e = subst (λ u. IsPermutation s.0 u.0) (sym e) (IsPermutation-refl s.0)

some-of : {X : Type 0} (o : Option X) → IsSome o → (x : X) × (o ≡ Some x)
some-of None h = absurd (let z : false ≡ true = h in cc)
some-of (Some x) h = (x, refl)

module _ {K V : Type 0} (eq : K → K → Bool) where
  abbrev find-if : List (K × V) → Option K → Option (K × V)
  find-if es None = None
  find-if es (Some k) = find eq es k

  -- the pair of the call's key, if there is one
  abbrev there : List (K × V) → MapCall K V → Option (K × V)
  there es call = find-if es (map_key call)

  -- the reply of the call, if that pair is there or missing
  abbrev answered : Option (K × V) → List (K × V) → MapCall K V → Reply K V
  answered None es (Insert k v) = Inserted
  answered (Some p) es (Insert k v) = Exists k v
  answered o es (Upsert k v) = Old (option_map (λ p. p.1) o)
  answered o es (Replace k) = Key (option_map (λ p. p.0) o)
  answered o es (Read k) = Value (option_map (λ p. p.1) o)
  answered o es (Contains k) = Has (is_some o)
  answered o es (Remove k) = Pair o
  answered o es Clear = Cleared
  answered o es Len = Count (length es)

  -- the pairs after the call, in some order
  abbrev left : Option (K × V) → List (K × V) → MapCall K V → List (K × V)
  left None es (Insert k v) = (k, v) ∷ es
  left (Some p) es (Insert k v) = es
  left None es (Upsert k v) = (k, v) ∷ es
  left (Some p) es (Upsert k v) = (p.0, v) ∷ without eq es k
  left None es (Replace k) = es
  left (Some p) es (Replace k) = (k, p.1) ∷ without eq es k
  left None es (Remove k) = es
  left (Some p) es (Remove k) = without eq es k
  left o es (Read k) = es
  left o es (Contains k) = es
  left o es Clear = []
  left o es Len = es

  -- a move gives the reply `answered` and leaves the pairs `left`
  not_waiting : (s : State (K × V)) (call : MapCall K V) (reply : Reply K V) (t : State (K × V)) → MapMoves eq s call reply t
      → (o : Option (K × V)) × (there s.0 call ≡ o) × (reply ≡ answered o s.0 call) × IsPermutation (left o s.0 call) t.0
  not_waiting s (Insert k v) Inserted t m = (None, m.0, refl, m.1.0)
  not_waiting s (Insert k v) (Exists l w) t m =
      let p = some-of (find eq s.0 k) m.1 in
      (Some p.0, p.1, ap (λ q. Exists q.0 q.1) m.0, same s t m.2)
  not_waiting s (Upsert k v) (Old None) t m = (None, m.0, refl, m.1.0)
  not_waiting s (Upsert k v) (Old (Some w)) t m =
      (Some (m.0, w), m.1, refl, subst (IsPermutation ((m.0, v) ∷ without eq s.0 k)) (sym m.2.0) (IsPermutation-sym (set_value (eq k) s.0 v) ((m.0, v) ∷ without eq s.0 k) (value-apart eq s.0 k (m.0, w) v m.1)))
  not_waiting s (Replace k) (Key None) t m = (None, m.0, refl, same s t m.1)
  not_waiting s (Replace k) (Key (Some l)) t m =
      (Some (l, m.0), m.1, refl, subst (IsPermutation ((k, m.0) ∷ without eq s.0 k)) (sym m.2.0) (IsPermutation-sym (set_key (eq k) s.0 k) ((k, m.0) ∷ without eq s.0 k) (key-apart eq s.0 k (l, m.0) k m.1)))
  not_waiting s (Read k) (Value r) t m = (find eq s.0 k, refl, ap Value m.0, same s t m.1)
  not_waiting s (Contains k) (Has b) t m = (find eq s.0 k, refl, ap Has m.0, same s t m.1)
  not_waiting s (Remove k) (Pair None) t m = (None, m.0, refl, same s t m.1)
  not_waiting s (Remove k) (Pair (Some p)) t m = (Some p, m.0, refl, m.1.0)
  not_waiting s Clear Cleared t m = (None, refl, refl, subst (IsPermutation []) (sym m.0) (IsPermutation-refl []))
  not_waiting s Len (Count n) t m = (None, refl, ap Count m.0, same s t m.1)
  not_waiting s call reply t m = absurd m

module _ {K V : Type 0} {eq : K → K → Bool} (laws : IsEquivalence eq) where
  there-alike : (es ds : List (K × V)) (k : Option K) → IsDistinct eq (keys_of es) → IsPermutation es ds → find-if eq ds k ≡ find-if eq es k
  there-alike es ds None d perm = refl
  there-alike es ds (Some k) d perm = find-IsPermutation laws es ds k perm d

  answered-alike : (o : Option (K × V)) (es ds : List (K × V)) (call : MapCall K V) → IsPermutation es ds → answered eq o es call ≡ answered eq o ds call
  answered-alike o es ds Len perm = ap Count (sym (length_permutation es ds perm))
  answered-alike None es ds call perm = refl
  answered-alike (Some p) es ds call perm = refl

  left-alike : (o : Option (K × V)) (es ds : List (K × V)) (call : MapCall K V) → there eq es call ≡ o → IsDistinct eq (keys_of es) → IsPermutation es ds → IsPermutation (left eq o es call) (left eq o ds call)
  left-alike None es ds (Insert k v) f d perm = IsPermutation-cons (k, v) es ds perm
  left-alike (Some p) es ds (Insert k v) f d perm = perm
  left-alike None es ds (Upsert k v) f d perm = IsPermutation-cons (k, v) es ds perm
  left-alike (Some p) es ds (Upsert k v) f d perm = IsPermutation-cons (p.0, v) (without eq es k) (without eq ds k) (others-alike laws es ds k p f d perm)
  left-alike None es ds (Replace k) f d perm = perm
  left-alike (Some p) es ds (Replace k) f d perm = IsPermutation-cons (k, p.1) (without eq es k) (without eq ds k) (others-alike laws es ds k p f d perm)
  left-alike None es ds (Remove k) f d perm = perm
  left-alike (Some p) es ds (Remove k) f d perm = others-alike laws es ds k p f d perm
  left-alike o es ds (Read k) f d perm = perm
  left-alike o es ds (Contains k) f d perm = perm
  left-alike o es ds Clear f d perm = IsPermutation-refl []
  left-alike o es ds Len f d perm = perm

  left-distinct : (o : Option (K × V)) (es : List (K × V)) (call : MapCall K V) → there eq es call ≡ o → IsDistinct eq (keys_of es) → IsDistinct eq (keys_of (left eq o es call))
  left-distinct None es (Insert k v) f d = distinct-added laws es (k, v) d f
  left-distinct (Some p) es (Insert k v) f d = d
  left-distinct None es (Upsert k v) f d = distinct-added laws es (k, v) d f
  left-distinct (Some p) es (Upsert k v) f d = instead-distinct laws es k p (p.0, v) f d (laws.refl p.0)
  left-distinct None es (Replace k) f d = d
  left-distinct (Some p) es (Replace k) f d = instead-distinct laws es k p (k, p.1) f d (split-found (eq k) es p f).4
  left-distinct None es (Remove k) f d = d
  left-distinct (Some p) es (Remove k) f d = others-distinct laws es k p f d
  left-distinct o es (Read k) f d = d
  left-distinct o es (Contains k) f d = d
  left-distinct o es Clear f d = none-distinct eq
  left-distinct o es Len f d = d

  -- a move keeps the keys distinct
  pub moves-distinct : (s t : State (K × V)) (call : MapCall K V) (reply : Reply K V) → IsDistinct eq (keys_of s.0) → MapMoves eq s call reply t → IsDistinct eq (keys_of t.0)
  moves-distinct s t call reply d m =
      let a = not_waiting eq s call reply t m in
      distinct-IsPermutation laws (left eq a.0 s.0 call) t.0 a.3 (left-distinct a.0 s.0 call a.1 d)

  -- the same call on the same pairs in another order gives the same reply, and leaves the same pairs in some order
  pub moves-alike : (s t u v : State (K × V)) (call : MapCall K V) (q r : Reply K V) → IsDistinct eq (keys_of s.0) → IsPermutation s.0 t.0 → MapMoves eq s call q u → MapMoves eq t call r v → (q ≡ r) × IsPermutation u.0 v.0
  moves-alike s t u v call q r d perm m n =
      let a = not_waiting eq s call q u m in
      let b = not_waiting eq t call r v n in
      let o : a.0 ≡ b.0 = sym a.1 ∙ sym (there-alike s.0 t.0 (map_key call) d perm) ∙ b.1 in (
        a.2 ∙ answered-alike a.0 s.0 t.0 call perm ∙ ap (λ z. answered eq z t.0 call) o ∙ sym b.2,
        IsPermutation-trans u.0 (left eq a.0 s.0 call) v.0 (IsPermutation-sym (left eq a.0 s.0 call) u.0 a.3)
            (IsPermutation-trans (left eq a.0 s.0 call) (left eq a.0 t.0 call) v.0 (left-alike a.0 s.0 t.0 call a.1 d perm)
            (subst (λ z. IsPermutation (left eq z t.0 call) v.0) (sym o) b.3)),
      )

module _ {K V : Type 0} (eq : K → K → Bool) where
  -- the pairs of two states are permutations, and no two keys are equal
  pub record IsRearranged (s t : State (K × V)) : Type 0 where
    pub distinct : IsDistinct eq (keys_of s.0)
    pub pairs : IsPermutation s.0 t.0

module _ {K V H I : Type 0} {eq : K → K → Bool} (laws : IsEquivalence eq) (g : Setting H) (h : Setting I) where
  -- two runs of the same calls from the same pairs, each with its own hasher, sizes and resizes, agree
  pub map-runs-agree : {s t u v : State (K × V)} {calls : List (MapCall K V)} {made others : List (Reply K V)}
      → IsDistinct eq (keys_of s.0) → IsPermutation s.0 t.0 → IsRun (MapMoves eq) (ResizesTo g) s calls made u → IsRun (MapMoves eq) (ResizesTo h) t calls others v → Agrees (IsRearranged eq) made others u v
  map-runs-agree d perm a b =
      runs-agree (IsRearranged eq)
      (λ s t u v call q r l m n. let e = moves-alike laws s t u v call q r l.distinct l.pairs m n in (e.0, record { distinct = moves-distinct laws s u call q l.distinct m; pairs = e.1 }))
      (λ s t u number l z. record { distinct = distinct-IsPermutation laws s.0 u.0 z.same l.distinct; pairs = IsPermutation-trans u.0 s.0 t.0 (IsPermutation-sym s.0 u.0 z.same) l.pairs })
      (λ s t u number l z. record { distinct = l.distinct; pairs = IsPermutation-trans s.0 t.0 u.0 l.pairs z.same })
      (record { distinct = d; pairs = perm }) a b

  module _ {s t u v : State (K × V)} {calls : List (MapCall K V)} {made others : List (Reply K V)} (d : IsDistinct eq (keys_of s.0)) (perm : IsPermutation s.0 t.0)
      (a : IsRun (MapMoves eq) (ResizesTo g) s calls made u) (b : IsRun (MapMoves eq) (ResizesTo h) t calls others v) (all : length made ≡ length calls) where
    -- two runs that answer every call have equal replies
    pub map-runs-same : length others ≡ length calls → (made ≡ others) × IsPermutation u.0 v.0
    map-runs-same too = let e = equally-many (IsRearranged eq) made others u v (map-runs-agree d perm a b) (all ∙ sym too) in (e.0, e.1.pairs)

    -- the replies of a run that answers every call begin with those of a run that may have stopped
    pub map-runs-first : (rest : List (Reply K V)) × (made ≡ others ++ rest)
    map-runs-first = first-replies (IsRearranged eq) made others u v (map-runs-agree d perm a b) (omega (arith, all, no-more b))
