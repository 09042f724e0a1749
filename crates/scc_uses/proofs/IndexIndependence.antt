-- The values that look-ups find decide the reply of a call of an index: neither hashes nor the number of buckets matter,
-- nor which of two equal keys is stored.
use Rattle.std.proofs.Common.{◌≡◌, ◌∙◌, ℕ, Bool, true, false, cond, List, [], ◌∷◌, ◌++◌, length, Option, None, Some, refl, sym, ap, arith}
use Rattle.std.specs.Cmp.{IsEquivalence}
use Rattle.std.specs.List.{IsDistinct, remove}
use Rattle.std.specs.List.Sorted.{IsPermutation}
use Rattle.std.specs.Map.{keys_of, lookup, lookup_entry, set_key}
use Rattle.std.specs.Option.{IsSome, is_some, option_map}
use Rattle.std.proofs.lemmas.List.Edits.{length-remove}
use Rattle.std.proofs.lemmas.List.Sorted.{IsPermutation-sym}
use Rattle.std.proofs.lemmas.Map.{lookup-set_value}
use Rattle.std.proofs.lemmas.Map.Keys.{IsDistinct-tail}
use Rattle.scc_common.specs.Pairs.{find, without}
use Rattle.scc_buckets.proofs.Lookups.{place-of_find, find-IsPermutation, find-without, finds-added, distinct-IsPermutation}
use Rattle.scc_buckets.proofs.PairSplits.{by_answer, cond-true, cond-false, found-place, without-at, distinct-without, place-below}
use Rattle.scc_calls.specs.IndexCalls.{IndexMoves, index_key}
use Rattle.scc_calls.specs.Run.{IsRun}
use Rattle.scc_calls.specs.States.{State, ResizesTo}
use Rattle.scc_calls.specs.declared.fixed.Setting.{Setting}
use Rattle.scc_calls.specs.declared.calls_as_values.IndexCall.{IndexCall}
use Rattle.scc_calls.specs.declared.calls_as_values.IndexCall.TheVariants.{Insert, Update, Remove, Read, Contains, Clear, Len}
use Rattle.scc_calls.specs.declared.calls_as_values.MapCall.TheVariants.{Insert as MapInsert, Upsert as MapUpsert, Replace as MapReplace, Remove as MapRemove, Read as MapRead, Contains as MapContains, Clear as MapClear, Len as MapLen}
use Rattle.scc_calls.specs.declared.replies.Reply.{Reply}
use Rattle.scc_calls.specs.declared.replies.Reply.TheVariants.{Inserted, Exists, Old, Key, Pair, Value, Has, Cleared, Count}
use Rattle.scc_calls.proofs.Independence.{Agrees, runs-agree, equally-many, first-replies, no-more}
use Rattle.scc_calls.proofs.MapIndependence.{moves-distinct}

pub some-of : {X : Type 0} (o : Option X) → IsSome o → (x : X) × (o ≡ Some x)
some-of None h = absurd (let z : false ≡ true = h in cc)
some-of (Some x) h = (x, refl)

pub is_some-map : {X Y : Type 0} (f : X → Y) (o : Option X) → is_some (option_map f o) ≡ is_some o
is_some-map f None = refl
is_some-map f (Some x) = refl

module _ {K V : Type 0} where
  -- the value of a found pair, if there is one
  abbrev pub value : Option (K × V) → Option V
  value o = option_map (λ p. p.1) o

  pub value-cond : (b : Bool) (o p : Option (K × V)) → value (cond b o p) ≡ cond b (value o) (value p)
  value-cond true o p = refl
  value-cond false o p = refl

  pub found-value : (t : K → Bool) (es : List (K × V)) → lookup t es ≡ value (lookup_entry t es)
  found-value t [] = refl
  found-value t (x ∷ es) = by_answer (t x.0)
      (λ y. cond-true (Some x.1) (lookup t es) y ∙ sym (ap value (cond-true (Some x) (lookup_entry t es) y)))
      (λ y. cond-false (Some x.1) (lookup t es) y ∙ found-value t es ∙ sym (ap value (cond-false (Some x) (lookup_entry t es) y)))

  pub found-some : (t : K → Bool) (es : List (K × V)) (w : V) → lookup t es ≡ Some w → (p : K × V) × (lookup_entry t es ≡ Some p)
  found-some t es w f = some-of (lookup_entry t es) (sym (is_some-map (λ p. p.1) (lookup_entry t es)) ∙ ap is_some (sym (found-value t es) ∙ f))

module _ {K V : Type 0} (eq : K → K → Bool) where
  -- if the pairs that look-ups find change at k alone, the values that look-ups find change at k alone
  pub instead : (old new : List (K × V)) (k : K) (there : Option (K × V)) → ((q : K) → find eq new q ≡ cond (eq q k) there (find eq old q)) → (q : K) → lookup (eq q) new ≡ cond (eq q k) (value there) (lookup (eq q) old)
  instead old new k there f q = found-value (eq q) new ∙ ap value (f q) ∙ value-cond (eq q k) there (find eq old q) ∙ ap (cond (eq q k) (value there)) (sym (found-value (eq q) old))

module _ {K V : Type 0} {eq : K → K → Bool} (laws : IsEquivalence eq) where
  -- after the pair of k is removed, a look-up of k finds no value, and other look-ups find the values that they found
  pub others : (es : List (K × V)) (k q : K) → IsDistinct eq (keys_of es) → lookup (eq q) (without eq es k) ≡ cond (eq q k) None (lookup (eq q) es)
  others es k q d = instead eq es (without eq es k) k None (λ q. find-without laws es k q d) q

  pub tail-value : (x : K × V) (xs : List (K × V)) (q : K) → IsDistinct eq (keys_of (x ∷ xs)) → lookup (eq q) xs ≡ cond (eq q x.0) None (lookup (eq q) (x ∷ xs))
  tail-value x xs q d = ap (lookup (eq q)) (sym (cond-true xs (x ∷ without eq xs x.0) (laws.refl x.0))) ∙ others (x ∷ xs) x.0 q d

  -- if two lists have distinct keys, and look-ups find the same values in both, the lists are equally long
  pub same-count : (xs ys : List (K × V)) → IsDistinct eq (keys_of xs) → IsDistinct eq (keys_of ys) → ((q : K) → lookup (eq q) ys ≡ lookup (eq q) xs) → length ys ≡ length xs
  same-count [] [] u v f = refl
  same-count [] (y ∷ ys) u v f = absurd (let h : Some y.1 ≡ None = sym (cond-true (Some y.1) (lookup (eq y.0) ys) (laws.refl y.0)) ∙ f y.0 in cc)
  same-count (x ∷ xs) ys u v f =
      let here : lookup (eq x.0) ys ≡ Some x.1 = f x.0 ∙ cond-true (Some x.1) (lookup (eq x.0) xs) (laws.refl x.0) in
      let p = found-some (eq x.0) ys x.1 here in
      let at = place-of_find (eq x.0) ys p.0 p.1 in
      let place = found-place laws x.0 ys at.0 p.0 v at.1 at.2 in
      let rest = without-at laws x.0 ys at.0 v place in
      let inner = same-count xs (remove ys at.0) (IsDistinct-tail eq x.0 (keys_of xs) u) (distinct-without laws ys at.0 v)
      (λ q. ap (lookup (eq q)) (sym rest) ∙ others ys x.0 q v ∙ ap (cond (eq q x.0) None) (f q) ∙ sym (tail-value x xs q u)) in
      omega (arith, inner, length-remove ys at.0 (place-below ys at.0 p.0 at.1))

  -- a look-up finds the same value in the pairs and in a rearrangement of the pairs
  pub rearranged-values : (es ds : List (K × V)) (q : K) → IsPermutation es ds → IsDistinct eq (keys_of es) → lookup (eq q) ds ≡ lookup (eq q) es
  rearranged-values es ds q perm d = found-value (eq q) ds ∙ ap value (find-IsPermutation laws es ds q perm d) ∙ sym (found-value (eq q) es)

  -- if a key replaces an equal key, look-ups find the values that they found
  pub value-set_key : (k q : K) (es : List (K × V)) → lookup (eq q) (set_key (eq k) es k) ≡ lookup (eq q) es
  value-set_key k q [] = refl
  value-set_key k q (x ∷ es) = by_answer (eq k x.0)
      (λ y.
      ap (lookup (eq q)) (cond-true ((k, x.1) ∷ es) (x ∷ set_key (eq k) es k) y)
      ∙ ap (λ b. cond b (Some x.1) (lookup (eq q) es)) (laws.symm q k ∙ laws.congr k x.0 q y ∙ laws.symm x.0 q))
      (λ y.
      ap (lookup (eq q)) (cond-false ((k, x.1) ∷ es) (x ∷ set_key (eq k) es k) y)
      ∙ ap (cond (eq q x.0) (Some x.1)) (value-set_key k q es))

module _ {K V : Type 0} (eq : K → K → Bool) where
  abbrev pub value-if : List (K × V) → Option K → Option V
  value-if es None = None
  value-if es (Some k) = lookup (eq k) es

  -- the value of the call's key
  abbrev pub there : List (K × V) → IndexCall K V → Option V
  there es call = value-if es (index_key call)

  -- the reply of the call if its key has this value, or none, and there are n pairs
  abbrev pub answered : Option V → ℕ → IndexCall K V → Reply K V
  answered None n (Insert k v) = Inserted
  answered (Some w) n (Insert k v) = Exists k v
  answered o n (Update k v) = Has (is_some o)
  answered o n (Remove k) = Has (is_some o)
  answered o n (Read k) = Value o
  answered o n (Contains k) = Has (is_some o)
  answered o n Clear = Cleared
  answered o n Len = Count n

  -- the value that the call leaves at q, if the value at q was b
  abbrev pub left : Option V → Option V → K → IndexCall K V → Option V
  left None b q (Insert k v) = cond (eq q k) (Some v) b
  left (Some w) b q (Insert k v) = b
  left None b q (Update k v) = b
  left (Some w) b q (Update k v) = cond (eq q k) (Some v) b
  left None b q (Remove k) = b
  left (Some w) b q (Remove k) = cond (eq q k) None b
  left o b q (Read k) = b
  left o b q (Contains k) = b
  left o b q Clear = None
  left o b q Len = b

module _ {K V : Type 0} {eq : K → K → Bool} (laws : IsEquivalence eq) where
  pub kept : (s t : State (K × V)) → t ≡ s → (q : K) → lookup (eq q) t.0 ≡ lookup (eq q) s.0
  kept s t e q = ap (λ (z : State (K × V)). lookup (eq q) z.0) e

  -- a move returns this reply and leaves these values
  pub not_waiting : (clone : K → K → Type 0) (s : State (K × V)) (call : IndexCall K V) (reply : Reply K V) (t : State (K × V)) → IsDistinct eq (keys_of s.0) → IsDistinct eq (keys_of t.0) → IndexMoves eq clone s call reply t
      → (o : Option V) × (there eq s.0 call ≡ o) × (reply ≡ answered eq o (length s.0) call) × ((q : K) → lookup (eq q) t.0 ≡ left eq o (lookup (eq q) s.0) q call)
  not_waiting clone s (Insert k v) Inserted t d e m =
      (None, found-value (eq k) s.0 ∙ ap value m.0, refl, λ q. instead eq s.0 t.0 k (Some (k, v)) (λ q. (finds-added laws s.0 t.0 (k, v) m.1.0 e).finds q) q)
  not_waiting clone s (Insert k v) (Exists l w) t d e m =
      let p = some-of (find eq s.0 k) m.1 in
      (Some p.0.1, found-value (eq k) s.0 ∙ ap value p.1, ap (λ q. Exists q.0 q.1) m.0, kept s t m.2)
  not_waiting clone s (Update k v) (Has false) t d e m = (None, found-value (eq k) s.0 ∙ ap value m.0, refl, kept s t m.1)
  not_waiting clone s (Update k v) (Has true) t d e m =
      let w = m.6 in
      let here : lookup (eq k) s.0 ≡ Some m.3 = found-value (eq k) s.0 ∙ ap value w.1 in (
        Some m.3,
        here,
        refl,
        λ q.
            ap (lookup (eq q)) m.7.2.0 ∙ value-set_key laws m.1 q m.0.0 ∙ ap (lookup (eq q)) w.2.0
            ∙ lookup-set_value laws (eq k) (λ x y h. laws.congr k x y h) q v s.0 (ap is_some here) ∙ ap (λ b. cond b (Some v) (lookup (eq q) s.0)) (laws.symm k q),
      )
  not_waiting clone s (Remove k) (Has false) t d e m = (None, found-value (eq k) s.0 ∙ ap value m.0, refl, kept s t m.1)
  not_waiting clone s (Remove k) (Has true) t d e m =
      let perm : IsPermutation (without eq s.0 k) t.0 = m.1.1.0 in
      let apart = distinct-IsPermutation laws t.0 (without eq s.0 k) (IsPermutation-sym (without eq s.0 k) t.0 perm) e in
      (Some m.0.1, found-value (eq k) s.0 ∙ ap value m.1.0, refl, λ q. rearranged-values laws (without eq s.0 k) t.0 q perm apart ∙ others laws s.0 k q d)
  not_waiting clone s (Read k) (Value r) t d e m = (lookup (eq k) s.0, refl, ap Value (m.0 ∙ sym (found-value (eq k) s.0)), kept s t m.1)
  not_waiting clone s (Contains k) (Has b) t d e m =
      (lookup (eq k) s.0, refl, ap Has (m.0 ∙ sym (is_some-map (λ p. p.1) (find eq s.0 k)) ∙ ap is_some (sym (found-value (eq k) s.0))), kept s t m.1)
  not_waiting clone s Clear Cleared t d e m = (None, refl, refl, λ q. ap (lookup (eq q)) m.0)
  not_waiting clone s Len (Count n) t d e m = (None, refl, ap Count m.0, kept s t m.1)
  not_waiting clone s call reply t d e m = absurd m

  -- a move keeps the keys distinct
  pub keeps-distinct : (clone : K → K → Type 0) (s t : State (K × V)) (call : IndexCall K V) (reply : Reply K V) → IsDistinct eq (keys_of s.0) → IndexMoves eq clone s call reply t → IsDistinct eq (keys_of t.0)
  keeps-distinct clone s t (Insert k v) r d m = moves-distinct laws s t (MapInsert k v) r d m
  keeps-distinct clone s t (Update k v) (Has false) d m = moves-distinct laws s t (MapReplace k) (Key None) d m
  keeps-distinct clone s t (Update k v) (Has true) d m =
      moves-distinct laws m.0 t (MapReplace m.1) (Key (Some m.2)) (moves-distinct laws s m.0 (MapUpsert k v) (Old (Some m.3)) d m.6) m.7
  keeps-distinct clone s t (Remove k) (Has false) d m = moves-distinct laws s t (MapRemove k) (Pair None) d m
  keeps-distinct clone s t (Remove k) (Has true) d m = moves-distinct laws s t (MapRemove k) (Pair (Some m.0)) d m.1
  keeps-distinct clone s t (Read k) r d m = moves-distinct laws s t (MapRead k) r d m
  keeps-distinct clone s t (Contains k) r d m = moves-distinct laws s t (MapContains k) r d m
  keeps-distinct clone s t Clear r d m = moves-distinct laws s t MapClear r d m
  keeps-distinct clone s t Len r d m = moves-distinct laws s t MapLen r d m
  keeps-distinct clone s t call reply d m = absurd m

module _ {K V : Type 0} (eq : K → K → Bool) where
  -- look-ups find the same values in both states, and no two keys of one state are equal
  pub record IsAlike (s t : State (K × V)) : Type 0 where
    pub first : IsDistinct eq (keys_of s.0)
    pub second : IsDistinct eq (keys_of t.0)
    pub values : (q : K) → lookup (eq q) t.0 ≡ lookup (eq q) s.0

module _ {K V : Type 0} {eq : K → K → Bool} (laws : IsEquivalence eq) where
  there-alike : (s t : State (K × V)) (k : Option K) → IsAlike eq s t → value-if eq t.0 k ≡ value-if eq s.0 k
  there-alike s t None l = refl
  there-alike s t (Some k) l = l.values k

  -- if look-ups find the same values in two states, a call returns the same reply in both and leaves the same values
  moves-alike : (clone : K → K → Type 0) (s t u v : State (K × V)) (call : IndexCall K V) (q r : Reply K V) → IsAlike eq s t → IndexMoves eq clone s call q u → IndexMoves eq clone t call r v → (q ≡ r) × IsAlike eq u v
  moves-alike clone s t u v call q r l m n =
      let d = keeps-distinct laws clone s u call q l.first m in
      let e = keeps-distinct laws clone t v call r l.second n in
      let a = not_waiting laws clone s call q u l.first d m in
      let b = not_waiting laws clone t call r v l.second e n in
      let o : a.0 ≡ b.0 = sym a.1 ∙ sym (there-alike s t (index_key call) l) ∙ b.1 in
      let count : length t.0 ≡ length s.0 = same-count laws s.0 t.0 l.first l.second l.values in (
        a.2 ∙ ap (λ z. answered eq z (length s.0) call) o ∙ ap (λ z. answered eq b.0 z call) (sym count) ∙ sym b.2,
        record {
          first = d;
          second = e;
          values = λ p. b.3 p ∙ ap (λ z. left eq z (lookup (eq p) t.0) p call) (sym o) ∙ ap (λ z. left eq a.0 z p call) (l.values p) ∙ sym (a.3 p);
        },
      )

module _ {K V H I : Type 0} {eq : K → K → Bool} {clone : K → K → Type 0} (laws : IsEquivalence eq) (g : Setting H) (h : Setting I) where
  -- two runs of one list of calls from the same values agree, each with its own hasher, sizes and resizes
  index-runs-agree : {s t u v : State (K × V)} {calls : List (IndexCall K V)} {made others : List (Reply K V)}
      → IsAlike eq s t → IsRun (IndexMoves eq clone) (ResizesTo g) s calls made u → IsRun (IndexMoves eq clone) (ResizesTo h) t calls others v → Agrees (IsAlike eq) made others u v
  index-runs-agree l a b =
      runs-agree (IsAlike eq)
      (λ s t u v call q r l m n. moves-alike laws clone s t u v call q r l m n)
      (λ s t u number l z. record { first = distinct-IsPermutation laws s.0 u.0 z.same l.first; second = l.second; values = λ q. l.values q ∙ sym (rearranged-values laws s.0 u.0 q z.same l.first) })
      (λ s t u number l z. record { first = l.first; second = distinct-IsPermutation laws t.0 u.0 z.same l.second; values = λ q. rearranged-values laws t.0 u.0 q z.same l.second ∙ l.values q })
      l a b

  module _ {s t u v : State (K × V)} {calls : List (IndexCall K V)} {made others : List (Reply K V)} (l : IsAlike eq s t)
      (a : IsRun (IndexMoves eq clone) (ResizesTo g) s calls made u) (b : IsRun (IndexMoves eq clone) (ResizesTo h) t calls others v) (all : length made ≡ length calls) where
    -- if both runs answer every call, they return equal replies, and their end states are alike
    pub index-runs-same : length others ≡ length calls → (made ≡ others) × IsAlike eq u v
    index-runs-same too = equally-many (IsAlike eq) made others u v (index-runs-agree l a b) (all ∙ sym too)

    -- if one run answers every call, a run that may have stopped returns the first replies of that run
    pub index-runs-first : (rest : List (Reply K V)) × (made ≡ others ++ rest)
    index-runs-first = first-replies (IsAlike eq) made others u v (index-runs-agree l a b) (omega (arith, all, no-more b))
