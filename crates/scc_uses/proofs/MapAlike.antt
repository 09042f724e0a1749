-- The values that look-ups find decide the reply of a call of a map and the values that it leaves,
-- up to equality of keys and values. If look-ups find alike values, equal calls return alike replies and leave alike values.
use Rattle.std.proofs.Common.{◌≡◌, ◌∙◌, ℕ, Bool, true, false, cond, List, [], ◌∷◌, length, Option, None, Some, refl, sym, ap, subst, arith, inl, inr}
use Rattle.std.specs.Cmp.{IsEquivalence, IsPartialEquivalence}
use Rattle.std.specs.List.{IsDistinct, remove}
use Rattle.std.specs.List.Sorted.{IsPermutation}
use Rattle.std.specs.Map.{keys_of, lookup}
use Rattle.std.specs.Option.{is_some, option_map}
use Rattle.std.proofs.lemmas.List.Edits.{length-remove}
use Rattle.std.proofs.lemmas.List.Sorted.{IsPermutation-sym}
use Rattle.std.proofs.lemmas.Map.{lookup-set_value}
use Rattle.std.proofs.lemmas.Map.Keys.{IsDistinct-tail}
use Rattle.scc_common.specs.Pairs.{find, without}
use Rattle.scc_buckets.proofs.Lookups.{place-of_find, finds-added, distinct-IsPermutation}
use Rattle.scc_buckets.proofs.PairSplits.{cond-true, found-place, without-at, distinct-without, place-below}
use Rattle.scc_calls.specs.Copies.{Alike, Means}
use Rattle.scc_calls.specs.MapCalls.{MapMoves, map_key}
use Rattle.scc_calls.specs.Run.{IsRun}
use Rattle.scc_calls.specs.States.{State, ResizesTo}
use Rattle.scc_calls.specs.declared.fixed.Setting.{Setting}
use Rattle.scc_calls.specs.declared.calls_as_values.MapCall.{MapCall}
use Rattle.scc_calls.specs.declared.calls_as_values.MapCall.TheVariants.{Insert, Upsert, Replace, Read, Contains, Remove, Clear, Len}
use Rattle.scc_calls.specs.declared.replies.Reply.{Reply}
use Rattle.scc_calls.specs.declared.replies.Reply.TheVariants.{Inserted, Exists, Old, Key, Pair, Value, Has, Cleared, Count}
use Rattle.scc_calls.proofs.MapIndependence.{moves-distinct}
use Rattle.scc_uses.specs.Alikeness.{Both, FindsAlike, MapCallsAlike, RepliesAlike}
use Rattle.scc_uses.proofs.AlikeRuns.{Agrees, runs-alike, both-same, alike-symm, alike-trans, equal-symm, equal-trans, replies-given, replies-symm, replies-trans}
use Rattle.scc_uses.proofs.IndexIndependence.{some-of, is_some-map, value, found-value, found-some, instead, others, tail-value, rearranged-values, value-set_key, kept, value-if}

-- if two options are alike, both are there or neither is
pub both-there : {X : Type 0} (like : X → X → Type 0) (o p : Option X) → Both like o p → is_some p ≡ is_some o
both-there like None None h = refl
both-there like (Some a) (Some b) h = refl
both-there like None (Some b) h = absurd h
both-there like (Some a) None h = absurd h

pub both-cond : {X : Type 0} (like : X → X → Type 0) (b c : Bool) (o p m n : Option X) → b ≡ c → Both like o p → Both like m n → Both like (cond b o m) (cond c p n)
both-cond like true c o p m n e h i = subst (λ z. Both like o (cond z p n)) e h
both-cond like false c o p m n e h i = subst (λ z. Both like m (cond z p n)) e i

module _ {K V : Type 0} {eq : K → K → Bool} (laws : IsEquivalence eq) where
  -- if k equals l, a look-up of k finds what a look-up of l finds
  pub lookup-equal : (k l : K) (es : List (K × V)) → eq k l ≡ true → lookup (eq k) es ≡ lookup (eq l) es
  lookup-equal k l [] e = refl
  lookup-equal k l (x ∷ es) e = ap (λ b. cond b (Some x.1) (lookup (eq k) es)) (laws.congr k l x.0 e) ∙ ap (cond (eq l x.0) (Some x.1)) (lookup-equal k l es e)

  -- if two lists have distinct keys, and look-ups find a value in both or in neither, the lists are equally long
  pub as-many-there : (xs ys : List (K × V)) → IsDistinct eq (keys_of xs) → IsDistinct eq (keys_of ys) → ((q : K) → is_some (lookup (eq q) ys) ≡ is_some (lookup (eq q) xs)) → length ys ≡ length xs
  as-many-there [] [] u v f = refl
  as-many-there [] (y ∷ ys) u v f = absurd (let h : true ≡ false = sym (ap is_some (cond-true (Some y.1) (lookup (eq y.0) ys) (laws.refl y.0))) ∙ f y.0 in cc)
  as-many-there (x ∷ xs) ys u v f =
      let here = some-of (lookup (eq x.0) ys) (f x.0 ∙ ap is_some (cond-true (Some x.1) (lookup (eq x.0) xs) (laws.refl x.0))) in
      let p = found-some (eq x.0) ys here.0 here.1 in
      let at = place-of_find (eq x.0) ys p.0 p.1 in
      let place = found-place laws x.0 ys at.0 p.0 v at.1 at.2 in
      let rest = without-at laws x.0 ys at.0 v place in
      let inner = as-many-there xs (remove ys at.0) (IsDistinct-tail eq x.0 (keys_of xs) u) (distinct-without laws ys at.0 v)
      (λ q.
      ap (λ (l : List (K × V)). is_some (lookup (eq q) l)) (sym rest) ∙ ap is_some (others laws ys x.0 q v) ∙ there-cond (eq q x.0) (lookup (eq q) ys) (lookup (eq q) (x ∷ xs)) (f q) ∙ ap is_some (sym (tail-value laws x xs q u)))
      in omega (arith, inner, length-remove ys at.0 (place-below ys at.0 p.0 at.1))
    where
      there-cond : (b : Bool) (o p : Option V) → is_some o ≡ is_some p → is_some (cond b None o) ≡ is_some (cond b None p)
      there-cond true o p e = refl
      there-cond false o p e = e

module _ {K V : Type 0} (eq : K → K → Bool) where
  -- the value of the call's key
  abbrev there : List (K × V) → MapCall K V → Option V
  there es call = value-if eq es (map_key call)

  -- the reply of the call, up to the stored key, if its key has this value, or none, and there are n pairs
  abbrev answered : Option V → ℕ → MapCall K V → Reply K V
  answered None n (Insert k v) = Inserted
  answered (Some w) n (Insert k v) = Exists k v
  answered o n (Upsert k v) = Old o
  answered o n (Replace k) = Key (option_map (λ w. k) o)
  answered o n (Read k) = Value o
  answered o n (Contains k) = Has (is_some o)
  answered o n (Remove k) = Pair (option_map (λ w. (k, w)) o)
  answered o n Clear = Cleared
  answered o n Len = Count n

  -- the value that the call leaves at q, if the value at q was b
  abbrev left : Option V → Option V → K → MapCall K V → Option V
  left None b q (Insert k v) = cond (eq q k) (Some v) b
  left (Some w) b q (Insert k v) = b
  left o b q (Upsert k v) = cond (eq q k) (Some v) b
  left None b q (Remove k) = b
  left (Some w) b q (Remove k) = cond (eq q k) None b
  left o b q (Replace k) = b
  left o b q (Read k) = b
  left o b q (Contains k) = b
  left o b q Clear = None
  left o b q Len = b

module _ {K V : Type 0} {eq : K → K → Bool} (laws : IsEquivalence eq) (values : V → V → Bool) where
  -- a move returns this reply and leaves these values
  not_waiting : (s : State (K × V)) (call : MapCall K V) (reply : Reply K V) (t : State (K × V)) → IsDistinct eq (keys_of s.0) → IsDistinct eq (keys_of t.0) → MapMoves eq s call reply t
      → (o : Option V) × (there eq s.0 call ≡ o) × RepliesAlike eq values reply (answered eq o (length s.0) call) × ((q : K) → lookup (eq q) t.0 ≡ left eq o (lookup (eq q) s.0) q call)
  not_waiting s (Insert k v) Inserted t d e m =
      (None, found-value (eq k) s.0 ∙ ap value m.0, tt, λ q. instead eq s.0 t.0 k (Some (k, v)) (λ q. (finds-added laws s.0 t.0 (k, v) m.1.0 e).finds q) q)
  not_waiting s (Insert k v) (Exists l w) t d e m =
      let p = some-of (find eq s.0 k) m.1 in
      (Some p.0.1, found-value (eq k) s.0 ∙ ap value p.1, subst (λ (q : K × V). RepliesAlike eq values (Exists q.0 q.1) (Exists k v)) (sym m.0) (laws.refl k, inl refl), kept laws s t m.2)
  not_waiting s (Upsert k v) (Old None) t d e m =
      (None, found-value (eq k) s.0 ∙ ap value m.0, tt, λ q. instead eq s.0 t.0 k (Some (k, v)) (λ q. (finds-added laws s.0 t.0 (k, v) m.1.0 e).finds q) q)
  not_waiting s (Upsert k v) (Old (Some w)) t d e m =
      let here : lookup (eq k) s.0 ≡ Some w = found-value (eq k) s.0 ∙ ap value m.1 in (
        Some w,
        here,
        inl refl,
        λ q. ap (lookup (eq q)) m.2.0 ∙ lookup-set_value laws (eq k) (λ x y h. laws.congr k x y h) q v s.0 (ap is_some here) ∙ ap (λ b. cond b (Some v) (lookup (eq q) s.0)) (laws.symm k q),
      )
  not_waiting s (Replace k) (Key None) t d e m = (None, found-value (eq k) s.0 ∙ ap value m.0, tt, kept laws s t m.1)
  not_waiting s (Replace k) (Key (Some l)) t d e m =
      let at = place-of_find (eq k) s.0 (l, m.0) m.1 in
      (Some m.0, found-value (eq k) s.0 ∙ ap value m.1, laws.symm l k ∙ at.2, λ q. ap (lookup (eq q)) m.2.0 ∙ value-set_key laws k q s.0)
  not_waiting s (Read k) (Value r) t d e m = (lookup (eq k) s.0, refl, both-same (Alike values) (λ v. inl refl) r (lookup (eq k) s.0) (m.0 ∙ sym (found-value (eq k) s.0)), kept laws s t m.1)
  not_waiting s (Contains k) (Has b) t d e m =
      (lookup (eq k) s.0, refl, m.0 ∙ sym (is_some-map (λ p. p.1) (find eq s.0 k)) ∙ ap is_some (sym (found-value (eq k) s.0)), kept laws s t m.1)
  not_waiting s (Remove k) (Pair None) t d e m = (None, found-value (eq k) s.0 ∙ ap value m.0, tt, kept laws s t m.1)
  not_waiting s (Remove k) (Pair (Some p)) t d e m =
      let perm : IsPermutation (without eq s.0 k) t.0 = m.1.0 in
      let apart = distinct-IsPermutation laws t.0 (without eq s.0 k) (IsPermutation-sym (without eq s.0 k) t.0 perm) e in
      let at = place-of_find (eq k) s.0 p m.0 in (
        Some p.1,
        found-value (eq k) s.0 ∙ ap value m.0,
        (laws.symm p.0 k ∙ at.2, inl refl),
        λ q. rearranged-values laws (without eq s.0 k) t.0 q perm apart ∙ others laws s.0 k q d,
      )
  not_waiting s Clear Cleared t d e m = (None, refl, tt, λ q. ap (lookup (eq q)) m.0)
  not_waiting s Len (Count n) t d e m = (None, refl, m.0, kept laws s t m.1)
  not_waiting s call reply t d e m = absurd m

module _ {K V : Type 0} {eq : K → K → Bool} {values : V → V → Bool} (laws : IsEquivalence eq) (part : IsPartialEquivalence values) where
  -- two calls that are alike to a third are alike
  calls-euclid : (c a b : MapCall K V) → MapCallsAlike eq values a c → MapCallsAlike eq values b c → MapCallsAlike eq values a b
  calls-euclid (Insert k v) (Insert l w) (Insert j x) h i = (equal-trans laws part l k j h.0 (equal-symm laws part j k i.0), alike-trans part w v x h.1 (alike-symm part x v i.1))
  calls-euclid (Insert k v) (Insert l w) b h i = absurd i
  calls-euclid (Upsert k v) (Upsert l w) (Upsert j x) h i = (equal-trans laws part l k j h.0 (equal-symm laws part j k i.0), alike-trans part w v x h.1 (alike-symm part x v i.1))
  calls-euclid (Upsert k v) (Upsert l w) b h i = absurd i
  calls-euclid (Replace k) (Replace l) (Replace j) h i = equal-trans laws part l k j h (equal-symm laws part j k i)
  calls-euclid (Replace k) (Replace l) b h i = absurd i
  calls-euclid (Read k) (Read l) (Read j) h i = equal-trans laws part l k j h (equal-symm laws part j k i)
  calls-euclid (Read k) (Read l) b h i = absurd i
  calls-euclid (Contains k) (Contains l) (Contains j) h i = equal-trans laws part l k j h (equal-symm laws part j k i)
  calls-euclid (Contains k) (Contains l) b h i = absurd i
  calls-euclid (Remove k) (Remove l) (Remove j) h i = equal-trans laws part l k j h (equal-symm laws part j k i)
  calls-euclid (Remove k) (Remove l) b h i = absurd i
  calls-euclid Clear Clear Clear h i = tt
  calls-euclid Clear Clear b h i = absurd i
  calls-euclid Len Len Len h i = tt
  calls-euclid Len Len b h i = absurd i
  calls-euclid c a b h i = absurd h

  calls-refl : (c : MapCall K V) → MapCallsAlike eq values c c
  calls-refl (Insert k v) = (laws.refl k, inl refl)
  calls-refl (Upsert k v) = (laws.refl k, inl refl)
  calls-refl (Replace k) = laws.refl k
  calls-refl (Read k) = laws.refl k
  calls-refl (Contains k) = laws.refl k
  calls-refl (Remove k) = laws.refl k
  calls-refl Clear = tt
  calls-refl Len = tt

  -- look-ups of equal keys find alike values
  pub there-alike : (k l : K) (es ds : List (K × V)) → eq k l ≡ true → FindsAlike eq values es ds → Both (Alike values) (lookup (eq k) es) (lookup (eq l) ds)
  there-alike k l es ds e f = subst (Both (Alike values) (lookup (eq k) es)) (lookup-equal laws k l ds e) (f k)

  calls-there : (a b : MapCall K V) (es ds : List (K × V)) → MapCallsAlike eq values a b → FindsAlike eq values es ds → Both (Alike values) (there eq es a) (there eq ds b)
  calls-there (Insert k v) (Insert l w) es ds h f = there-alike k l es ds h.0 f
  calls-there (Upsert k v) (Upsert l w) es ds h f = there-alike k l es ds h.0 f
  calls-there (Replace k) (Replace l) es ds h f = there-alike k l es ds h f
  calls-there (Read k) (Read l) es ds h f = there-alike k l es ds h f
  calls-there (Contains k) (Contains l) es ds h f = there-alike k l es ds h f
  calls-there (Remove k) (Remove l) es ds h f = there-alike k l es ds h f
  calls-there Clear Clear es ds h f = tt
  calls-there Len Len es ds h f = tt
  calls-there a b es ds h f = absurd h

  both-keys : (k l : K) (o p : Option V) → eq k l ≡ true → Both (Alike values) o p → Both (λ a b. eq a b ≡ true) (option_map (λ w. k) o) (option_map (λ w. l) p)
  both-keys k l None None e h = tt
  both-keys k l (Some v) (Some w) e h = e
  both-keys k l None (Some w) e h = absurd h
  both-keys k l (Some v) None e h = absurd h

  both-pairs : (k l : K) (o p : Option V) → eq k l ≡ true → Both (Alike values) o p → RepliesAlike eq values (Pair (option_map (λ w. (k, w)) o)) (Pair (option_map (λ w. (l, w)) p))
  both-pairs k l None None e h = tt
  both-pairs k l (Some v) (Some w) e h = (e, h)
  both-pairs k l None (Some w) e h = absurd h
  both-pairs k l (Some v) None e h = absurd h

  answered-alike : (a b : MapCall K V) (o p : Option V) (m n : ℕ) → MapCallsAlike eq values a b → Both (Alike values) o p → m ≡ n → RepliesAlike eq values (answered eq o m a) (answered eq p n b)
  answered-alike (Insert k v) (Insert l w) None None m n h f e = tt
  answered-alike (Insert k v) (Insert l w) (Some x) (Some y) m n h f e = h
  answered-alike (Insert k v) (Insert l w) None (Some y) m n h f e = absurd f
  answered-alike (Insert k v) (Insert l w) (Some x) None m n h f e = absurd f
  answered-alike (Upsert k v) (Upsert l w) o p m n h f e = f
  answered-alike (Replace k) (Replace l) o p m n h f e = both-keys k l o p h f
  answered-alike (Read k) (Read l) o p m n h f e = f
  answered-alike (Contains k) (Contains l) o p m n h f e = sym (both-there (Alike values) o p f)
  answered-alike (Remove k) (Remove l) o p m n h f e = both-pairs k l o p h f
  answered-alike Clear Clear o p m n h f e = tt
  answered-alike Len Len o p m n h f e = e
  answered-alike a b o p m n h f e = absurd h

  left-alike : (a b : MapCall K V) (o p x y : Option V) (q : K) → MapCallsAlike eq values a b → Both (Alike values) o p → Both (Alike values) x y → Both (Alike values) (left eq o x q a) (left eq p y q b)
  left-alike (Insert k v) (Insert l w) None None x y q h f i = both-cond (Alike values) (eq q k) (eq q l) (Some v) (Some w) x y (laws.symm q k ∙ laws.congr k l q h.0 ∙ laws.symm l q) h.1 i
  left-alike (Insert k v) (Insert l w) (Some z) (Some u) x y q h f i = i
  left-alike (Insert k v) (Insert l w) None (Some u) x y q h f i = absurd f
  left-alike (Insert k v) (Insert l w) (Some z) None x y q h f i = absurd f
  left-alike (Upsert k v) (Upsert l w) o p x y q h f i = both-cond (Alike values) (eq q k) (eq q l) (Some v) (Some w) x y (laws.symm q k ∙ laws.congr k l q h.0 ∙ laws.symm l q) h.1 i
  left-alike (Replace k) (Replace l) o p x y q h f i = i
  left-alike (Read k) (Read l) o p x y q h f i = i
  left-alike (Contains k) (Contains l) o p x y q h f i = i
  left-alike (Remove k) (Remove l) None None x y q h f i = i
  left-alike (Remove k) (Remove l) (Some z) (Some u) x y q h f i = both-cond (Alike values) (eq q k) (eq q l) None None x y (laws.symm q k ∙ laws.congr k l q h ∙ laws.symm l q) tt i
  left-alike (Remove k) (Remove l) None (Some u) x y q h f i = absurd f
  left-alike (Remove k) (Remove l) (Some z) None x y q h f i = absurd f
  left-alike Clear Clear o p x y q h f i = tt
  left-alike Len Len o p x y q h f i = i
  left-alike a b o p x y q h f i = absurd h

module _ {K V : Type 0} (eq : K → K → Bool) (values : V → V → Bool) where
  -- look-ups find alike values in both states, and no two keys of one state are equal
  pub record AreAlike (s t : State (K × V)) : Type 0 where
    pub first : IsDistinct eq (keys_of s.0)
    pub second : IsDistinct eq (keys_of t.0)
    pub finds : FindsAlike eq values s.0 t.0

module _ {K V H I : Type 0} {eq : K → K → Bool} {values : V → V → Bool} (laws : IsEquivalence eq) (part : IsPartialEquivalence values) (g : Setting H) (h : Setting I)
    (calls : MapCall K V → MapCall K V → Bool) (like-calls : (a b : MapCall K V) → calls a b ≡ true → MapCallsAlike eq values a b)
    (replies : Reply K V → Reply K V → Bool) (like-replies : (a b : Reply K V) → replies a b ≡ true → RepliesAlike eq values a b) where
  calls-given : (made call : MapCall K V) → Alike calls made call → MapCallsAlike eq values made call
  calls-given made call (inl same) = subst (MapCallsAlike eq values made) (sym same) (calls-refl laws part made)
  calls-given made call (inr e) = like-calls made call e

  moves-alike : (s t u v : State (K × V)) (call : MapCall K V) (q r : Reply K V) → AreAlike eq values s t → Means calls replies (MapMoves eq) s call q u → Means calls replies (MapMoves eq) t call r v → RepliesAlike eq values q r × AreAlike eq values u v
  moves-alike s t u v call q r l m n =
      let d = moves-distinct laws s u m.0 m.1 l.first m.4 in
      let e = moves-distinct laws t v n.0 n.1 l.second n.4 in
      let a = not_waiting laws values s m.0 m.1 u l.first d m.4 in
      let b = not_waiting laws values t n.0 n.1 v l.second e n.4 in
      let made = calls-euclid laws part call m.0 n.0 (calls-given m.0 call m.2) (calls-given n.0 call n.2) in
      let o : Both (Alike values) a.0 b.0 = subst (λ z. Both (Alike values) z b.0) a.1 (subst (Both (Alike values) (there eq s.0 m.0)) b.1 (calls-there laws part m.0 n.0 s.0 t.0 made l.finds)) in
      let count : length s.0 ≡ length t.0 = sym (as-many-there laws s.0 t.0 l.first l.second (λ q. both-there (Alike values) (lookup (eq q) s.0) (lookup (eq q) t.0) (l.finds q))) in
      let one = replies-trans laws part q m.1 (answered eq a.0 (length s.0) m.0) (replies-symm laws part m.1 q (replies-given laws part replies like-replies m.1 q m.3)) a.2 in
      let two = replies-trans laws part (answered eq b.0 (length t.0) n.0) n.1 r (replies-symm laws part n.1 (answered eq b.0 (length t.0) n.0) b.2) (replies-given laws part replies like-replies n.1 r n.3) in
      let mid = answered-alike laws part m.0 n.0 a.0 b.0 (length s.0) (length t.0) made o count in (
        replies-trans laws part q (answered eq a.0 (length s.0) m.0) r one (replies-trans laws part (answered eq a.0 (length s.0) m.0) (answered eq b.0 (length t.0) n.0) r mid two),
        record {
          first = d;
          second = e;
          finds = λ p.
              subst (λ z. Both (Alike values) z (lookup (eq p) v.0)) (sym (a.3 p))
              (subst (Both (Alike values) (left eq a.0 (lookup (eq p) s.0) p m.0)) (sym (b.3 p)) (left-alike laws part m.0 n.0 a.0 b.0 (lookup (eq p) s.0) (lookup (eq p) t.0) p made o (l.finds p)));
        },
      )

  -- two runs of one list of calls from alike pairs agree, each with its own hasher, sizes and resizes
  pub map-runs-alike : {s t u v : State (K × V)} {list : List (MapCall K V)} {made others : List (Reply K V)}
      → AreAlike eq values s t → IsRun (Means calls replies (MapMoves eq)) (ResizesTo g) s list made u → IsRun (Means calls replies (MapMoves eq)) (ResizesTo h) t list others v
      → Agrees (AreAlike eq values) (RepliesAlike eq values) made others u v
  map-runs-alike l a b =
      runs-alike (AreAlike eq values) (RepliesAlike eq values) moves-alike
      (λ s t u number l z. record {
        first = distinct-IsPermutation laws s.0 u.0 z.same l.first;
        second = l.second;
        finds = λ q. subst (λ o. Both (Alike values) o (lookup (eq q) t.0)) (sym (rearranged-values laws s.0 u.0 q z.same l.first)) (l.finds q);
      })
      (λ s t u number l z. record {
        first = l.first;
        second = distinct-IsPermutation laws t.0 u.0 z.same l.second;
        finds = λ q. subst (Both (Alike values) (lookup (eq q) s.0)) (sym (rearranged-values laws t.0 u.0 q z.same l.second)) (l.finds q);
      })
      l a b
