-- The reply of a call of an index and the values that it leaves, up to equality of keys and values.
-- If look-ups find alike values, equal calls return alike replies and leave alike values.
use Rattle.std.proofs.Common.{◌≡◌, ◌∙◌, ℕ, Bool, true, List, length, Option, None, Some, refl, sym, subst, inl, inr}
use Rattle.std.specs.Cmp.{IsEquivalence, IsPartialEquivalence}
use Rattle.std.specs.Map.{lookup}
use Rattle.scc_buckets.proofs.Lookups.{distinct-IsPermutation}
use Rattle.scc_calls.specs.Copies.{Alike, Means}
use Rattle.scc_calls.specs.IndexCalls.{IndexMoves}
use Rattle.scc_calls.specs.Run.{IsRun}
use Rattle.scc_calls.specs.States.{State, ResizesTo}
use Rattle.scc_calls.specs.declared.fixed.Setting.{Setting}
use Rattle.scc_calls.specs.declared.calls_as_values.IndexCall.{IndexCall}
use Rattle.scc_calls.specs.declared.calls_as_values.IndexCall.TheVariants.{Insert, Update, Remove, Read, Contains, Clear, Len}
use Rattle.scc_calls.specs.declared.replies.Reply.{Reply}
use Rattle.scc_uses.specs.Alikeness.{Both, FindsAlike, RepliesAlike}
use Rattle.scc_uses.specs.AlikeIndexes.{IndexCallsAlike}
use Rattle.scc_uses.proofs.AlikeRuns.{Agrees, runs-alike, alike-symm, alike-trans, equal-symm, equal-trans, replies-given, replies-symm, replies-trans}
use Rattle.scc_uses.proofs.IndexIndependence.{answered, keeps-distinct, left, rearranged-values, not_waiting, there}
use Rattle.scc_uses.proofs.MapAlike.{AreAlike, as-many-there, both-cond, both-there, there-alike}

module _ {K V : Type 0} {eq : K → K → Bool} {values : V → V → Bool} (laws : IsEquivalence eq) (part : IsPartialEquivalence values) where
  -- two calls that are alike to a third are alike
  calls-euclid : (c a b : IndexCall K V) → IndexCallsAlike eq values a c → IndexCallsAlike eq values b c → IndexCallsAlike eq values a b
  calls-euclid (Insert k v) (Insert l w) (Insert j x) h i = (equal-trans laws part l k j h.0 (equal-symm laws part j k i.0), alike-trans part w v x h.1 (alike-symm part x v i.1))
  calls-euclid (Insert k v) (Insert l w) b h i = absurd i
  calls-euclid (Update k v) (Update l w) (Update j x) h i = (equal-trans laws part l k j h.0 (equal-symm laws part j k i.0), alike-trans part w v x h.1 (alike-symm part x v i.1))
  calls-euclid (Update k v) (Update l w) b h i = absurd i
  calls-euclid (Remove k) (Remove l) (Remove j) h i = equal-trans laws part l k j h (equal-symm laws part j k i)
  calls-euclid (Remove k) (Remove l) b h i = absurd i
  calls-euclid (Read k) (Read l) (Read j) h i = equal-trans laws part l k j h (equal-symm laws part j k i)
  calls-euclid (Read k) (Read l) b h i = absurd i
  calls-euclid (Contains k) (Contains l) (Contains j) h i = equal-trans laws part l k j h (equal-symm laws part j k i)
  calls-euclid (Contains k) (Contains l) b h i = absurd i
  calls-euclid Clear Clear Clear h i = tt
  calls-euclid Clear Clear b h i = absurd i
  calls-euclid Len Len Len h i = tt
  calls-euclid Len Len b h i = absurd i
  calls-euclid c a b h i = absurd h

  calls-refl : (c : IndexCall K V) → IndexCallsAlike eq values c c
  calls-refl (Insert k v) = (laws.refl k, inl refl)
  calls-refl (Update k v) = (laws.refl k, inl refl)
  calls-refl (Remove k) = laws.refl k
  calls-refl (Read k) = laws.refl k
  calls-refl (Contains k) = laws.refl k
  calls-refl Clear = tt
  calls-refl Len = tt

  calls-there : (a b : IndexCall K V) (es ds : List (K × V)) → IndexCallsAlike eq values a b → FindsAlike eq values es ds → Both (Alike values) (there eq es a) (there eq ds b)
  calls-there (Insert k v) (Insert l w) es ds h f = there-alike laws part k l es ds h.0 f
  calls-there (Update k v) (Update l w) es ds h f = there-alike laws part k l es ds h.0 f
  calls-there (Remove k) (Remove l) es ds h f = there-alike laws part k l es ds h f
  calls-there (Read k) (Read l) es ds h f = there-alike laws part k l es ds h f
  calls-there (Contains k) (Contains l) es ds h f = there-alike laws part k l es ds h f
  calls-there Clear Clear es ds h f = tt
  calls-there Len Len es ds h f = tt
  calls-there a b es ds h f = absurd h

  answered-alike : (a b : IndexCall K V) (o p : Option V) (m n : ℕ) → IndexCallsAlike eq values a b → Both (Alike values) o p → m ≡ n → RepliesAlike eq values (answered eq o m a) (answered eq p n b)
  answered-alike (Insert k v) (Insert l w) None None m n h f e = tt
  answered-alike (Insert k v) (Insert l w) (Some x) (Some y) m n h f e = h
  answered-alike (Insert k v) (Insert l w) None (Some y) m n h f e = absurd f
  answered-alike (Insert k v) (Insert l w) (Some x) None m n h f e = absurd f
  answered-alike (Update k v) (Update l w) o p m n h f e = sym (both-there (Alike values) o p f)
  answered-alike (Remove k) (Remove l) o p m n h f e = sym (both-there (Alike values) o p f)
  answered-alike (Read k) (Read l) o p m n h f e = f
  answered-alike (Contains k) (Contains l) o p m n h f e = sym (both-there (Alike values) o p f)
  answered-alike Clear Clear o p m n h f e = tt
  answered-alike Len Len o p m n h f e = e
  answered-alike a b o p m n h f e = absurd h

  same-key : (k l q : K) → eq k l ≡ true → eq q k ≡ eq q l
  same-key k l q e = laws.symm q k ∙ laws.congr k l q e ∙ laws.symm l q

  left-alike : (a b : IndexCall K V) (o p x y : Option V) (q : K) → IndexCallsAlike eq values a b → Both (Alike values) o p → Both (Alike values) x y → Both (Alike values) (left eq o x q a) (left eq p y q b)
  left-alike (Insert k v) (Insert l w) None None x y q h f i = both-cond (Alike values) (eq q k) (eq q l) (Some v) (Some w) x y (same-key k l q h.0) h.1 i
  left-alike (Insert k v) (Insert l w) (Some z) (Some u) x y q h f i = i
  left-alike (Insert k v) (Insert l w) None (Some u) x y q h f i = absurd f
  left-alike (Insert k v) (Insert l w) (Some z) None x y q h f i = absurd f
  left-alike (Update k v) (Update l w) None None x y q h f i = i
  left-alike (Update k v) (Update l w) (Some z) (Some u) x y q h f i = both-cond (Alike values) (eq q k) (eq q l) (Some v) (Some w) x y (same-key k l q h.0) h.1 i
  left-alike (Update k v) (Update l w) None (Some u) x y q h f i = absurd f
  left-alike (Update k v) (Update l w) (Some z) None x y q h f i = absurd f
  left-alike (Remove k) (Remove l) None None x y q h f i = i
  left-alike (Remove k) (Remove l) (Some z) (Some u) x y q h f i = both-cond (Alike values) (eq q k) (eq q l) None None x y (same-key k l q h) tt i
  left-alike (Remove k) (Remove l) None (Some u) x y q h f i = absurd f
  left-alike (Remove k) (Remove l) (Some z) None x y q h f i = absurd f
  left-alike (Read k) (Read l) o p x y q h f i = i
  left-alike (Contains k) (Contains l) o p x y q h f i = i
  left-alike Clear Clear o p x y q h f i = tt
  left-alike Len Len o p x y q h f i = i
  left-alike a b o p x y q h f i = absurd h

module _ {K V H I : Type 0} {eq : K → K → Bool} {values : V → V → Bool} (laws : IsEquivalence eq) (part : IsPartialEquivalence values) (g : Setting H) (h : Setting I)
    (calls : IndexCall K V → IndexCall K V → Bool) (like-calls : (a b : IndexCall K V) → calls a b ≡ true → IndexCallsAlike eq values a b)
    (replies : Reply K V → Reply K V → Bool) (like-replies : (a b : Reply K V) → replies a b ≡ true → RepliesAlike eq values a b) where
  calls-given : (made call : IndexCall K V) → Alike calls made call → IndexCallsAlike eq values made call
  calls-given made call (inl same) = subst (IndexCallsAlike eq values made) (sym same) (calls-refl laws part made)
  calls-given made call (inr e) = like-calls made call e

  moves-alike : (clone : K → K → Type 0) (s t u v : State (K × V)) (call : IndexCall K V) (q r : Reply K V) → AreAlike eq values s t → Means calls replies (IndexMoves eq clone) s call q u → Means calls replies (IndexMoves eq clone) t call r v → RepliesAlike eq values q r × AreAlike eq values u v
  moves-alike clone s t u v call q r l m n =
      let d = keeps-distinct laws clone s u m.0 m.1 l.first m.4 in
      let e = keeps-distinct laws clone t v n.0 n.1 l.second n.4 in
      let a = not_waiting laws clone s m.0 m.1 u l.first d m.4 in
      let b = not_waiting laws clone t n.0 n.1 v l.second e n.4 in
      let made = calls-euclid laws part call m.0 n.0 (calls-given m.0 call m.2) (calls-given n.0 call n.2) in
      let o : Both (Alike values) a.0 b.0 = subst (λ z. Both (Alike values) z b.0) a.1 (subst (Both (Alike values) (there eq s.0 m.0)) b.1 (calls-there laws part m.0 n.0 s.0 t.0 made l.finds)) in
      let count : length s.0 ≡ length t.0 = sym (as-many-there laws s.0 t.0 l.first l.second (λ q. both-there (Alike values) (lookup (eq q) s.0) (lookup (eq q) t.0) (l.finds q))) in
      let one : RepliesAlike eq values q (answered eq a.0 (length s.0) m.0) = subst (RepliesAlike eq values q) a.2 (replies-symm laws part m.1 q (replies-given laws part replies like-replies m.1 q m.3)) in
      let two : RepliesAlike eq values (answered eq b.0 (length t.0) n.0) r = subst (λ z. RepliesAlike eq values z r) b.2 (replies-given laws part replies like-replies n.1 r n.3) in
      let mid = answered-alike laws part m.0 n.0 a.0 b.0 (length s.0) (length t.0) made o count in (
        replies-trans laws part q (answered eq a.0 (length s.0) m.0) r one (replies-trans laws part (answered eq a.0 (length s.0) m.0) (answered eq b.0 (length t.0) n.0) r mid two),
        record {
          first = d;
          second = e;
          finds = λ p.
              subst (λ z. Both (Alike values) z (lookup (eq p) v.0)) (sym (a.3 p))
              (subst (Both (Alike values) (left eq a.0 (lookup (eq p) s.0) p m.0)) (sym (b.3 p)) (left-alike laws part m.0 n.0 a.0 b.0 (lookup (eq p) s.0) (lookup (eq p) t.0) p made o (l.finds p)));
        },
      )

  -- two runs of one list of calls from alike values agree, each with its own hasher, sizes and resizes
  pub index-runs-alike : {clone : K → K → Type 0} {s t u v : State (K × V)} {list : List (IndexCall K V)} {made others : List (Reply K V)}
      → AreAlike eq values s t → IsRun (Means calls replies (IndexMoves eq clone)) (ResizesTo g) s list made u → IsRun (Means calls replies (IndexMoves eq clone)) (ResizesTo h) t list others v
      → Agrees (AreAlike eq values) (RepliesAlike eq values) made others u v
  index-runs-alike {clone} l a b =
      runs-alike (AreAlike eq values) (RepliesAlike eq values) (moves-alike clone)
      (λ s t u number l z. record {
        first = distinct-IsPermutation laws s.0 u.0 z.same l.first;
        second = l.second;
        finds = λ q. subst (λ o. Both (Alike values) o (lookup (eq q) t.0)) (sym (rearranged-values laws s.0 u.0 q z.same l.first)) (l.finds q);
      })
      (λ s t u number l z. record {
        first = l.first;
        second = distinct-IsPermutation laws t.0 u.0 z.same l.second;
        finds = λ q. subst (Both (Alike values) (lookup (eq q) s.0)) (sym (rearranged-values laws t.0 u.0 q z.same l.second)) (l.finds q);
      })
      l a b
