-- The reply of a call of a set and the keys that it leaves, up to equality of keys.
-- If two sets have equal keys, equal calls return alike replies and leave equal keys.
use Rattle.std.proofs.Common.{◌≡◌, ◌∙◌, Bool, true, false, cond, List, [], ◌∷◌, length, suc, Option, None, Some, refl, sym, ap, subst, inl, inr}
use Rattle.std.specs.Cmp.{IsEquivalence, IsPartialEquivalence}
use Rattle.std.specs.List.{IsDistinct}
use Rattle.std.specs.Map.{lookup, lookup_entry}
use Rattle.std.specs.Option.{is_some}
use Rattle.std.proofs.lemmas.Map.Keys.{IsDistinct-IsPermutation}
use Rattle.scc_owned.specs.Sinks.{with_units}
use Rattle.scc_owned_set.specs.Keys.{find, without}
use Rattle.scc_buckets.proofs.Lookups.{find-without}
use Rattle.scc_calls.specs.Copies.{Alike, Means}
use Rattle.scc_calls.specs.SetCalls.{SetMoves}
use Rattle.scc_calls.specs.Run.{IsRun}
use Rattle.scc_calls.specs.States.{State, ResizesTo}
use Rattle.scc_calls.specs.declared.fixed.Setting.{Setting}
use Rattle.scc_calls.specs.declared.calls_as_values.SetCall.{SetCall}
use Rattle.scc_calls.specs.declared.calls_as_values.SetCall.TheVariants.{Insert, Replace, Remove, Read, Contains, Clear, Len}
use Rattle.scc_calls.specs.declared.replies.Reply.{Reply}
use Rattle.scc_uses.specs.Alikeness.{Both, HaveEqual, RepliesAlike}
use Rattle.scc_uses.specs.AlikeSets.{SetCallsAlike}
use Rattle.scc_uses.proofs.AlikeRuns.{Agrees, runs-alike, replies-given, replies-symm, replies-trans}
use Rattle.scc_uses.proofs.IndexIndependence.{is_some-map, found-value}
use Rattle.scc_uses.proofs.KeyLemmas.{paired, find-alike, find-rearranged, find-units, units-distinct, without-units}
use Rattle.scc_uses.proofs.MapAlike.{as-many-there, both-there}
use Rattle.scc_uses.proofs.SetIndependence.{answered, found-equal, left, left-distinct, moves-distinct, not_waiting, there}

abbrev pub any_unit : Unit {0} → Unit {0} → Bool
any_unit a b = true

units-alike : IsPartialEquivalence any_unit
units-alike = record { symm = λ x y. refl; trans = λ x y z e f. refl }

cond-none : {X : Type 0} (b : Bool) (o : Option X) → is_some (cond b None o) ≡ cond b false (is_some o)
cond-none true o = refl
cond-none false o = refl

cond-some : {X : Type 0} (b : Bool) (x : X) (o : Option X) → is_some (cond b (Some x) o) ≡ cond b true (is_some o)
cond-some true x o = refl
cond-some false x o = refl

cond-past : (b c : Bool) → cond b true (cond b false c) ≡ cond b true c
cond-past true c = refl
cond-past false c = refl

units-length : {K : Type 0} (ks : List K) → length (with_units ks) ≡ length ks
units-length [] = refl
units-length (k ∷ ks) = ap suc (units-length ks)

module _ {K : Type 0} {eq : K → K → Bool} (laws : IsEquivalence eq) where
  there-others : (ks : List K) (k q : K) → IsDistinct eq ks → is_some (find eq (without eq ks k) q) ≡ cond (eq q k) false (is_some (find eq ks q))
  there-others ks k q d =
      sym (is_some-map paired (find eq (without eq ks k) q))
      ∙ ap is_some (sym (find-units (eq q) (without eq ks k)) ∙ ap (lookup_entry (eq q)) (sym (without-units (eq k) ks)) ∙ find-without laws (with_units ks) k q (units-distinct eq ks d))
      ∙ cond-none (eq q k) (lookup_entry (eq q) (with_units ks))
      ∙ ap (cond (eq q k) false) (ap is_some (find-units (eq q) ks) ∙ is_some-map paired (find eq ks q))

  -- if two sets have equal keys, they have equally many keys
  pub as-many : (ks ls : List K) → IsDistinct eq ks → IsDistinct eq ls → HaveEqual eq ks ls → length ls ≡ length ks
  as-many ks ls d e f =
      sym (units-length ls)
      ∙ as-many-there laws (with_units ks) (with_units ls) (units-distinct eq ks d) (units-distinct eq ls e)
      (λ q. valued ls q ∙ f q ∙ sym (valued ks q))
      ∙ units-length ks
    where
      valued : (js : List K) (q : K) → is_some (lookup (eq q) (with_units js)) ≡ is_some (find eq js q)
      valued js q =
          ap is_some (found-value (eq q) (with_units js)) ∙ is_some-map (λ p. p.1) (lookup_entry (eq q) (with_units js))
          ∙ ap is_some (find-units (eq q) js) ∙ is_some-map paired (find eq js q)

module _ {K : Type 0} (eq : K → K → Bool) where
  -- whether a key that equals q is there after the call: the first Bool says whether the call's key was there, b whether q was
  abbrev stays : Bool → Bool → K → SetCall K → Bool
  stays false b q (Insert k) = cond (eq q k) true b
  stays true b q (Insert k) = b
  stays o b q (Replace k) = cond (eq q k) true b
  stays false b q (Remove k) = b
  stays true b q (Remove k) = cond (eq q k) false b
  stays o b q (Read k) = b
  stays o b q (Contains k) = b
  stays o b q Clear = false
  stays o b q Len = b

module _ {K : Type 0} {eq : K → K → Bool} (laws : IsEquivalence eq) where
  left-there : (o : Option K) (ks : List K) (call : SetCall K) (q : K) → IsDistinct eq ks → is_some (find eq (left eq o ks call) q) ≡ stays eq (is_some o) (is_some (find eq ks q)) q call
  left-there None ks (Insert k) q d = cond-some (eq q k) k (find eq ks q)
  left-there (Some p) ks (Insert k) q d = refl
  left-there None ks (Replace k) q d = cond-some (eq q k) k (find eq ks q)
  left-there (Some p) ks (Replace k) q d = cond-some (eq q k) k (find eq (without eq ks k) q) ∙ ap (cond (eq q k) true) (there-others laws ks k q d) ∙ cond-past (eq q k) (is_some (find eq ks q))
  left-there None ks (Remove k) q d = refl
  left-there (Some p) ks (Remove k) q d = there-others laws ks k q d
  left-there o ks (Read k) q d = refl
  left-there o ks (Contains k) q d = refl
  left-there o ks Clear q d = refl
  left-there o ks Len q d = refl

  symm : (a b : K) → eq a b ≡ true → eq b a ≡ true
  symm a b e = laws.symm b a ∙ e

  trans : (a b c : K) → eq a b ≡ true → eq b c ≡ true → eq a c ≡ true
  trans a b c e f = laws.congr a b c e ∙ f

  same-key : (k l q : K) → eq k l ≡ true → eq q k ≡ eq q l
  same-key k l q e = laws.symm q k ∙ laws.congr k l q e ∙ laws.symm l q

  -- two calls that are alike to a third are alike
  calls-euclid : (c a b : SetCall K) → SetCallsAlike eq a c → SetCallsAlike eq b c → SetCallsAlike eq a b
  calls-euclid (Insert k) (Insert l) (Insert j) h i = trans l k j h (symm j k i)
  calls-euclid (Insert k) (Insert l) b h i = absurd i
  calls-euclid (Replace k) (Replace l) (Replace j) h i = trans l k j h (symm j k i)
  calls-euclid (Replace k) (Replace l) b h i = absurd i
  calls-euclid (Remove k) (Remove l) (Remove j) h i = trans l k j h (symm j k i)
  calls-euclid (Remove k) (Remove l) b h i = absurd i
  calls-euclid (Read k) (Read l) (Read j) h i = trans l k j h (symm j k i)
  calls-euclid (Read k) (Read l) b h i = absurd i
  calls-euclid (Contains k) (Contains l) (Contains j) h i = trans l k j h (symm j k i)
  calls-euclid (Contains k) (Contains l) b h i = absurd i
  calls-euclid Clear Clear Clear h i = tt
  calls-euclid Clear Clear b h i = absurd i
  calls-euclid Len Len Len h i = tt
  calls-euclid Len Len b h i = absurd i
  calls-euclid c a b h i = absurd h

  calls-refl : (c : SetCall K) → SetCallsAlike eq c c
  calls-refl (Insert k) = laws.refl k
  calls-refl (Replace k) = laws.refl k
  calls-refl (Remove k) = laws.refl k
  calls-refl (Read k) = laws.refl k
  calls-refl (Contains k) = laws.refl k
  calls-refl Clear = tt
  calls-refl Len = tt

  -- look-ups of equal keys find equal keys
  both-found : (k l : K) (ks ls : List K) (o p : Option K) → find eq ks k ≡ o → find eq ls l ≡ p → eq k l ≡ true → is_some p ≡ is_some o → Both (λ a b. eq a b ≡ true) o p
  both-found k l ks ls None None f g e s = tt
  both-found k l ks ls (Some x) (Some y) f g e s = trans x k y (symm k x (found-equal eq ks k x f)) (trans k l y e (found-equal eq ls l y g))
  both-found k l ks ls None (Some y) f g e s = absurd (let z : true ≡ false = s in cc)
  both-found k l ks ls (Some x) None f g e s = absurd (let z : false ≡ true = s in cc)

  key-there : (k l : K) (ks ls : List K) → eq k l ≡ true → HaveEqual eq ks ls → Both (λ a b. eq a b ≡ true) (find eq ks k) (find eq ls l)
  key-there k l ks ls e f = both-found k l ks ls (find eq ks k) (find eq ls l) refl refl e (ap is_some (sym (find-alike laws ls k l e)) ∙ f k)

  calls-there : (a b : SetCall K) (ks ls : List K) → SetCallsAlike eq a b → HaveEqual eq ks ls → Both (λ a b. eq a b ≡ true) (there eq ks a) (there eq ls b)
  calls-there (Insert k) (Insert l) ks ls h f = key-there k l ks ls h f
  calls-there (Replace k) (Replace l) ks ls h f = key-there k l ks ls h f
  calls-there (Remove k) (Remove l) ks ls h f = key-there k l ks ls h f
  calls-there (Read k) (Read l) ks ls h f = key-there k l ks ls h f
  calls-there (Contains k) (Contains l) ks ls h f = key-there k l ks ls h f
  calls-there Clear Clear ks ls h f = tt
  calls-there Len Len ks ls h f = tt
  calls-there a b ks ls h f = absurd h

  answered-alike : (a b : SetCall K) (o p : Option K) (ks ls : List K) → SetCallsAlike eq a b → Both (λ a b. eq a b ≡ true) o p → length ks ≡ length ls → RepliesAlike eq any_unit (answered eq o ks a) (answered eq p ls b)
  answered-alike (Insert k) (Insert l) None None ks ls h f e = tt
  answered-alike (Insert k) (Insert l) (Some x) (Some y) ks ls h f e = (h, inl refl)
  answered-alike (Insert k) (Insert l) None (Some y) ks ls h f e = absurd f
  answered-alike (Insert k) (Insert l) (Some x) None ks ls h f e = absurd f
  answered-alike (Replace k) (Replace l) o p ks ls h f e = f
  answered-alike (Remove k) (Remove l) o p ks ls h f e = f
  answered-alike (Read k) (Read l) o p ks ls h f e = f
  answered-alike (Contains k) (Contains l) o p ks ls h f e = sym (both-there (λ a b. eq a b ≡ true) o p f)
  answered-alike Clear Clear o p ks ls h f e = tt
  answered-alike Len Len o p ks ls h f e = e
  answered-alike a b o p ks ls h f e = absurd h

  stays-alike : (a b : SetCall K) (o p x y : Bool) (q : K) → SetCallsAlike eq a b → p ≡ o → y ≡ x → stays eq p y q b ≡ stays eq o x q a
  stays-alike (Insert k) (Insert l) false false x y q h f i = ap (λ z. cond z true y) (sym (same-key k l q h)) ∙ ap (cond (eq q k) true) i
  stays-alike (Insert k) (Insert l) true true x y q h f i = i
  stays-alike (Insert k) (Insert l) false true x y q h f i = absurd (let z : true ≡ false = f in cc)
  stays-alike (Insert k) (Insert l) true false x y q h f i = absurd (let z : false ≡ true = f in cc)
  stays-alike (Replace k) (Replace l) o p x y q h f i = ap (λ z. cond z true y) (sym (same-key k l q h)) ∙ ap (cond (eq q k) true) i
  stays-alike (Remove k) (Remove l) false false x y q h f i = i
  stays-alike (Remove k) (Remove l) true true x y q h f i = ap (λ z. cond z false y) (sym (same-key k l q h)) ∙ ap (cond (eq q k) false) i
  stays-alike (Remove k) (Remove l) false true x y q h f i = absurd (let z : true ≡ false = f in cc)
  stays-alike (Remove k) (Remove l) true false x y q h f i = absurd (let z : false ≡ true = f in cc)
  stays-alike (Read k) (Read l) o p x y q h f i = i
  stays-alike (Contains k) (Contains l) o p x y q h f i = i
  stays-alike Clear Clear o p x y q h f i = refl
  stays-alike Len Len o p x y q h f i = i
  stays-alike a b o p x y q h f i = absurd h

module _ {K : Type 0} (eq : K → K → Bool) where
  -- both states have equal keys, and no two keys of one state are equal
  pub record AreAlike (s t : State K) : Type 0 where
    pub first : IsDistinct eq s.0
    pub second : IsDistinct eq t.0
    pub have : HaveEqual eq s.0 t.0

module _ {K H I : Type 0} {eq : K → K → Bool} (laws : IsEquivalence eq) (g : Setting H) (h : Setting I)
    (calls : SetCall K → SetCall K → Bool) (like-calls : (a b : SetCall K) → calls a b ≡ true → SetCallsAlike eq a b)
    (replies : Reply K (Unit {0}) → Reply K (Unit {0}) → Bool) (like-replies : (a b : Reply K (Unit {0})) → replies a b ≡ true → RepliesAlike eq any_unit a b) where
  calls-given : (made call : SetCall K) → Alike calls made call → SetCallsAlike eq made call
  calls-given made call (inl same) = subst (SetCallsAlike eq made) (sym same) (calls-refl laws made)
  calls-given made call (inr e) = like-calls made call e

  left-finds : (s u : State K) (call : SetCall K) (reply : Reply K (Unit {0})) → IsDistinct eq s.0 → (m : SetMoves eq s call reply u) → (q : K)
      → is_some (find eq u.0 q) ≡ stays eq (is_some (not_waiting eq s call reply u m).0) (is_some (find eq s.0 q)) q call
  left-finds s u call reply d m q =
      let a = not_waiting eq s call reply u m in
      ap is_some (find-rearranged laws (left eq a.0 s.0 call) u.0 q a.3 (left-distinct laws a.0 s.0 call a.1 d)) ∙ left-there laws a.0 s.0 call q d

  moves-alike : (s t u v : State K) (call : SetCall K) (q r : Reply K (Unit {0})) → AreAlike eq s t → Means calls replies (SetMoves eq) s call q u → Means calls replies (SetMoves eq) t call r v → RepliesAlike eq any_unit q r × AreAlike eq u v
  moves-alike s t u v call q r l m n =
      let a = not_waiting eq s m.0 m.1 u m.4 in
      let b = not_waiting eq t n.0 n.1 v n.4 in
      let made = calls-euclid laws call m.0 n.0 (calls-given m.0 call m.2) (calls-given n.0 call n.2) in
      let o : Both (λ a b. eq a b ≡ true) a.0 b.0 = subst (λ z. Both (λ a b. eq a b ≡ true) z b.0) a.1 (subst (Both (λ a b. eq a b ≡ true) (there eq s.0 m.0)) b.1 (calls-there laws m.0 n.0 s.0 t.0 made l.have)) in
      let count : length s.0 ≡ length t.0 = sym (as-many laws s.0 t.0 l.first l.second l.have) in
      let one : RepliesAlike eq any_unit q (answered eq a.0 s.0 m.0) = subst (RepliesAlike eq any_unit q) a.2 (replies-symm laws units-alike m.1 q (replies-given laws units-alike replies like-replies m.1 q m.3)) in
      let two : RepliesAlike eq any_unit (answered eq b.0 t.0 n.0) r = subst (λ z. RepliesAlike eq any_unit z r) b.2 (replies-given laws units-alike replies like-replies n.1 r n.3) in
      let mid = answered-alike laws m.0 n.0 a.0 b.0 s.0 t.0 made o count in (
        replies-trans laws units-alike q (answered eq a.0 s.0 m.0) r one (replies-trans laws units-alike (answered eq a.0 s.0 m.0) (answered eq b.0 t.0 n.0) r mid two),
        record {
          first = moves-distinct laws s u m.0 m.1 l.first m.4;
          second = moves-distinct laws t v n.0 n.1 l.second n.4;
          have = λ p.
              left-finds t v n.0 n.1 l.second n.4 p
              ∙ stays-alike laws m.0 n.0 (is_some a.0) (is_some b.0) (is_some (find eq s.0 p)) (is_some (find eq t.0 p)) p made (both-there (λ a b. eq a b ≡ true) a.0 b.0 o) (l.have p)
              ∙ sym (left-finds s u m.0 m.1 l.first m.4 p);
        },
      )

  -- two runs of one list of calls from equal keys agree, each with its own hasher, sizes and resizes
  pub set-runs-alike : {s t u v : State K} {list : List (SetCall K)} {made others : List (Reply K (Unit {0}))}
      → AreAlike eq s t → IsRun (Means calls replies (SetMoves eq)) (ResizesTo g) s list made u → IsRun (Means calls replies (SetMoves eq)) (ResizesTo h) t list others v
      → Agrees (AreAlike eq) (RepliesAlike eq any_unit) made others u v
  set-runs-alike l a b =
      runs-alike (AreAlike eq) (RepliesAlike eq any_unit) moves-alike
      (λ s t u number l z. record {
        first = IsDistinct-IsPermutation eq laws.symm s.0 u.0 z.same l.first;
        second = l.second;
        have = λ q. l.have q ∙ ap is_some (sym (find-rearranged laws s.0 u.0 q z.same l.first));
      })
      (λ s t u number l z. record {
        first = l.first;
        second = IsDistinct-IsPermutation eq laws.symm t.0 u.0 z.same l.second;
        have = λ q. ap is_some (find-rearranged laws t.0 u.0 q z.same l.second) ∙ l.have q;
      })
      l a b
