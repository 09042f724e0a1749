-- The map's words say of pairs what the set's words say of keys.
use Rattle.std.proofs.Common.{◌≡◌, ◌≢◌, ℕ, Bool, true, false, cond, List, [], ◌∷◌, length, Option, None, Some, Ok, Err, IsSome, refl, sym, ap, subst, ◌∙◌}
use Rattle.std.specs.Prelude.{Result, IfErr, IfNone, IfOk, OnErr, OnOk, OnSome, IsOk, IsSomeAnd}
use Rattle.std.specs.Borrow.{Bor, MutBor}
use Rattle.std.specs.Fn.{Once, FnOnceReturnsAt}
use Rattle.std.specs.Cmp.{IsEquivalence}
use Rattle.std.specs.Hash.{HashWrites}
use Rattle.std.proofs.lemmas.Bool.{false≢true}
use Rattle.std.specs.List.{find as first_passing}
use Rattle.std.specs.Map.{keys_of, lookup_entry, remove_entry, set_key, set_value}
use Rattle.std.specs.Option.{option_map}
use Rattle.std.specs.Set.{remove_key, swap_key}
use Rattle.std.specs.declared.hash.Hasher as hasher
use Rattle.std.specs.declared.hash.BuildHasher as builder
use Rattle.scc_common.specs.Contents.{Contents, entries, bucket_count, settings_of, minimum_of, notes_of, pending_of, waiting_of, without_mark, key_hash, bucket_of}
use Rattle.scc_common.specs.Mapped.{mapped}
use Rattle.scc_common.specs.Sizes.{IsSmaller}
use Rattle.scc_common.specs.Steps.{Holds, HoldsExactly, IsUnchanged, GrowsWhenDue}
use Rattle.scc_common.specs.Pairs.{find as find_pair, without as without_pair, FindsInstead as FindsPairInstead, HasRoom as HasRoomForPair, IsUnique as IsUniqueMap}
use Rattle.scc_buckets.proofs.Mapped.{entries-mapped, bucket_count-mapped, settings_of-mapped, notes_of-mapped, pending_of-mapped, length-mapped, HoldsExactly-mapped, IsUnchanged-mapped, Holds-mapped, Rests-mapped, Reserves-mapped, Releases-mapped, HasRoomBy-mapped, HasRoomBy-from_mapped, GrowsWhenDue-mapped, ShrinksWhenDue-mapped}
use Rattle.scc_table.specs.Arrays.{ShrinksByRule}
use Rattle.scc_table.specs.Relocations.{RelocatesTwo}
use Rattle.scc_table.proofs.relocations.Mapped.{waiting_of-mapped, RelocatesNone-mapped, RelocatesTwo-mapped}
use Rattle.scc_common.specs.declared.errors.InsertError.{InsertError}
use Rattle.scc_common.specs.declared.errors.InsertError.TheVariants.{Exists, Memory}
use Rattle.scc_owned.specs.Sizes.{ReservesOrRefuses, ReleasesOrRefuses}
use Rattle.scc_owned.specs.MapSteps as pairs
use Rattle.scc_common.specs.Closures as closures
use Rattle.scc_common.specs.Copies.{IsCopied}
use Rattle.scc_common.specs.Closures.{AnswersAt}
use Rattle.scc_owned_set.specs.Keys.{find, without, with_key, of_map, FindsInstead, IsUnique, HasRoom}
use Rattle.scc_owned_set.specs.SetSteps.{Inserts, Removes, Reads, RemovedIf, RemovesIf, key_answer}

-- the key of a pair, if there is a pair
abbrev pub key_alone : {K : Type 0} → Option (K × Unit {0}) → Option K
key_alone o = option_map (λ p. p.0) o

module _ {K : Type 0} (test : K → Bool) where
  pub find-keys : (es : List (K × Unit {0})) → first_passing test (keys_of es) ≡ key_alone (lookup_entry test es)
  find-keys [] = refl
  find-keys (e ∷ es) = elim (test e.0) as (λ y. cond y (Some e.0) (first_passing test (keys_of es)) ≡ key_alone (cond y (Some e) (lookup_entry test es))) [ true ↦ refl | false ↦ find-keys es ]

  pub without-keys : (es : List (K × Unit {0})) → remove_key test (keys_of es) ≡ keys_of (remove_entry test es)
  without-keys [] = refl
  without-keys (e ∷ es) = elim (test e.0) as (λ y. cond y (keys_of es) (e.0 ∷ remove_key test (keys_of es)) ≡ keys_of (cond y es (e ∷ remove_entry test es))) [ true ↦ refl | false ↦ ap (λ l. e.0 ∷ l) (without-keys es) ]

  pub swap-keys : (es : List (K × Unit {0})) (k : K) → swap_key test (keys_of es) k ≡ keys_of (set_key test es k)
  swap-keys [] k = refl
  swap-keys (e ∷ es) k = elim (test e.0) as (λ y. cond y (k ∷ keys_of es) (e.0 ∷ swap_key test (keys_of es) k) ≡ keys_of (cond y ((k, e.1) ∷ es) (e ∷ set_key test es k))) [ true ↦ refl | false ↦ ap (λ l. e.0 ∷ l) (swap-keys es k) ]

none-by : {K : Type 0} (o : Option (K × Unit {0})) → key_alone o ≡ None → o ≡ None
none-by None h = refl
none-by (Some p) h = absurd (let e : Some p.0 ≡ None = h in cc)

some-by : {K : Type 0} (o : Option (K × Unit {0})) → IsSome o → IsSome (key_alone o)
some-by None h = h
some-by (Some p) h = h

by-some : {K : Type 0} (o : Option (K × Unit {0})) → IsSome (key_alone o) → IsSome o
by-some None h = h
by-some (Some p) h = h

key-cond : {K : Type 0} (b : Bool) (o p : Option (K × Unit {0})) → key_alone (cond b o p) ≡ cond b (key_alone o) (key_alone p)
key-cond true o p = refl
key-cond false o p = refl

-- if P implies Q, and P holds if the map's call succeeds, Q holds if the set's call succeeds
pub on-answer : {K R P Q : Type 0} (r : Result R (InsertError K (Unit {0}))) → (P → Q) → OnOk r P → OnOk (key_answer r) Q
on-answer (Ok x) f h = f h
on-answer (Err (Exists p)) f h = tt
on-answer (Err (Memory p)) f h = tt

pub on-refusal : {K R P Q : Type 0} (r : Result R (InsertError K (Unit {0}))) → (P → Q) → OnErr r P → OnErr (key_answer r) Q
on-refusal (Ok x) f h = tt
on-refusal (Err (Exists p)) f h = f h
on-refusal (Err (Memory p)) f h = f h

pub ok-answer : {K R : Type 0} (r : Result R (InsertError K (Unit {0}))) → IsOk r → IsOk (key_answer r)
ok-answer (Ok x) h = h
ok-answer (Err e) h = absurd (let n : false ≡ true = h in cc)

pub on-key : {K P Q : Type 0} (o : Option (K × Unit {0})) → (P → Q) → OnSome o P → OnSome (key_alone o) Q
on-key None f h = tt
on-key (Some p) f h = f h

module _ {K S : Type 0} (eq : K → K → Bool) where
  -- a look-up in the set finds the key of the pair that the look-up in the map finds
  pub found : (c : Contents (K × Unit {0}) S) (k : K) → find eq (entries (of_map c)) k ≡ key_alone (find_pair eq (entries c) k)
  found c k = ap (λ ks. find eq ks k) (entries-mapped (λ p. p.0) c) ∙ find-keys (eq k) (entries c)

  pub found-none : (c : Contents (K × Unit {0}) S) (k : K) → find_pair eq (entries c) k ≡ None → find eq (entries (of_map c)) k ≡ None
  found-none c k h = found c k ∙ ap key_alone h

  pub found-some : (c : Contents (K × Unit {0}) S) (k : K) (p : K × Unit {0}) → find_pair eq (entries c) k ≡ Some p → find eq (entries (of_map c)) k ≡ Some p.0
  found-some c k p h = found c k ∙ ap key_alone h

  pub none-found : (c : Contents (K × Unit {0}) S) (k : K) → find eq (entries (of_map c)) k ≡ None → find_pair eq (entries c) k ≡ None
  none-found c k h = none-by (find_pair eq (entries c) k) (sym (found c k) ∙ h)

  pub is-found : (c : Contents (K × Unit {0}) S) (k : K) → IsSome (find_pair eq (entries c) k) → IsSome (find eq (entries (of_map c)) k)
  is-found c k h = rw (found c k) (some-by (find_pair eq (entries c) k) h)

  pub found-is : (c : Contents (K × Unit {0}) S) (k : K) → IsSome (find eq (entries (of_map c)) k) → IsSome (find_pair eq (entries c) k)
  found-is c k h = by-some (find_pair eq (entries c) k) (rw (found c k) at h)

  pub finds-keys : (c : Contents (K × Unit {0}) S) (k : K) (there : Option (K × Unit {0})) (d : Contents (K × Unit {0}) S) → FindsPairInstead eq (entries c) k there (entries d) → FindsInstead eq (entries (of_map c)) k (key_alone there) (entries (of_map d))
  finds-keys c k there d h = record { finds = λ q. found d q ∙ ap key_alone (h.finds q) ∙ key-cond (eq q k) there (find_pair eq (entries c) q) ∙ ap (λ o. cond (eq q k) (key_alone there) o) (sym (found c q)) }

  pub same-keys : (c d : Contents (K × Unit {0}) S) → ((q : K) → find_pair eq (entries d) q ≡ find_pair eq (entries c) q) → (q : K) → find eq (entries (of_map d)) q ≡ find eq (entries (of_map c)) q
  same-keys c d h q = found d q ∙ ap key_alone (h q) ∙ sym (found c q)

  pub unique-keys : (c : Contents (K × Unit {0}) S) → IsUniqueMap eq c → IsUnique eq (of_map c)
  unique-keys c h = rw (entries-mapped (λ (p : K × Unit {0}). p.0) c) h

  pub without-pairs : (c : Contents (K × Unit {0}) S) (k : K) → keys_of (without_pair eq (entries c) k) ≡ without eq (entries (of_map c)) k
  without-pairs c k = sym (ap (λ ks. without eq ks k) (entries-mapped (λ p. p.0) c) ∙ without-keys (eq k) (entries c))

  pub Removes-keys : (c : Contents (K × Unit {0}) S) (k : K) (r : Option (K × Unit {0})) (d : Contents (K × Unit {0}) S) → pairs.Removes eq c k r d → Removes eq (of_map c) k (key_alone r) (of_map d)
  Removes-keys c k None d h = (found-none c k h.0, IsUnchanged-mapped (λ p. p.0) c d h.1)
  Removes-keys c k (Some p) d h = (found-some c k p h.0, subst (λ es. Holds (of_map c) es (of_map d)) (without-pairs c k) (Holds-mapped (λ p. p.0) c (without_pair eq (entries c) k) d h.1))

  module _ (hash : K → ℕ) where
    pub roomy : (c : Contents (K × Unit {0}) S) (k : K) → HasRoom hash (of_map c) k → HasRoomForPair hash c k
    roomy c k h = HasRoomBy-from_mapped (λ (p : K × Unit {0}). p.0) (λ q. q) hash c k h

    pub has-room : (c : Contents (K × Unit {0}) S) (k : K) → HasRoomForPair hash c k → HasRoom hash (of_map c) k
    has-room c k h = HasRoomBy-mapped (λ (p : K × Unit {0}). p.0) (λ q. q) hash c k h

    pub grows-keys : (c : Contents (K × Unit {0}) S) (k : K) (d : Contents (K × Unit {0}) S) → GrowsWhenDue hash (λ (p : K × Unit {0}). p.0) c k d → GrowsWhenDue hash (λ q. q) (of_map c) k (of_map d)
    grows-keys c k d h = GrowsWhenDue-mapped (λ (p : K × Unit {0}). p.0) (λ q. q) hash c k d h

    pub Inserts-keys : (c : Contents (K × Unit {0}) S) (k : K) (r : Result (Unit {0}) (InsertError K (Unit {0}))) (d : Contents (K × Unit {0}) S) → pairs.Inserts eq hash c (k, tt) r d → Inserts eq hash (of_map c) k (key_answer r) (of_map d)
    Inserts-keys c k (Ok u) d h = (found-none c k h.0, rw (entries-mapped (λ (p : K × Unit {0}). p.0) c) (Holds-mapped (λ p. p.0) c ((k, tt) ∷ entries c) d h.1))
    Inserts-keys c k (Err (Exists q)) d h = (ap (λ p. p.0) h.0, is-found c k h.1, IsUnchanged-mapped (λ p. p.0) c d h.2)
    Inserts-keys c k (Err (Memory q)) d h = (ap (λ p. p.0) h.0, found-none c k h.1, Rests-mapped (λ p. p.0) c d h.2, λ r. h.3 (roomy c k r))

-- a hash by the set's hasher is equal to the hash by the map's hasher
pub hash-same : {K S T : Type 0} (build : builder.Ghosts S T) (feed : hasher.Ghosts T) (input : K → HashWrites) (c : Contents (K × Unit {0}) S) → key_hash build feed input (of_map c) ≡ key_hash build feed input c
unfolding mapped settings_of
hash-same build feed input c = refl

module _ {K S T : Type 0} (eq : K → K → Bool) (build : builder.Ghosts S T) (feed : hasher.Ghosts T) (input : K → HashWrites) (c : Contents (K × Unit {0}) S) (k : K) where
  pub Inserts-hashed : (r : Result (Unit {0}) (InsertError K (Unit {0}))) (d : Contents (K × Unit {0}) S) → pairs.Inserts eq (key_hash build feed input c) c (k, tt) r d
      → Inserts eq (key_hash build feed input (of_map c)) (of_map c) k (key_answer r) (of_map d)
  Inserts-hashed r d h = subst (λ (hash : K → ℕ). Inserts eq hash (of_map c) k (key_answer r) (of_map d)) (sym (hash-same build feed input c)) (Inserts-keys eq (key_hash build feed input c) c k r d h)

  pub roomy-hashed : HasRoom (key_hash build feed input (of_map c)) (of_map c) k → HasRoomForPair (key_hash build feed input c) c k
  roomy-hashed h = roomy eq (key_hash build feed input c) c k (subst (λ (hash : K → ℕ). HasRoom hash (of_map c) k) (hash-same build feed input c) h)

  pub has-room-hashed : HasRoomForPair (key_hash build feed input c) c k → HasRoom (key_hash build feed input (of_map c)) (of_map c) k
  has-room-hashed h = subst (λ (hash : K → ℕ). HasRoom hash (of_map c) k) (sym (hash-same build feed input c)) (has-room eq (key_hash build feed input c) c k h)

  pub grows-hashed : (d : Contents (K × Unit {0}) S) → GrowsWhenDue (key_hash build feed input c) (λ (p : K × Unit {0}). p.0) c k d → GrowsWhenDue (key_hash build feed input (of_map c)) (λ q. q) (of_map c) k (of_map d)
  grows-hashed d h = subst (λ (hash : K → ℕ). GrowsWhenDue hash (λ q. q) (of_map c) k (of_map d)) (sym (hash-same build feed input c)) (grows-keys eq (key_hash build feed input c) c k d h)

  pub two-hashed : (d : Contents (K × Unit {0}) S) → RelocatesTwo (key_hash build feed input c k) c d → RelocatesTwo (key_hash build feed input (of_map c) k) (of_map c) (of_map d)
  two-hashed d h = subst (λ (hash : K → ℕ). RelocatesTwo (hash k) (of_map c) (of_map d)) (sym (hash-same build feed input c)) (RelocatesTwo-mapped (λ p. p.0) (key_hash build feed input c k) c d h)

pub smaller-keys : {K S : Type 0} (c d : Contents (K × Unit {0}) S)
    → (bucket_count d ≢ bucket_count c → IsSmaller (minimum_of c) (length (entries d)) (bucket_count c) (bucket_count d))
    → bucket_count (of_map d) ≢ bucket_count (of_map c) → IsSmaller (minimum_of (of_map c)) (length (entries (of_map d))) (bucket_count (of_map c)) (bucket_count (of_map d))
smaller-keys {K} c d h = let f : K × Unit {0} → K = λ p. p.0 in rw (bucket_count-mapped f c, bucket_count-mapped f d, settings_of-mapped f c, length-mapped f d) h

-- how the set s shows the map c behind it
pub record Shows {K S : Type 0} (c : Contents (K × Unit {0}) S) (s : Contents K S) : Type 0 where
  pub keys : entries s ≡ keys_of (entries c)
  pub length : length (entries s) ≡ length (entries c)
  pub buckets : bucket_count s ≡ bucket_count c
  pub settings : settings_of s ≡ settings_of c
  pub refused : notes_of s ≡ notes_of c
  pub pending : pending_of s ≡ pending_of c
  pub waiting : waiting_of s ≡ waiting_of c

pub shows : {K S : Type 0} (c : Contents (K × Unit {0}) S) → Shows c (of_map c)
shows {K} c = let f : K × Unit {0} → K = λ p. p.0 in record { keys = entries-mapped f c; length = length-mapped f c; buckets = bucket_count-mapped f c; settings = settings_of-mapped f c; refused = notes_of-mapped f c; pending = pending_of-mapped f c; waiting = waiting_of-mapped f c }

-- if the note of refused memory stays in the map, it stays in the set
pub noted-keys : {K S : Type 0} (c d : Contents (K × Unit {0}) S) → notes_of d ≡ notes_of c → notes_of (of_map d) ≡ notes_of (of_map c)
noted-keys c d h = (shows d).refused ∙ h ∙ sym (shows c).refused

-- the set without its mark is that of the map without its mark
pub unmarked-keys : {K S : Type 0} (c : Contents (K × Unit {0}) S) → of_map (without_mark c) ≡ without_mark (of_map c)
unfolding mapped notes_of without_mark
unmarked-keys c = refl

-- if the waiting buckets stay in the map, they stay in the set
pub waiting-keys : {K S : Type 0} (c d : Contents (K × Unit {0}) S) → waiting_of d ≡ waiting_of c → waiting_of (of_map d) ≡ waiting_of (of_map c)
waiting-keys {K} c d h = let f : K × Unit {0} → K = λ p. p.0 in waiting_of-mapped f d ∙ h ∙ sym (waiting_of-mapped f c)

-- what a removal does to the map's array, it does to the set's
pub shrinks-keys : {K S P Q : Type 0} (c d : Contents (K × Unit {0}) S) → (Q → P) → (P → Q) → ShrinksByRule P c d → ShrinksByRule Q (of_map c) (of_map d)
shrinks-keys c d back on h =
    record {
      smaller = smaller-keys c d h.smaller;
      due = λ q. ShrinksWhenDue-mapped _ c d (h.due (back q));
      noted = λ none. noted-keys c d (h.noted (λ p. none (on p)));
      relocates = λ q. RelocatesNone-mapped _ c d (h.relocates (back q));
      waiting = λ none. waiting-keys c d (h.waiting (λ p. none (on p)));
    }

-- and so it is after a removal whose result is a pair, if there was one
pub shrinks-found : {K S : Type 0} (c d : Contents (K × Unit {0}) S) (o : Option (K × Unit {0})) → ShrinksByRule (IsSome o) c d → ShrinksByRule (IsSome (key_alone o)) (of_map c) (of_map d)
shrinks-found c d o h = shrinks-keys c d (by-some o) (some-by o) h

pub shown : {K S : Type 0} (c : Contents (K × Unit {0}) S) (s : Contents K S) → of_map c ≡ s → Shows c s
shown c s e = subst (Shows c) e (shows c)

module _ {C F K R : Type 0} (gm : Once C (Bor K × (Bor (Unit {0}) × Unit {0})) R) (m : C) (gf : Once F (Bor K × Unit {0}) R) (f : F)
    (one : (key : Bor K) (value : Bor (Unit {0})) (r : R) → gm.post m (key, (value, tt)) r → FnOnceReturnsAt gf f key.now r) where
  answers-key : (p : K × Unit {0}) (r : R) → AnswersAt gm m p r → FnOnceReturnsAt gf f p.0 r
  answers-key p r a = subst (λ (q : K × Unit {0}). FnOnceReturnsAt gf f q.0 r) a.shows (one a.key a.value r a.met)

  answered : (p : K × Unit {0}) (r : Option R) → IsSomeAnd r (AnswersAt gm m p) → IsSomeAnd r (FnOnceReturnsAt gf f p.0)
  answered p None h = h
  answered p (Some r) h = answers-key p r h

  -- an answer of the map's closure on a pair is an answer of the set's closure on the key of the pair
  pub Reads-keys : (o : Option (K × Unit {0})) (r : Option R) → closures.Reads gm m o r → Reads gf f (key_alone o) r
  Reads-keys None r h = h
  Reads-keys (Some p) r h = answered p r h

written-keys : {K V : Type 0} (test : K → Bool) (es : List (K × V)) (w : V) → keys_of (set_value test es w) ≡ keys_of es
written-keys test [] w = refl
written-keys test (e ∷ es) w = elim (test e.0) as (λ y. keys_of (cond y ((e.0, w) ∷ es) (e ∷ set_value test es w)) ≡ e.0 ∷ keys_of es) [ true ↦ refl | false ↦ ap (λ l. e.0 ∷ l) (written-keys test es w) ]

module _ {C F K S : Type 0} (gm : Once C (MutBor (Unit {0}) × Unit {0}) (Bool × (MutBor (Unit {0}) × Unit {0}))) (m : C) (gf : Once F (Unit {0}) Bool) (f : F)
    (one : (value left : MutBor (Unit {0})) (b : Bool) → gm.post m (value, tt) (b, (left, tt)) → gf.post f tt b)
    (eq : K → K → Bool) (c : Contents (K × Unit {0}) S) (k : K) (r : Option (K × Unit {0})) (d : Contents (K × Unit {0}) S) where
  stays : (w : Unit {0}) → HoldsExactly c (set_value (eq k) (entries c) w) d → IsUnchanged (of_map c) (of_map d)
  stays w h =
      let f : K × Unit {0} → K = λ p. p.0 in
      rw (entries-mapped f c) (subst (λ ks. HoldsExactly (of_map c) ks (of_map d)) (written-keys (eq k) (entries c) w) (HoldsExactly-mapped f c (set_value (eq k) (entries c) w) d h))

  removed-if : (p : K × Unit {0}) (w : Unit {0}) (b : Bool) → pairs.RemovedIf gm m eq c k r d p w b → RemovedIf gf f eq (of_map c) k (key_alone r) (of_map d) p.0 b
  removed-if p w true h = (ap key_alone h.0, subst (λ es. Holds (of_map c) es (of_map d)) (without-pairs eq c k) (Holds-mapped (λ q. q.0) c (without_pair eq (entries c) k) d h.1))
  removed-if p w false h = (ap key_alone h.0, stays w h.1)

  pub RemovesIf-keys : (o : Option (K × Unit {0})) → pairs.RemovesIf gm m eq c k r d o → RemovesIf gf f eq (of_map c) k (key_alone r) (of_map d) (key_alone o)
  RemovesIf-keys None h = (ap key_alone h.0, IsUnchanged-mapped (λ p. p.0) c d h.1)
  RemovesIf-keys (Some p) h = (h.0, one h.2.shown h.2.left h.0 h.2.met, removed-if p h.1 h.0 h.3)

module _ {K S : Type 0} where
  pub ReservesOrRefuses-keys : (n : ℕ) (c : Contents (K × Unit {0}) S) (r : Option ℕ) (d : Contents (K × Unit {0}) S) → ReservesOrRefuses n c r d → ReservesOrRefuses n (of_map c) r (of_map d)
  ReservesOrRefuses-keys n c (Some x) d h = (h.0, h.1, rw (settings_of-mapped (λ (p : K × Unit {0}). p.0) c) h.2, Reserves-mapped (λ p. p.0) n c d h.3)
  ReservesOrRefuses-keys n c None d h = (rw (settings_of-mapped (λ (p : K × Unit {0}). p.0) c) h.0, IsUnchanged-mapped (λ p. p.0) c d h.1)

  pub ReleasesOrRefuses-keys : (n : ℕ) (c : Contents (K × Unit {0}) S) (r : Result (Unit {0}) ℕ) (d : Contents (K × Unit {0}) S) → ReleasesOrRefuses n c r d → ReleasesOrRefuses n (of_map c) r (of_map d)
  ReleasesOrRefuses-keys n c (Ok u) d h = (rw (settings_of-mapped (λ (p : K × Unit {0}). p.0) c) h.0, Releases-mapped (λ p. p.0) n c d h.1)
  ReleasesOrRefuses-keys n c (Err x) d h = (h.0, rw (settings_of-mapped (λ (p : K × Unit {0}). p.0) c) h.1, IsUnchanged-mapped (λ p. p.0) c d h.2)

-- if a set has no keys, the map behind it has no pairs
pub none-shown : {K : Type 0} (es : List (K × Unit {0})) → keys_of es ≡ [] → es ≡ []
none-shown [] h = refl
none-shown (e ∷ es) h = absurd (let n : e.0 ∷ keys_of es ≡ [] = h in cc)

pub on-some : {A P Q : Type 0} (o : Option A) → (P → Q) → OnSome o P → OnSome o Q
on-some None f h = tt
on-some (Some x) f h = f h

pub on-none : {A P Q : Type 0} (o : Option A) → (P → Q) → IfNone o P → IfNone o Q
on-none None f h = f h
on-none (Some x) f h = tt

-- the number of a key's bucket in the set is equal to the number of its bucket in the map behind the set
pub bucket-same : {K S T : Type 0} (build : builder.Ghosts S T) (feed : hasher.Ghosts T) (input : K → HashWrites) (c : Contents (K × Unit {0}) S) (k : K)
    → bucket_of (key_hash build feed input (of_map c)) (of_map c) k ≡ bucket_of (key_hash build feed input c) c k
bucket-same {K} build feed input c k = rw (settings_of-mapped (λ (p : K × Unit {0}). p.0) c, bucket_count-mapped (λ (p : K × Unit {0}). p.0) c)

module _ {K : Type 0} {eq : K → K → Bool} (laws : IsEquivalence eq) where
  by-bool : {P : Type 0} (b : Bool) → (b ≡ true → P) → (b ≡ false → P) → P
  by-bool true p q = p refl
  by-bool false p q = q refl

  -- after k replaces the key that equals it, a look-up of k finds k, and other look-ups find what they found
  pub find-swapped : (ks : List K) (k old q : K) → find eq ks k ≡ Some old → find eq (with_key eq ks k) q ≡ cond (eq q k) (Some k) (find eq ks q)
  find-swapped [] k old q h = absurd (let n : None ≡ Some old = h in cc)
  find-swapped (x ∷ ks) k old q h = by-bool (eq k x)
      (λ y.
      let same : eq q k ≡ eq q x = laws.symm q k ∙ laws.congr k x q y ∙ laws.symm x q in
      rw y (by-bool (eq q k) (λ z. rw z refl) (λ z. rw (z, sym same ∙ z) refl)))
      (λ y.
      let on = find-swapped ks k old q (rw y at h) in
      rw y (by-bool (eq q x)
      (λ z. let off : eq q k ≡ false = by-bool (eq q k) (λ a. absurd (false≢true (sym y ∙ laws.congr k q x (laws.symm k q ∙ a) ∙ z))) (λ a. a) in rw (z, off) refl)
      (λ z. rw z on)))

module _ {K S : Type 0} {eq : K → K → Bool} (laws : IsEquivalence eq) (c : Contents (K × Unit {0}) S) (k : K) (d : Contents (K × Unit {0}) S) where
  pub swapped-keys : (r : Result K K) → IfOk r (λ old. (find_pair eq (entries c) k ≡ Some (old, tt)) × HoldsExactly c (set_key (eq k) (entries c) k) d)
      → IfOk r (λ old. (find eq (entries (of_map c)) k ≡ Some old) × HoldsExactly (of_map c) (with_key eq (entries (of_map c)) k) (of_map d) × FindsInstead eq (entries (of_map c)) k (Some k) (entries (of_map d)))
  swapped-keys (Err q) h = tt
  swapped-keys (Ok old) h =
      let f : K × Unit {0} → K = λ p. p.0 in
      let there = found-some eq c k (old, tt) h.0 in
      let keys : keys_of (set_key (eq k) (entries c) k) ≡ with_key eq (entries (of_map c)) k = sym (ap (λ ks. with_key eq ks k) (entries-mapped f c) ∙ swap-keys (eq k) (entries c) k) in
      let exact = subst (λ ks. HoldsExactly (of_map c) ks (of_map d)) keys (HoldsExactly-mapped f c (set_key (eq k) (entries c) k) d h.1) in
      (there, exact, record { finds = λ q. ap (λ ks. find eq ks q) exact.exact ∙ find-swapped laws (entries (of_map c)) k old q there })

  pub missing-keys : (r : Result K K) → IfErr r (λ q. (q ≡ k) × (find_pair eq (entries c) k ≡ None) × (d ≡ c)) → IfErr r (λ q. (q ≡ k) × (find eq (entries (of_map c)) k ≡ None) × (of_map d ≡ of_map c))
  missing-keys (Ok old) h = tt
  missing-keys (Err q) h = (h.0, found-none eq c k h.1, ap of_map h.2)

-- a clone of the key of the map's pair is a clone of the set's key
copied-alone : {K : Type 0} (copy : K → K → Type 0) (o : Option (K × Unit {0})) (w : Option K) → IsCopied (λ p l. copy p.0 l) o w → IsCopied copy (key_alone o) w
copied-alone copy None None h = h
copied-alone copy (Some p) (Some l) h = h
copied-alone copy None (Some l) h = h
copied-alone copy (Some p) None h = h

copied-answer : {K E : Type 0} (copy : K → K → Type 0) (o : Option (K × Unit {0})) (r : Result (Option K) E) → IfOk r (IsCopied (λ p l. copy p.0 l) o) → IfOk r (IsCopied copy (key_alone o))
copied-answer copy o (Ok w) h = copied-alone copy o w h
copied-answer copy o (Err e) h = tt

pub copied-key : {K S E : Type 0} (eq : K → K → Bool) (copy : K → K → Type 0) (c : Contents (K × Unit {0}) S) (k : K) (r : Result (Option K) E) → IfOk r (IsCopied (λ p l. copy p.0 l) (find_pair eq (entries c) k)) → IfOk r (IsCopied copy (find eq (entries (of_map c)) k))
copied-key eq copy c k r h = rw (found eq c k) (copied-answer copy (find_pair eq (entries c) k) r h)

pub refused-key : {K S R E : Type 0} (eq : K → K → Bool) (safe : K → Type 0) (c : Contents (K × Unit {0}) S) (k : K) (r : Result R E) → OnErr r ((p : K × Unit {0}) × (find_pair eq (entries c) k ≡ Some p) × (safe p.0 → ⊥)) → OnErr r ((l : K) × (find eq (entries (of_map c)) k ≡ Some l) × (safe l → ⊥))
refused-key eq safe c k (Ok x) h = tt
refused-key eq safe c k (Err e) h = (h.0.0, found-some eq c k h.0 h.1, h.2)
