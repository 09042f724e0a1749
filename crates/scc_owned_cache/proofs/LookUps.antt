-- What look-ups find after a put and after a removal.
use Rattle.std.proofs.Common.{◌≡◌, ℕ, zero, suc, ◌<◌, Bool, true, false, cond, List, [], ◌∷◌, ◌++◌, length, set, get_or, take, drop, Option, None, Some, refl, sym, ap, subst, ◌∙◌, arith, append_assoc}
use Rattle.std.specs.Cmp.{IsEquivalence}
use Rattle.std.specs.List.{IsDistinct, flat_map, remove, slice_get}
use Rattle.std.specs.List.Sorted.{IsPermutation}
use Rattle.std.specs.Map.{keys_of, lookup_entry, remove_entry, set_value}
use Rattle.std.proofs.lemmas.List.Sorted.{IsPermutation-middle, IsPermutation-sym}
use Rattle.scc_common.specs.Contents.{Contents, entries, bucket_count, list_of, lists_of}
use Rattle.scc_common.specs.Pairs.{find, FindsInstead, IsUnique}
use Rattle.scc_buckets.specs.Bounded.{PutsLast}
use Rattle.scc_buckets.proofs.Lookups.{distinct-IsPermutation, find-IsPermutation, find-without, finds-added, finds-removed}
use Rattle.scc_buckets.proofs.PairSplits.{apart-at, by_answer, cond-true, cond-false, found-place, parts-at, set_value-at, without-split}
use Rattle.scc_buckets.proofs.PairWrites.{IsPlaceOf}
use Rattle.scc_owned_cache.specs.LookUps.{is_key_of, FindsAfterPut}

-- the elements of all lists are those before list i, those of list i and those after it, whatever list i is
pub record Around {X : Type 0} (ls : List (List X)) (i : ℕ) : Type 0 where
  pub front : List X
  pub back : List X
  pub old : flat_map (λ l. l) ls ≡ front ++ (get_or ls i [] ++ back)
  pub new : (es : List X) → flat_map (λ l. l) (set ls i es) ≡ front ++ (es ++ back)

around : {X : Type 0} (ls : List (List X)) (i : ℕ) → i < length ls → Around ls i
around [] i l = absurd (omega arith)
around (x ∷ ls) zero l = record { front = []; back = flat_map (λ l. l) ls; old = refl; new = λ es. refl }
around (x ∷ ls) (suc i) l =
    let r = around ls i (omega arith) in
    record {
      front = x ++ r.front;
      back = r.back;
      old = ap (λ z. x ++ z) r.old ∙ sym (append_assoc x r.front (get_or ls i [] ++ r.back));
      new = λ es. ap (λ z. x ++ z) (r.new es) ∙ sym (append_assoc x r.front (es ++ r.back));
    }

-- an element at the end of the middle part, in front of all
last-first : {X : Type 0} (front es back : List X) (x : X) → IsPermutation (x ∷ (front ++ (es ++ back))) (front ++ ((es ++ x ∷ []) ++ back))
last-first front es back x =
    let far : front ++ ((es ++ x ∷ []) ++ back) ≡ (front ++ es) ++ x ∷ back = ap (λ z. front ++ z) (append_assoc es (x ∷ []) back) ∙ sym (append_assoc front es (x ∷ back)) in
    let near : (front ++ es) ++ back ≡ front ++ (es ++ back) = append_assoc front es back in
    subst (λ z. IsPermutation (x ∷ z) (front ++ ((es ++ x ∷ []) ++ back))) near
    (subst (λ z. IsPermutation (x ∷ ((front ++ es) ++ back)) z) (sym far)
    (IsPermutation-sym ((front ++ es) ++ x ∷ back) (x ∷ ((front ++ es) ++ back)) (IsPermutation-middle (front ++ es) x back)))

module _ {K V : Type 0} {eq : K → K → Bool} (laws : IsEquivalence eq) where
  -- a look-up in es, which has all pairs but x of distinct pairs
  find-rest : (all es : List (K × V)) (x : K × V) (q : K) → IsPermutation all (x ∷ es) → IsDistinct eq (keys_of all) → find eq es q ≡ cond (eq q x.0) None (find eq all q)
  find-rest all es x q perm u =
      let there = x ∷ es in
      let d = distinct-IsPermutation laws all there perm u in
      let rest : remove_entry (eq x.0) there ≡ es = cond-true es (x ∷ remove_entry (eq x.0) es) (laws.refl x.0) in
      ap (lookup_entry (eq q)) (sym rest) ∙ find-without laws there x.0 q d ∙ ap (cond (eq q x.0) None) (find-IsPermutation laws all there q perm u)

  put-none : (old mid new : List (K × V)) (p : K × V) → IsPermutation old mid → IsDistinct eq (keys_of old) → IsPermutation (p ∷ mid) new → IsDistinct eq (keys_of new) → FindsAfterPut eq old p None new
  put-none old mid new p same u added v = record {
    finds = λ q. (finds-added laws mid new p added v).finds q ∙ ap (cond (eq q p.0) (Some p)) (find-IsPermutation laws old mid q same u);
  }

  put-some : (old mid rest new : List (K × V)) (p x : K × V) → IsPermutation old mid → IsDistinct eq (keys_of old) → IsPermutation mid (x ∷ rest) → IsPermutation (p ∷ rest) new → IsDistinct eq (keys_of new) → FindsAfterPut eq old p (Some x) new
  put-some old mid rest new p x same u out added v = record {
    finds = λ q.
        let w = distinct-IsPermutation laws old mid same u in
        (finds-added laws rest new p added v).finds q
        ∙ ap (cond (eq q p.0) (Some p)) (find-rest mid rest x q out w ∙ ap (cond (eq q x.0) None) (find-IsPermutation laws old mid q same u));
  }

  module _ {S : Type 0} where
    -- after a put at the end of list i of m, which has the pairs of c, a look-up finds the pair that was put in, none for
    -- the evicted key, and else what it found in c
    pub finds-put : (c m d : Contents (K × V) S) (i : ℕ) (p : K × V) (o : Option (K × V)) → i < bucket_count m → IsPermutation (entries c) (entries m) → IsUnique eq c → PutsLast m i p o d → IsUnique eq d → FindsAfterPut eq (entries c) p o (entries d)
    unfolding entries bucket_count list_of lists_of
    finds-put c m d i p None l same u put v =
        let r = around m.lists i l in
        let now : entries d ≡ r.front ++ ((get_or m.lists i [] ++ p ∷ []) ++ r.back) = ap (flat_map (λ l. l)) put.1.lists ∙ r.new (get_or m.lists i [] ++ p ∷ []) in
        let added = last-first r.front (get_or m.lists i []) r.back p in
        put-none (entries c) (entries m) (entries d) p same u
        (subst (λ z. IsPermutation (p ∷ z) (entries d)) (sym r.old) (subst (λ z. IsPermutation (p ∷ (r.front ++ (get_or m.lists i [] ++ r.back))) z) (sym now) added)) v
    finds-put c m d i p (Some x) l same u put v =
        let rest = put.1.0 in
        let r = around m.lists i l in
        let then : entries m ≡ r.front ++ x ∷ (rest ++ r.back) = r.old ∙ ap (λ z. r.front ++ (z ++ r.back)) put.1.1 in
        let now : entries d ≡ r.front ++ ((rest ++ p ∷ []) ++ r.back) = ap (flat_map (λ l. l)) put.1.2.lists ∙ r.new (rest ++ p ∷ []) in
        put-some (entries c) (entries m) (r.front ++ (rest ++ r.back)) (entries d) p x same u
        (subst (λ z. IsPermutation z (x ∷ (r.front ++ (rest ++ r.back)))) (sym then) (IsPermutation-middle r.front x (rest ++ r.back)))
        (subst (λ z. IsPermutation (p ∷ (r.front ++ (rest ++ r.back))) z) (sym now) (last-first r.front rest r.back p)) v

  -- after a removal of the pair at an index, a look-up of its key finds nothing, and others find what they found
  pub finds-taken : (es left new : List (K × V)) (i : ℕ) (p : K × V) → left ≡ remove es i → IsPermutation left new → IsDistinct eq (keys_of es) → slice_get es i ≡ Some p → FindsInstead eq es p.0 None new
  finds-taken es left new i p is perm u at = finds-removed laws es new p.0 i (subst (λ z. IsPermutation z new) is perm) u (found-place laws p.0 es i p u at (laws.refl p.0))

  -- look-ups after a removal of a key are look-ups after a removal of an equal key
  pub finds-equal : (es new : List (K × V)) (k j : K) → eq k j ≡ true → FindsInstead eq es j None new → FindsInstead eq es k None new
  finds-equal es new k j e f = record {
    finds = λ q. f.finds q ∙ ap (λ b. cond b None (find eq es q)) (laws.symm q j ∙ sym (laws.congr k j q e) ∙ laws.symm k q);
  }

  -- after w became the value of k, a look-up of k finds its stored key with w
  pub finds-written : (es new : List (K × V)) (k : K) (i : ℕ) (w : V) → IsDistinct eq (keys_of es) → (f : IsPlaceOf eq es k i) → new ≡ set_value (eq k) es w → IsDistinct eq (keys_of new) → FindsInstead eq es k (Some (f.0.0, w)) new
  finds-written es new k i w u f is v =
      let front = take i es in
      let back = drop (suc i) es in
      let p : K × V = (f.0.0, w) in
      let made : new ≡ front ++ p ∷ back = is ∙ set_value-at laws k es i u f w in
      let rest : remove_entry (eq k) es ≡ front ++ back = ap (remove_entry (eq k)) (parts-at laws k es i u f) ∙ without-split (eq k) front f.0 back (apart-at laws k es i u f) f.3 in
      let perm : IsPermutation (p ∷ (front ++ back)) new = subst (λ z. IsPermutation (p ∷ (front ++ back)) z) (sym made) (IsPermutation-sym (front ++ p ∷ back) (p ∷ (front ++ back)) (IsPermutation-middle front p back)) in
      record {
        finds = λ q.
            let same : eq q f.0.0 ≡ eq q k = laws.symm q f.0.0 ∙ sym (laws.congr k f.0.0 q f.3) ∙ laws.symm k q in
            let old : find eq (front ++ back) q ≡ cond (eq q k) None (find eq es q) = ap (lookup_entry (eq q)) (sym rest) ∙ find-without laws es k q u in
            (finds-added laws (front ++ back) new p perm v).finds q ∙ ap (λ b. cond b (Some p) (find eq (front ++ back) q)) same ∙ ap (cond (eq q k) (Some p)) old
            ∙ by_answer (eq q k)
            (λ y. cond-true (Some p) (cond (eq q k) None (find eq es q)) y ∙ sym (cond-true (Some p) (find eq es q) y))
            (λ y. cond-false (Some p) (cond (eq q k) None (find eq es q)) y ∙ cond-false None (find eq es q) y ∙ sym (cond-false (Some p) (find eq es q) y));
      }

  -- if a pair of k is first written and then removed, a look-up of k finds nothing
  pub finds-removed-after : (es mid new : List (K × V)) (k : K) (there : Option (K × V)) → FindsInstead eq es k there mid → FindsInstead eq mid k None new → FindsInstead eq es k None new
  finds-removed-after es mid new k there f g = record {
    finds = λ q. g.finds q ∙ by_answer (eq q k)
        (λ y. cond-true None (find eq mid q) y ∙ sym (cond-true None (find eq es q) y))
        (λ y. cond-false None (find eq mid q) y ∙ f.finds q ∙ cond-false there (find eq es q) y ∙ sym (cond-false None (find eq es q) y));
  }
