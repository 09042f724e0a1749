-- Which buckets wait after a growth, and where an entry stands then.
use Rattle.std.proofs.Common.{◌≡◌, ◌==◌, ◌≢◌, ℕ, ◌+◌, ◌-◌, ◌*◌, ◌<◌, ◌≤◌, Bool, true, false, not, cond, List, ◌∷◌, ◌++◌, length, set, drop, take, replicate, Some, Result, Ok, Err, refl, sym, ap, ◌∙◌, subst, arith, get_or-set_same, length-set}
use Rattle.std.specs.Prelude.{OnOk}
use Rattle.std.specs.List.{filter, count_by, range_with_len, slice_get}
use Rattle.std.specs.List.Sorted.{IsPermutation}
use Rattle.std.proofs.lemmas.List.{length-replicate}
use Rattle.std.proofs.lemmas.List.FromFn.{length-range_with_len}
use Rattle.std.proofs.lemmas.List.Sorted.{sum_by-IsPermutation}
use Rattle.std.proofs.lemmas.List.Sums.{length-filter}
use Rattle.scc_array.proofs.ListsLemmas.{get-below, get-right}
use Rattle.scc_common.specs.Contents.{Contents, entries, bucket_count, list_of, settings_of, owed_of, pending_of, waiting_of, IsRouted}
use Rattle.scc_buckets.specs.OneList.{IsPutIn}
use Rattle.scc_buckets.specs.Places as spots
use Rattle.scc_buckets.specs.Pour.{destined_for, IsRegrouped}
use Rattle.scc_common.specs.Routing.{bucket_number}
use Rattle.scc_common.specs.Steps.{Rests}
use Rattle.scc_buckets.specs.declared.place.Place.{Place}
use Rattle.scc_buckets.proofs.Pours.{destined_append, destined_here, destined_other}
use Rattle.scc_buckets.proofs.Resizes.{rests-resizes, then-resized}
use Rattle.scc_buckets.proofs.Spots.{place-get}
use Rattle.scc_table.specs.Places.{IsInsertedAt}
use Rattle.scc_table.specs.Relocates.{left_after, AreMovedBeside, AreMovedFrom, AreShort, AreShortAmong, AreShortBut}
use Rattle.scc_draining.specs.Waiting.{cleared}
use Rattle.scc_table.specs.TwoArrays.{pending_targets, waits_at}
use Rattle.scc_table.proofs.resizes.Doubling.{destined-listed}
use Rattle.scc_table.proofs.relocations.OneByOne.{pending-is}
use Rattle.scc_table.proofs.insertions.OneList.{put-count, put-here, put-permuted}
use Rattle.scc_table.proofs.places.OldSpots.{spot-own, split-list}
use Rattle.scc_table.proofs.relocations.Fields.{others, settle-after, Settles}
use Rattle.scc_draining.proofs.Flags.{one-down, up-within}
use Rattle.scc_table.proofs.resizes.Installation.{count-up}
use Rattle.scc_table.proofs.relocations.Targets.{targets-all, targets-but, targets-length}
use Rattle.std.proofs.lemmas.List.{get_or-replicate}

-- among the entries of bucket i, an entry stands after those entries of bucket i that come before it in xs
pub destined-get : {E : Type 0} (hash : E → ℕ) (t n i s : ℕ) (xs : List E) (e : E) → slice_get xs s ≡ Some e → i ≡ bucket_number t n (hash e) → slice_get (destined_for hash t n i xs) (length (destined_for hash t n i (take s xs))) ≡ Some e
destined-get hash t n i s xs e got at =
    let r = split-list xs s e got in
    let bs = destined_for hash t n i (take s xs) in
    let rest = destined_for hash t n i r.0 in
    let whole : destined_for hash t n i xs ≡ bs ++ e ∷ rest = ap (destined_for hash t n i) r.1 ∙ destined_append hash t n i (take s xs) (e ∷ r.0) ∙ ap (λ z. bs ++ z) (destined_here hash t n i e r.0 at) in
    let z : length bs + 0 ≡ length bs = omega arith in
    ap (λ l. slice_get l (length bs)) whole ∙ ap (slice_get (bs ++ e ∷ rest)) (sym z) ∙ get-right bs (e ∷ rest) 0

-- an inserted entry of another bucket doesn't change the number of entries that belong to bucket i
pub destined-more : {E : Type 0} (hash : E → ℕ) (t n i : ℕ) (e : E) (xs ys : List E) → IsPermutation (e ∷ xs) ys → i ≢ bucket_number t n (hash e) → length (destined_for hash t n i ys) ≡ length (destined_for hash t n i xs)
destined-more {E} hash t n i e xs ys perm ne =
    let p : E → Bool = λ x. bucket_number t n (hash x) == i in
    let same : count_by p ys ≡ count_by p (e ∷ xs) = sum_by-IsPermutation (λ x. cond {A = ℕ} (p x) 1 0) (e ∷ xs) ys perm in
    length-filter p ys ∙ same ∙ sym (length-filter p (e ∷ xs)) ∙ ap length (destined_other hash t n i e xs ne)

-- the flags of n buckets, if all wait but bucket k
module _ (n k : ℕ) (some : 2 ≤ n) (l : k < n) where
  pub but-one : count_by (λ w. w) (set (replicate n true) k false) + 1 ≡ n
  but-one =
      let long = length-replicate n true in
      let up = get_or-replicate n k true false l in
      let one = one-down (replicate n true) k (omega arith) up in
      let all = count-up n in
      omega arith

  pub settle-all : cleared (replicate n true) k ≡ set (replicate n true) k false
  settle-all = let q : Settles (replicate n true) k (set (replicate n true) k false) = others refl (omega (arith, but-one)) in sym (settle-after q)

  module _ {E S : Type 0} (c : Contents E S) (waiting : waiting_of c ≡ cleared (replicate n true) k) where
    flags : waiting_of c ≡ set (replicate n true) k false
    flags = waiting ∙ settle-all

    pub but-pending : pending_of c + 1 ≡ n
    but-pending = let z = pending-is c ∙ ap (count_by (λ w. w)) flags in omega (arith, but-one)

    pub but-down : waits_at (waiting_of c) k ≡ false
    but-down = ap (λ w. waits_at w k) flags ∙ get_or-set_same (replicate n true) k false false (let z = length-replicate n true in omega arith)

    pub but-up : (i : ℕ) → waits_at (waiting_of c) i ≡ true → (i < n) × (i ≢ k)
    but-up i up =
        let here : waits_at (set (replicate n true) k false) i ≡ true = ap (λ w. waits_at w i) (sym flags) ∙ up in
        let m = up-within (set (replicate n true) k false) i here in
        (omega (arith, length-set (replicate n true) k false, length-replicate n true), λ z. absurd (let q : true ≡ false = sym up ∙ ap (waits_at (waiting_of c)) z ∙ but-down in cc))

    -- after the first other bucket is relocated, the waiting buckets are those of `left_after`
    pub but-left : (ts : List ℕ) → ts ≡ drop 1 (pending_targets c) → ts ≡ left_after k (range_with_len 0 n)
    but-left ts h =
        let rest = filter (λ t. not (t == k)) (range_with_len 0 n) in
        let same : pending_targets c ≡ rest = targets-but n k c flags in
        let x = ap length same in
        let y = targets-length c in
        let z = length-range_with_len 0 n in
        let one : length rest + 2 - length (range_with_len 0 n) ≡ 1 = omega (arith, but-pending) in
        h ∙ ap (drop 1) same ∙ ap (λ m. drop m rest) (sym one)

    -- if at most one other bucket is relocated, `AreMovedBeside` holds
    pub but-moved : (d : Contents E S) → AreMovedFrom (pending_targets c) 1 d → AreMovedBeside k (range_with_len 0 n) d
    but-moved d h =
        let rest = filter (λ t. not (t == k)) (range_with_len 0 n) in
        let same : pending_targets c ≡ rest = targets-but n k c flags in
        let x = ap length same in
        let y = targets-length c in
        let z = length-range_with_len 0 n in
        let one : length rest + 2 - length (range_with_len 0 n) ≡ 1 = omega (arith, but-pending) in
        subst (λ m. AreMovedFrom rest m d) (sym one) (subst (λ ts. AreMovedFrom ts 1 d) same h)

    -- if no bucket but bucket k would hold more than 32 entries, no waiting bucket holds more than 32 entries
    pub but-short : (hash : E → ℕ) (a : Contents E S) → IsRegrouped hash n a c → AreShortBut hash n k a → AreShort c
    but-short hash a reg short = record {
      short = λ i up. let w = but-up i up in subst (λ z. length z ≤ 32) (sym (reg.each i w.0)) (short.short i w.0 w.1);
    }

-- if all buckets wait and none would hold more than 32 entries, no waiting bucket holds more than 32 entries
pub all-short : {E S : Type 0} (hash : E → ℕ) (n : ℕ) (a c : Contents E S) → IsRegrouped hash n a c → waiting_of c ≡ replicate n true → AreShortAmong hash n a → AreShort c
all-short hash n a c reg waiting short = record {
  short = λ i up.
      let here : waits_at (replicate n true) i ≡ true = ap (λ w. waits_at w i) (sym waiting) ∙ up in
      let m = up-within (replicate n true) i here in
      let l : i < n = omega (arith, length-replicate n true) in
      subst (λ z. length z ≤ 32) (sym (reg.each i l)) (short.short i l);
}

-- the entry e at slot s of list i has the hash h: where e stands after the number of buckets doubles
module _ {E S : Type 0} (hash : E → ℕ) (a d : Contents E S) (routed : IsRouted hash a) (i s h : ℕ) (e : E) (got : slice_get (list_of a i) s ≡ Some e) (hashed : h ≡ hash e) where
  pub stands-routed : i ≡ bucket_number (settings_of a).skipped (bucket_count a) h
  stands-routed = sym (routed.routed i s e got) ∙ ap (bucket_number (settings_of a).skipped (bucket_count a)) (sym hashed)

  pub stands-after : (k : ℕ) → k ≡ bucket_number (settings_of a).skipped (2 * bucket_count a) h → list_of d k ≡ destined_for hash (settings_of a).skipped (2 * bucket_count a) k (entries a)
      → slice_get (list_of d k) (length (destined_for hash (settings_of a).skipped (2 * bucket_count a) k (take s (list_of a i)))) ≡ slice_get (list_of a i) s
  stands-after k at list =
      let t = (settings_of a).skipped in
      let n = 2 * bucket_count a in
      let r = length (destined_for hash t n k (take s (list_of a i))) in
      let near : list_of d k ≡ destined_for hash t n k (list_of a i) = list ∙ sym (subst (λ m. destined_for hash t n m (list_of a i) ≡ destined_for hash t n m (entries a)) (sym at) (destined-listed hash a h i routed stands-routed)) in
      ap (λ l. slice_get l r) near ∙ destined-get hash t n k s (list_of a i) e got (at ∙ ap (bucket_number t n) hashed) ∙ sym got

-- the entry e is inserted into the list of bucket i, and then the array grows, or nothing changes
module _ {E S : Type 0} (a : Contents E S) (i : ℕ) (e : E) (m : Contents E S) (p : Place) (put : IsPutIn a i e m p) (l : i < bucket_count a) where
  pub around-inserted : (d : Contents E S) (q : Place) → Rests m d → q.bucket < bucket_count d → slice_get (list_of d q.bucket) q.slot ≡ slice_get (list_of m p.bucket) p.slot → waits_at (waiting_of d) q.bucket ≡ false → IsInsertedAt a e d q
  around-inserted d q rests within here down =
      let got : slice_get (list_of d q.bucket) q.slot ≡ Some e = here ∙ put-here a i e m p put l in
      let place : spots.IsSpot d q = record { bucket = within; slot = get-below (list_of d q.bucket) q.slot e got } in
      let there : spots.IsInsertedAtSpot a e d q = record {
        holds = then-resized a m d (e ∷ entries a) (put-permuted a i e m p put l) (put-count a i e m p put l) put.settings (rests-resizes m d rests);
        within = place;
        here = place-get d q place e got;
      } in
      subst (spots.IsInsertedAtSpot a e d) (sym (spot-own (waiting_of d) (owed_of d) (bucket_count d) q within down)) there

  -- the insertion adds no entry to a bucket other than bucket k, the bucket of e
  pub around-short : (hash : E → ℕ) (n k : ℕ) → k ≡ bucket_number (settings_of a).skipped n (hash e) → AreShortAmong hash n a → AreShortBut hash n k m
  around-short hash n k at short = record {
    short = λ j lj ne.
        let t = (settings_of a).skipped in
        let few : length (destined_for hash t n j (entries m)) ≡ length (destined_for hash t n j (entries a)) = destined-more hash t n j e (entries a) (entries m) (put-permuted a i e m p put l) (λ z. ne (z ∙ sym at)) in
        let same : length (destined_for hash (settings_of m).skipped n j (entries m)) ≡ length (destined_for hash t n j (entries m)) = ap (λ s. length (destined_for hash s.skipped n j (entries m))) put.settings in
        let low = short.short j lj in
        omega arith;
  }

-- after an insertion into an array whose buckets all waited, all wait but the bucket of the hash and the first other one
pub grown-spread : {E S : Type 0} (hash : E → ℕ) (n : ℕ) (a b f : Contents E S) (h i : ℕ) → IsRegrouped hash n a b → waiting_of b ≡ replicate n true → i ≡ bucket_number (settings_of b).skipped (bucket_count b) h → (AreShort b → pending_targets f ≡ left_after i (pending_targets b))
    → AreShortAmong hash n a → pending_targets f ≡ left_after (bucket_number (settings_of a).skipped n h) (range_with_len 0 n)
grown-spread hash n a b f h i reg all at exact short =
    exact (all-short hash n a b reg all short) ∙ ap (left_after i) (targets-all n b all)
    ∙ ap (λ k. left_after k (range_with_len 0 n)) (at ∙ ap (λ s. bucket_number s.skipped (bucket_count b) h) reg.settings ∙ ap (λ m. bucket_number (settings_of a).skipped m h) reg.count)

-- an insertion into an array whose buckets all wait relocates at most the bucket of the hash and the first other one
pub grown-drained : {E S : Type 0} (hash : E → ℕ) (n : ℕ) (a b f : Contents E S) (h i : ℕ) → IsRegrouped hash n a b → waiting_of b ≡ replicate n true → i ≡ bucket_number (settings_of b).skipped (bucket_count b) h → AreMovedBeside i (pending_targets b) f → AreMovedBeside (bucket_number (settings_of a).skipped n h) (range_with_len 0 n) f
grown-drained hash n a b f h i reg all at moved =
    let own = at ∙ ap (λ s. bucket_number s.skipped (bucket_count b) h) reg.settings ∙ ap (λ m. bucket_number (settings_of a).skipped m h) reg.count in
    subst (λ k. AreMovedBeside k (range_with_len 0 n) f) own (subst (λ ts. AreMovedBeside i ts f) (targets-all n b all) moved)

-- if P and Q hold in case of `Ok` and together give R, R holds in case of `Ok`
pub on-both : {X Y P Q R : Type 0} (r : Result X Y) → (P → Q → R) → OnOk r P → OnOk r Q → OnOk r R
on-both (Ok x) f p q = f p q
on-both (Err y) f p q = p
