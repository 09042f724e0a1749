-- Where an inserted entry stands after other buckets are relocated.
use Rattle.std.proofs.Common.{◌≡◌, ◌==◌, ◌≢◌, ℕ, ◌+◌, ◌-◌, ◌<◌, ◌≤◌, inl, Bool, true, false, not, List, [], ◌∷◌, length, get_or, drop, take, Some, refl, sym, ap, ◌∙◌, subst, arith, eq-eqb, get_or-set_other}
use Rattle.std.specs.List.{filter, flat_map, count_by, insert, slice_get}
use Rattle.std.specs.List.Sorted.{IsPermutation}
use Rattle.std.proofs.lemmas.List.{drop_all, get_or_default, nil_from_length}
use Rattle.scc_array.proofs.ListsLemmas.{get-index}
use Rattle.scc_common.specs.Contents.{Contents, entries, bucket_count, list_of, lists_of, settings_of, waiting_of, owed_of, pending_of, bucket_of, HasRoomBy, IsRouted}
use Rattle.scc_buckets.specs.OneList.{IsPutIn}
use Rattle.scc_buckets.specs.Places as spots
use Rattle.scc_common.specs.Routing.{bucket_number}
use Rattle.scc_buckets.specs.declared.place.Place.{Place}
use Rattle.scc_buckets.proofs.PairSplits.{by_answer}
use Rattle.scc_buckets.proofs.Resizes.{rests-inserted}
use Rattle.scc_table.specs.Places.{IsInsertedAt, spot_of}
use Rattle.scc_table.specs.Relocates.{AreMovedBeside, AreMovedFrom, AreShort, left_after}
use Rattle.scc_table.specs.TwoArrays.{IsRelocated, IsWaiting, pending_targets, waits_at}
use Rattle.scc_table.proofs.relocations.OneByOne.{settle-down}
use Rattle.scc_table.proofs.insertions.OneList.{count-sub, count-whole, one-sub, put-count, put-inserted}
use Rattle.scc_table.proofs.places.OldSpots.{spot-own}
use Rattle.scc_table.proofs.relocations.Fields.{count-is, list-is}
use Rattle.scc_table.proofs.arrays.SameParts.{count-same, entries-same, list-same, unchanged-same}
use Rattle.scc_draining.proofs.Sublists.{Sub}
use Rattle.scc_table.proofs.relocations.Targets.{targets-after, targets-length, targets-without}

all-entries : {E S : Type 0} (c : Contents E S) → entries c ≡ flat_map (λ l. l) (lists_of c)
unfolding entries lists_of
all-entries c = refl

pub index-same : {E S : Type 0} (c d : Contents E S) (p : Place) → lists_of d ≡ lists_of c → spots.index_of_spot d p ≡ spots.index_of_spot c p
unfolding lists_of spots.index_of_spot
index-same c d p same = ap (λ ls. length (flat_map (λ l. l) (take p.bucket ls)) + p.slot) same

-- if the list of a key's bucket has 32 entries or more, the key has no room
pub long-none : {E K S : Type 0} (key : E → K) (hash : K → ℕ) (c : Contents E S) → IsRouted (λ e. hash (key e)) c → (k : K) (i : ℕ) → i < bucket_count c → i ≡ bucket_number (settings_of c).skipped (bucket_count c) (hash k) → 32 ≤ length (list_of c i) → HasRoomBy hash key c k → ⊥
long-none {E} key hash c routed k i l at long r =
    let p : E → Bool = λ e. bucket_of hash c (key e) == bucket_of hash c k in
    let whole : count_by p (list_of c i) ≡ length (list_of c i) = count-whole p (list_of c i) (λ j e q.
    let x = get_or (list_of c i) j e in
    let got : slice_get (list_of c i) j ≡ Some x = get-index (list_of c i) j x q (get_or_default (list_of c i) j e x q) in
    eq-eqb _ _ (routed.routed i j x got ∙ at)) in
    let part : Sub (list_of c i) (entries c) = subst (λ z. Sub z (entries c)) (sym (list-is c i)) (subst (Sub (get_or (lists_of c) i [])) (sym (all-entries c)) (one-sub (lists_of c) i (omega (arith, count-is c)))) in
    let less = count-sub p part in
    let few = r.1 in
    omega arith

module _ {E S : Type 0} (c : Contents E S) (i : ℕ) (e : E) (m : Contents E S) (p : Place) (put : IsPutIn c i e m p) (l : i < bucket_count c) (down : waits_at (waiting_of c) i ≡ false) (waiting : waiting_of m ≡ waiting_of c) where
  pub placed-short : AreShort c → AreShort m
  placed-short s = record {
    short = λ k up.
        let was : IsWaiting c k = ap (λ w. waits_at w k) (sym waiting) ∙ up in
        let apart : k ≢ i = λ z. absurd (let q : true ≡ false = sym was ∙ ap (waits_at (waiting_of c)) z ∙ down in cc) in
        let same : list_of m k ≡ list_of c k = list-is m k ∙ ap (λ z. get_or z k []) put.lists ∙ get_or-set_other (lists_of c) i k (insert (list_of c i) p.slot e) [] apart ∙ sym (list-is c k) in
        subst (λ z. length z ≤ 32) (sym same) (s.short k was);
  }

  module _ (d : Contents E S) (lists : lists_of d ≡ lists_of m) (settings : settings_of d ≡ settings_of m) (fewer : (k : ℕ) → IsWaiting d k → IsWaiting m k) where
    pub placed-fewer : (k : ℕ) → IsWaiting d k → IsWaiting c k
    placed-fewer k up = ap (λ w. waits_at w k) (sym waiting) ∙ fewer k up

    pub placed-down : waits_at (waiting_of d) i ≡ false
    placed-down = by_answer (waits_at (waiting_of d) i) (λ q. absurd (let z : true ≡ false = sym (placed-fewer i q) ∙ down in cc)) (λ q. q)

    pub placed-count : bucket_count d ≡ bucket_count c
    placed-count = count-same m d lists ∙ put-count c i e m p put l

    pub placed-at : IsInsertedAt c e d p
    placed-at =
        let at = put-inserted c i e m p put l in
        let there : spots.IsInsertedAtSpot c e d p = record {
          holds = record {
            same = subst (λ es. IsPermutation (e ∷ entries c) es) (sym (entries-same m d lists)) at.holds.same;
            size = record { lawful = inl placed-count; minimum = λ less. absurd (omega (arith, placed-count)) };
            settings = settings ∙ at.holds.settings;
          };
          within = record { bucket = omega (arith, at.within.bucket, count-same m d lists); slot = subst (λ z. p.slot < length z) (sym (list-same m d lists p.bucket)) at.within.slot };
          here = ap (λ es. slice_get es (spots.index_of_spot d p)) (entries-same m d lists) ∙ ap (slice_get (entries m)) (index-same m d p lists) ∙ at.here;
        } in
        let low : waits_at (waiting_of d) p.bucket ≡ false = ap (waits_at (waiting_of d)) put.bucket ∙ placed-down in
        let spot : spot_of d p ≡ p = spot-own (waiting_of d) (owed_of d) (bucket_count d) p (there.within.bucket) low in
        subst (spots.IsInsertedAtSpot c e d) (sym spot) there

-- an insertion after bucket i is relocated
module _ {E S : Type 0} (i : ℕ) (c d : Contents E S) (r : IsRelocated i c d) where
  pub relocated-fewer : (k : ℕ) → IsWaiting d k → IsWaiting c k
  relocated-fewer k h = settle-down (waiting_of c) i k (ap (λ ws. waits_at ws k) (sym r.waiting) ∙ h)

  pub relocated-short : AreShort c → AreShort d
  relocated-short s = record { short = λ k up. subst (λ z. length z ≤ 32) (sym (list-same c d r.lists k)) (s.short k (relocated-fewer k up)) }

  pub relocated-inserted : (e : E) (f : Contents E S) (p : Place) → IsInsertedAt d e f p → IsInsertedAt c e f p
  relocated-inserted e f p h = rests-inserted c d f e (spot_of f p) (inl (unchanged-same c d r.lists r.settings)) h

  pub relocated-left : (ts : List ℕ) → ts ≡ drop 1 (pending_targets d) → ts ≡ left_after i (pending_targets c)
  relocated-left ts h =
      let rest = filter (λ t. not (t == i)) (pending_targets c) in
      let same : pending_targets d ≡ rest = targets-after i c d r in
      let n : length rest + 1 ≡ length (pending_targets c) = let x = ap length same in let y = targets-length d in let z = targets-length c in omega (arith, r.pending) in
      let one : length rest + 2 - length (pending_targets c) ≡ 1 = omega arith in
      h ∙ ap (drop 1) same ∙ ap (λ k. drop k rest) (sym one)

  -- if at most one other bucket is relocated after bucket i, `AreMovedBeside` holds
  pub moved-relocated : (f : Contents E S) → AreMovedFrom (pending_targets d) 1 f → AreMovedBeside i (pending_targets c) f
  moved-relocated f h =
      let rest = filter (λ t. not (t == i)) (pending_targets c) in
      let same : pending_targets d ≡ rest = targets-after i c d r in
      let n : length rest + 1 ≡ length (pending_targets c) = let x = ap length same in let y = targets-length d in let z = targets-length c in omega (arith, r.pending) in
      let one : length rest + 2 - length (pending_targets c) ≡ 1 = omega arith in
      subst (λ k. AreMovedFrom rest k f) (sym one) (subst (λ ts. AreMovedFrom ts 1 f) same h)

-- if bucket i doesn't wait and at most two others are relocated, `AreMovedBeside` holds
pub moved-not_waiting : {E S : Type 0} (i : ℕ) (c f : Contents E S) → waits_at (waiting_of c) i ≡ false → AreMovedFrom (pending_targets c) 2 f → AreMovedBeside i (pending_targets c) f
moved-not_waiting i c f down h =
    let all = pending_targets c in
    let rest = filter (λ t. not (t == i)) all in
    let same : rest ≡ all = targets-without i c down in
    let two : length rest + 2 - length all ≡ 2 = let x = ap length same in omega arith in
    subst (λ k. AreMovedFrom rest k f) (sym two) (subst (λ ts. AreMovedFrom ts 2 f) (sym same) h)

-- if no bucket waits before and none waits afterwards, no bucket is relocated, and `AreMovedBeside` holds
pub moved-nothing : {E S : Type 0} (i : ℕ) (c f : Contents E S) → pending_of c ≡ 0 → pending_of f ≡ 0 → AreMovedBeside i (pending_targets c) f
moved-nothing i c f none left =
    let before : pending_targets c ≡ [] = nil_from_length (pending_targets c) (targets-length c ∙ none) in
    let after : pending_targets f ≡ [] = nil_from_length (pending_targets f) (targets-length f ∙ left) in
    let nothing : AreMovedBeside i [] f = record { kept = []; left = after; long = λ k x l. absurd (omega arith) } in
    subst (λ ts. AreMovedBeside i ts f) (sym before) nothing

-- if bucket i doesn't wait and the first two are relocated, the waiting buckets are those of `left_after`
pub not_waiting-left : {E S : Type 0} (i : ℕ) (c : Contents E S) (ts : List ℕ) → waits_at (waiting_of c) i ≡ false → ts ≡ drop 2 (pending_targets c) → ts ≡ left_after i (pending_targets c)
not_waiting-left i c ts down h =
    let all = pending_targets c in
    let rest = filter (λ t. not (t == i)) all in
    let same : rest ≡ all = targets-without i c down in
    let two : length rest + 2 - length all ≡ 2 = let x = ap length same in omega arith in
    h ∙ ap (drop 2) (sym same) ∙ ap (λ k. drop k rest) (sym two)

-- if no bucket waits, `left_after` leaves the waiting buckets as they are: none
pub none-left : {E S : Type 0} (i : ℕ) (c : Contents E S) (ts : List ℕ) → pending_of c ≡ 0 → ts ≡ pending_targets c → ts ≡ left_after i (pending_targets c)
none-left i c ts none h =
    let nothing : pending_targets c ≡ [] = nil_from_length (pending_targets c) (targets-length c ∙ none) in
    h ∙ nothing ∙ sym (ap (λ z. drop (length (filter (λ t. not (t == i)) z) + 2 - length z) (filter (λ t. not (t == i)) z)) nothing ∙ drop_all 2 [] (omega arith))

-- if the lists and the settings stay, the room for a key stays
pub room-same : {E K S : Type 0} (key : E → K) (hash : K → ℕ) (c d : Contents E S) → lists_of d ≡ lists_of c → settings_of d ≡ settings_of c → (k : K) → HasRoomBy hash key c k → HasRoomBy hash key d k
room-same key hash c d lists settings k h =
    let count = count-same c d lists in
    let same : count_by (λ e. bucket_of hash d (key e) == bucket_of hash d k) (entries d) ≡ count_by (λ e. bucket_of hash c (key e) == bucket_of hash c k) (entries c) =
    ap (λ s. count_by (λ e. bucket_number s.skipped (bucket_count d) (hash (key e)) == bucket_number s.skipped (bucket_count d) (hash k)) (entries d)) settings
    ∙ ap (λ n. count_by (λ e. bucket_number (settings_of c).skipped n (hash (key e)) == bucket_number (settings_of c).skipped n (hash k)) (entries d)) count
    ∙ ap (count_by (λ e. bucket_number (settings_of c).skipped (bucket_count c) (hash (key e)) == bucket_number (settings_of c).skipped (bucket_count c) (hash k))) (entries-same c d lists) in
    let few = h.1 in
    (omega (arith, h.0, count), omega arith)
