-- Some of the first waiting buckets are relocated.
use Rattle.std.proofs.Common.{◌≡◌, ℕ, zero, suc, ◌+◌, ◌<◌, ◌≤◌, List, [], ◌∷◌, length, drop, refl, sym, ap, ◌∙◌, subst, arith}
use Rattle.std.specs.List.{All}
use Rattle.std.proofs.lemmas.List.{drop_all, length-drop, nil_from_length}
use Rattle.std.proofs.lemmas.List.Elements.{All-cons}
use Rattle.scc_buckets.specs.Bounded.{IsBounded}
use Rattle.scc_common.specs.Contents.{Contents, list_of, lists_of, settings_of, notes_of, waiting_of, pending_of}
use Rattle.scc_table.specs.Relocates.{AreMovedFrom, AreShort}
use Rattle.scc_table.specs.Relocations.{RelocatesUpTo, TriesSecond, lone, kept, moved}
use Rattle.scc_table.specs.TwoArrays.{IsFirstWaiting, IsRelocated, IsWaiting, pending_targets, waits_at}
use Rattle.scc_table.proofs.relocations.OneByOne.{settle-down}
use Rattle.scc_table.proofs.arrays.SameParts.{list-same}
use Rattle.scc_table.proofs.relocations.ShortLists.{short-later}
use Rattle.scc_table.proofs.relocations.Targets.{same-first, targets-first, targets-length, targets-lone, targets-one, targets-second, targets-two}

pub drop-next : {X : Type 0} (n : ℕ) (xs : List X) → drop (n + 1) xs ≡ drop 1 (drop n xs)
drop-next zero xs = refl
drop-next (suc n) [] = drop_all (suc n + 1) [] (omega arith) ∙ sym (ap (drop 1) (drop_all (suc n) [] (omega arith)) ∙ drop_all 1 [] (omega arith))
drop-next (suc n) (x ∷ xs) = let m : suc n + 1 ≡ suc (n + 1) = omega arith in ap (λ k. drop k (x ∷ xs)) m ∙ drop-next n xs

all-none : {X : Type 0} (P : X → Type 0) → All P []
all-none P = λ k x l. absurd (omega arith)

module _ {E S : Type 0} where
  -- if the first n buckets of ts are relocated, `AreMovedFrom` holds for n
  moved-most : (ts : List ℕ) (d : Contents E S) (n : ℕ) → pending_targets d ≡ drop n ts → AreMovedFrom ts n d
  moved-most ts d n left = record { kept = []; left = left; long = all-none _ }

  -- if the first n buckets of ts are relocated, and none waits, `AreMovedFrom` holds for a greater number m
  moved-all : (ts : List ℕ) (d : Contents E S) (n m : ℕ) → pending_targets d ≡ drop n ts → n ≤ m → pending_of d ≡ 0 → pending_targets d ≡ drop m ts
  moved-all ts d n m left le none =
      let nothing : pending_targets d ≡ [] = nil_from_length (pending_targets d) (targets-length d ∙ none) in
      let few : length ts ≤ m = let x = ap length left in let y = targets-length d in omega (arith, length-drop n ts) in
      nothing ∙ sym (drop_all m ts few)

  -- if the first n buckets of ts are relocated, and memory for the next, bucket i, is refused, `AreMovedFrom` holds for
  -- n + 1
  moved-none : (ts : List ℕ) (d : Contents E S) (n i : ℕ) → pending_targets d ≡ drop n ts → IsFirstWaiting d i → 32 < length (list_of d i) → AreMovedFrom ts (n + 1) d
  moved-none ts d n i left first long = record {
    kept = i ∷ [];
    left = targets-one i d first ∙ ap (λ z. i ∷ drop 1 z) left ∙ ap (λ z. i ∷ z) (sym (drop-next n ts));
    long = All-cons (λ k. 32 < length (list_of d k)) i [] long (all-none _);
  }

  -- if memory for the first waiting bucket is refused, and the second is tried, `AreMovedFrom` holds for 2
  moved-second : (d e : Contents E S) (i : ℕ) → IsFirstWaiting d i → 32 < length (list_of d i) → TriesSecond d e → AreMovedFrom (pending_targets d) 2 e
  moved-second d e i first long (lone k h same) =
      let at : k ≡ i = same-first k i d h.first first in
      let none : drop 2 (pending_targets d) ≡ [] = ap (drop 2) (targets-lone k d h) in
      subst (AreMovedFrom (pending_targets d) 2) (sym same) record {
        kept = i ∷ [];
        left = targets-lone k d h ∙ ap (λ n. n ∷ []) at ∙ ap (λ z. i ∷ z) (sym none);
        long = All-cons (λ n. 32 < length (list_of d n)) i [] long (all-none _);
      }
  moved-second d e i first long (kept k j h far same) =
      let at : k ≡ i = same-first k i d h.first first in
      subst (AreMovedFrom (pending_targets d) 2) (sym same) record {
        kept = i ∷ j ∷ [];
        left = targets-two k j d h ∙ ap (λ n. n ∷ j ∷ drop 2 (pending_targets d)) at;
        long = All-cons (λ n. 32 < length (list_of d n)) i (j ∷ []) long (All-cons (λ n. 32 < length (list_of d n)) j [] far (all-none _));
      }
  moved-second d e i first long (moved k j h r) =
      let at : k ≡ i = same-first k i d h.first first in
      record {
        kept = i ∷ [];
        left = targets-second k j d e h r ∙ ap (λ n. n ∷ drop 2 (pending_targets d)) at;
        long = All-cons (λ n. 32 < length (list_of e n)) i [] (subst (λ z. 32 < length z) (sym (list-same d e r.lists i)) long) (all-none _);
      }

  -- the first n waiting buckets are relocated
  pub record SettlesFirst (c d : Contents E S) (n : ℕ) : Type 0 where
    pub lists : lists_of d ≡ lists_of c
    pub settings : settings_of d ≡ settings_of c
    pub refused : notes_of d ≡ notes_of c
    pub fewer : (k : ℕ) → IsWaiting d k → IsWaiting c k
    pub less : pending_of d ≤ pending_of c
    pub most : pending_of c ≤ pending_of d + n
    pub left : pending_targets d ≡ drop n (pending_targets c)
    pub bounded : IsBounded c → AreShort c → IsBounded d

  pub settles-start : (c : Contents E S) → SettlesFirst c c 0
  settles-start c = record { lists = refl; settings = refl; refused = refl; fewer = λ k h. h; less = omega arith; most = omega arith; left = refl; bounded = λ b s. b }

  pub settles-one : (c d e : Contents E S) (n i : ℕ) → SettlesFirst c d n → IsFirstWaiting d i → IsRelocated i d e → (IsBounded d → AreShort d → IsBounded e) → SettlesFirst c e (n + 1)
  settles-one c d e n i f first r bounded = record {
    lists = r.lists ∙ f.lists;
    settings = r.settings ∙ f.settings;
    refused = r.refused ∙ f.refused;
    fewer = λ k h. f.fewer k (settle-down (waiting_of d) i k (ap (λ ws. waits_at ws k) (sym r.waiting) ∙ h));
    less = omega (arith, f.less, r.pending);
    most = omega (arith, f.most, r.pending);
    left = targets-first i d e first r ∙ ap (drop 1) f.left ∙ sym (drop-next n (pending_targets c));
    bounded = λ b s. bounded (f.bounded b s) (short-later c d f.lists f.fewer s);
  }

  -- after n relocations
  pub settles-most : (c d : Contents E S) (n : ℕ) → SettlesFirst c d n → RelocatesUpTo n c d
  settles-most c d n f = record {
    lists = f.lists;
    settings = f.settings;
    noted = f.refused;
    fewer = f.fewer;
    less = f.less;
    most = f.most;
    moved = moved-most (pending_targets c) d n f.left;
    exact = λ s. f.left;
    bounded = f.bounded;
  }

  -- after n relocations, if no bucket waits any more
  pub settles-all : (c d : Contents E S) (n m : ℕ) → SettlesFirst c d n → n ≤ m → pending_of d ≡ 0 → RelocatesUpTo m c d
  settles-all c d n m f le none = record {
    lists = f.lists;
    settings = f.settings;
    noted = f.refused;
    fewer = f.fewer;
    less = f.less;
    most = omega (arith, f.most);
    moved = moved-most (pending_targets c) d m (moved-all (pending_targets c) d n m f.left le none);
    exact = λ s. moved-all (pending_targets c) d n m f.left le none;
    bounded = f.bounded;
  }

  -- a waiting bucket that holds more than 32 entries isn't short
  not-short : (c d : Contents E S) (n i : ℕ) → SettlesFirst c d n → IsFirstWaiting d i → 32 < length (list_of d i) → AreShort c → ⊥
  not-short c d n i f first long s = absurd (let z = s.short i (f.fewer i first.waits) in let same = ap length (list-same c d f.lists i) in omega arith)

  -- after n relocations, if memory for the next is refused
  pub settles-none : (c d : Contents E S) (n i : ℕ) → SettlesFirst c d n → IsFirstWaiting d i → 32 < length (list_of d i) → RelocatesUpTo (n + 1) c d
  settles-none c d n i f first long = record {
    lists = f.lists;
    settings = f.settings;
    noted = f.refused;
    fewer = f.fewer;
    less = f.less;
    most = omega (arith, f.most);
    moved = moved-none (pending_targets c) d n i f.left first long;
    exact = λ s. absurd (not-short c d n i f first long s);
    bounded = f.bounded;
  }

  -- what a try of the second waiting bucket leaves
  record Leaves (d e : Contents E S) : Type 0 where
    lists : lists_of e ≡ lists_of d
    settings : settings_of e ≡ settings_of d
    refused : notes_of e ≡ notes_of d
    fewer : (k : ℕ) → IsWaiting e k → IsWaiting d k
    less : pending_of e ≤ pending_of d
    most : pending_of d ≤ pending_of e + 1

  leaves-same : (d e : Contents E S) → e ≡ d → Leaves d e
  leaves-same d e same = subst (Leaves d) (sym same) record { lists = refl; settings = refl; refused = refl; fewer = λ k h. h; less = omega arith; most = omega arith }

  leaves-tried : (d e : Contents E S) → TriesSecond d e → Leaves d e
  leaves-tried d e (lone k h same) = leaves-same d e same
  leaves-tried d e (kept k j h far same) = leaves-same d e same
  leaves-tried d e (moved k j h r) = record {
    lists = r.lists;
    settings = r.settings;
    refused = r.refused;
    fewer = λ n up. settle-down (waiting_of d) j n (ap (λ ws. waits_at ws n) (sym r.waiting) ∙ up);
    less = omega (arith, r.pending);
    most = omega (arith, r.pending);
  }

  -- if memory for the first waiting bucket is refused, and the second is tried
  pub settles-second : (c d e : Contents E S) (i : ℕ) → SettlesFirst c d 0 → IsFirstWaiting d i → 32 < length (list_of d i) → TriesSecond d e → RelocatesUpTo 2 c e
  settles-second c d e i f first long tried =
      let l = leaves-tried d e tried in
      record {
        lists = l.lists ∙ f.lists;
        settings = l.settings ∙ f.settings;
        noted = l.refused ∙ f.refused;
        fewer = λ k up. f.fewer k (l.fewer k up);
        less = omega (arith, l.less, f.less);
        most = omega (arith, l.most, f.most);
        moved = subst (λ ts. AreMovedFrom ts 2 e) f.left (moved-second d e i first long tried);
        exact = λ s. absurd (not-short c d 0 i f first long s);
        bounded = λ b s. absurd (not-short c d 0 i f first long s);
      }
