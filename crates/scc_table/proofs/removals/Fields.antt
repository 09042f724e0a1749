-- A table of two arrays after one entry is taken out.
use Rattle.std.proofs.Common.{map, get_or, nat_lt, rules, ◌≡◌, ◌==◌, ℕ, zero, suc, ◌+◌, ◌-◌, ◌<◌, ◌≤◌, Bool, true, false, cond, Some, None, List, [], ◌∷◌, ◌++◌, length, take, drop, set, refl, sym, ap, ◌∙◌, subst, arith, length-set}
use Rattle.std.specs.Cmp.{IsEquivalence}
use Rattle.std.specs.List.{filter, remove, slice_get, sum_by}
use Rattle.std.specs.List.Sorted.{IsPermutation}
use Rattle.std.proofs.lemmas.List.{get_or-map, map-set}
use Rattle.std.proofs.lemmas.List.Edits.{length-remove}
use Rattle.std.proofs.lemmas.List.Sums.{sum_by-set}
use native.Mathlib.Decide.{dec_lt}
use Rattle.scc_array.specs.Shelves.{shelf_of}
use Rattle.scc_array.specs.Shelf.{Shelf, shelf_entries, empty_shelf, without_slot}
use Rattle.scc_array.proofs.ListsLemmas.{get-below}
use Rattle.scc_common.specs.Contents.{owed_of, Contents, entries, bucket_count, list_of, lists_of, settings_of}
use Rattle.scc_buckets.specs.OneList.{IsSwappedOutOf, IsTakenFrom}
use Rattle.scc_buckets.specs.Places as spots
use Rattle.scc_buckets.specs.Tables.{overflow_in}
use Rattle.scc_buckets.specs.declared.place.Place.{Place}
use Rattle.scc_buckets.proofs.Removes.{entries_without, overflow_without, own_without}
use Rattle.scc_table.specs.Places.{IsPlace, spot_of}
use Rattle.scc_table.specs.Takes.{owed_taken}
use Rattle.scc_draining.specs.Drainings.{Draining}
use Rattle.scc_table.specs.TwoArrays.{owed_in, waits_at, target_by, together, TwoArrays, IsTable}
use Rattle.scc_table.proofs.arrays.CurrentChanges.{own-fields, own-owed, own-list, own-lists, own-settings, own-refused, spilled-together}
use Rattle.scc_table.proofs.arrays.ListChanges.{set-none}
use Rattle.scc_table.proofs.arrays.JoinedLists.{count-together, owed-together, refused-together, settings-together}
use Rattle.scc_table.proofs.arrays.OldChanges.{list-split, list_back, list_front, old-arrays, old-fields, old-lists, remove-middle}
use Rattle.scc_table.proofs.places.OldSpots.{own-spot, old-spot, rank_of}
use Rattle.scc_table.proofs.removals.OneList.{taken-unique, swapped-unique}
use Rattle.scc_table.proofs.arrays.Writes.{own-got, own-is, old-got, old-is}

remove-parts : {X : Type 0} (xs : List X) (i : ℕ) (x : X) → slice_get xs i ≡ Some x → remove xs i ≡ take i xs ++ drop (suc i) xs
remove-parts [] i x got = absurd (let n : None ≡ Some x = got in cc)
remove-parts (y ∷ xs) zero x got = refl
remove-parts (y ∷ xs) (suc i) x got = ap (λ l. y ∷ l) (remove-parts xs i x got)

map-remove : {X Y : Type 0} (f : X → Y) (xs : List X) (i : ℕ) → map f (remove xs i) ≡ remove (map f xs) i
map-remove f [] zero = refl
map-remove f [] (suc i) = refl
map-remove f (x ∷ xs) zero = refl
map-remove f (x ∷ xs) (suc i) = ap (λ z. f x ∷ z) (map-remove f xs i)

pub owed-removed : {E : Type 0} (f : E → ℕ) (ws : List Bool) (olds : List (Shelf E)) (j s : ℕ) → j < length olds → s < length (shelf_entries (shelf_of olds j))
    → owed_in f ws (set olds j (without_slot (shelf_of olds j) s)) ≡ set (owed_in f ws olds) j (remove (get_or (owed_in f ws olds) j []) s)
owed-removed f [] olds j s lj ls = sym (set-none j (remove (get_or [] j []) s))
owed-removed f (w ∷ ws) olds j s lj ls =
    let b = without_slot (shelf_of olds j) s in
    let g : Shelf _ → List ℕ = λ x. map f (shelf_entries x) in
    let here : get_or (map g olds) j [] ≡ map f (shelf_entries (shelf_of olds j)) = get_or-map g olds j empty_shelf [] lj in
    map-set g olds j b ∙ ap (set (map g olds) j) (ap (map f) (entries_without (shelf_of olds j) s ls) ∙ map-remove f (shelf_entries (shelf_of olds j)) s ∙ ap (λ z. remove z s) (sym here))

pub none-either : {X : Type 0} (b : Bool) → ◌≡◌ {A = List X} [] (cond b [] [])
none-either true = refl
none-either false = refl

module _ {E S : Type 0} (hash : E → ℕ) (c : Contents E S) (ws : List Bool) (olds : List (Shelf E)) (arrays : TwoArrays hash c ws olds) (j s : ℕ) (e : E) (lj : j < length olds) (got : slice_get (shelf_entries (shelf_of olds j)) s ≡ Some e) where
  inside : s < length (shelf_entries (shelf_of olds j))
  inside = get-below (shelf_entries (shelf_of olds j)) s e got

  parts : shelf_entries (without_slot (shelf_of olds j) s) ≡ take s (shelf_entries (shelf_of olds j)) ++ ([] ++ drop (suc s) (shelf_entries (shelf_of olds j)))
  parts = entries_without (shelf_of olds j) s inside ∙ remove-parts (shelf_entries (shelf_of olds j)) s e got

  seen : (k : ℕ) → filter (λ x. target_by hash c x == k) [] ≡ cond (target_by hash c e == k) [] []
  seen k = none-either (target_by hash c e == k)

  pub arrays-less : TwoArrays hash c ws (set olds j (without_slot (shelf_of olds j) s))
  arrays-less = old-arrays hash c ws olds arrays j s e lj got (without_slot (shelf_of olds j) s) [] parts seen (own_without (shelf_of olds j) s inside hash (settings_of c).skipped (length olds) j (arrays.own.own j lj))

  -- the old array holds one entry fewer
  pub owed-less : sum_by (λ b. length (shelf_entries b)) (set olds j (without_slot (shelf_of olds j) s)) + 1 ≡ sum_by (λ b. length (shelf_entries b)) olds
  owed-less =
      let f : Shelf E → ℕ = λ b. length (shelf_entries b) in
      let d = without_slot (shelf_of olds j) s in
      let sums = sum_by-set f olds j d empty_shelf lj in
      let n : length (shelf_entries d) ≡ length (remove (shelf_entries (shelf_of olds j)) s) = ap length (entries_without (shelf_of olds j) s inside) in
      let m = length-remove (shelf_entries (shelf_of olds j)) s inside in
      let goal_is : sum_by f (set olds j d) + 1 ≡ sum_by f olds = omega arith in
      goal_is

  -- the overflow lists of the old array get no more entries
  pub spilled-less : overflow_in (set olds j (without_slot (shelf_of olds j) s)) ≤ overflow_in olds
  spilled-less =
      let f : Shelf E → ℕ = λ b. length b.overflow in
      let b = shelf_of olds j in
      let d = without_slot b s in
      let sums = sum_by-set f olds j d empty_shelf lj in
      let w = overflow_without b s inside in
      let goal_is : sum_by f (set olds j d) ≤ sum_by f olds = elim (dec_lt s (length b.slots)) [
        | yes q ↦ let o = w.0 q in omega arith
        | no q ↦ let o = w.1 (omega arith) in omega arith
      ] in
      goal_is

  -- the entry e is taken out of the list of its bucket
  pub old-taken : IsTakenFrom (together hash c ws olds) (record { bucket = target_by hash c e; slot = rank_of hash c ws olds arrays j s e lj got }) (together hash c ws (set olds j (without_slot (shelf_of olds j) s)))
  old-taken =
      let b = without_slot (shelf_of olds j) s in
      let news = set olds j b in
      let i = target_by hash c e in
      let m : ℕ = rank_of hash c ws olds arrays j s e lj got in
      let u = together hash c ws olds in
      let front = list_front hash c ws olds arrays j s e lj got in
      let back = list_back hash c ws olds arrays j s e lj got in
      let list : remove (list_of u i) m ≡ front ++ back = ap (λ z. remove z m) (list-split hash c ws olds arrays j s e lj got) ∙ remove-middle front e back in
      record {
        lists = old-lists hash c ws olds arrays j s e lj got b [] parts seen ∙ ap (set (lists_of u) i) (sym list);
        settings = settings-together hash c ws news ∙ sym (settings-together hash c ws olds);
        refused = refused-together hash c ws news ∙ sym (refused-together hash c ws olds);
        spilled = let o = spilled-less in let a = spilled-together hash c ws news in let z = spilled-together hash c ws olds in omega arith;
      }

-- the invariant `IsTable` holds after the entry at p is taken out
module _ {E K S : Type 0} {eq : K → K → Bool} (laws : IsEquivalence eq) {key : E → K} {hash : K → ℕ} {c : Contents E S} {drain : Draining E} (inv : IsTable eq key hash c drain) (p : Place)
    (within : IsPlace (together (λ e. hash (key e)) c drain.waiting drain.array) p) where
  module _ (l : p.bucket < bucket_count c) (d : Contents E S) where
    down : waits_at drain.waiting p.bucket ≡ false
    down = (own-is laws inv p within l).1

    spot-here : spot_of (together (λ x. hash (key x)) c drain.waiting drain.array) p ≡ p
    spot-here = own-spot (λ x. hash (key x)) c drain.waiting drain.array inv.arrays p l down

    pub own-swapped : IsSwappedOutOf c p d → IsSwappedOutOf (together (λ x. hash (key x)) c drain.waiting drain.array) (spot_of (together (λ x. hash (key x)) c drain.waiting drain.array) p) (together (λ x. hash (key x)) d drain.waiting drain.array)
    own-swapped t =
        let h : E → ℕ = λ x. hash (key x) in
        let u = together h c drain.waiting drain.array in
        let v = together h d drain.waiting drain.array in
        let at : IsSwappedOutOf u p v = record {
          left = t.left;
          moved = subst (λ z. IsPermutation (remove z p.slot) t.left) (sym (own-list h c drain.waiting drain.array p.bucket down)) t.moved;
          lists = own-lists c d p.bucket t.left t.lists t.settings h drain.waiting drain.array down;
          settings = own-settings c d p.bucket t.left t.lists t.settings h drain.waiting drain.array down;
          refused = own-refused c d p.bucket t.left t.lists t.settings h drain.waiting drain.array down t.refused;
          spilled = let o = t.spilled in let a = spilled-together h d drain.waiting drain.array in let z = spilled-together h c drain.waiting drain.array in omega arith;
        } in
        subst (λ q. IsSwappedOutOf u q v) (sym spot-here) at

    -- if p is a place of the current array, what the old array owes stays
    pub own-owed_kept : (x : List E) → lists_of d ≡ set (lists_of c) p.bucket x → settings_of d ≡ settings_of c
        → owed_of (together (λ x. hash (key x)) d drain.waiting drain.array) ≡ owed_taken (bucket_count (together (λ x. hash (key x)) c drain.waiting drain.array)) (owed_of (together (λ x. hash (key x)) c drain.waiting drain.array)) p
    own-owed_kept x lists settings =
        let h : E → ℕ = λ x. hash (key x) in
        let u = together h c drain.waiting drain.array in
        let count = count-together h c drain.waiting drain.array inv.arrays.flags in
        let near : nat_lt p.bucket (bucket_count u) ≡ true = let l2 : p.bucket < bucket_count u = omega arith in search rules in
        let j = p.bucket - bucket_count u in
        own-owed c d p.bucket x lists settings h drain.waiting drain.array down ∙ sym (ap (λ (b : Bool). cond b (owed_of u) (set (owed_of u) j (remove (get_or (owed_of u) j []) p.slot))) near)

    pub own-taken : IsTakenFrom c p d → IsTakenFrom (together (λ x. hash (key x)) c drain.waiting drain.array) (spot_of (together (λ x. hash (key x)) c drain.waiting drain.array) p) (together (λ x. hash (key x)) d drain.waiting drain.array)
    own-taken t =
        let h : E → ℕ = λ x. hash (key x) in
        let u = together h c drain.waiting drain.array in
        let v = together h d drain.waiting drain.array in
        let left = remove (list_of c p.bucket) p.slot in
        let at : IsTakenFrom u p v = record {
          lists = own-lists c d p.bucket left t.lists t.settings h drain.waiting drain.array down ∙ ap (λ z. set (lists_of u) p.bucket (remove z p.slot)) (sym (own-list h c drain.waiting drain.array p.bucket down));
          settings = own-settings c d p.bucket left t.lists t.settings h drain.waiting drain.array down;
          refused = own-refused c d p.bucket left t.lists t.settings h drain.waiting drain.array down t.refused;
          spilled = let o = t.spilled in let a = spilled-together h d drain.waiting drain.array in let z = spilled-together h c drain.waiting drain.array in omega arith;
        } in
        subst (λ q. IsTakenFrom u q v) (sym spot-here) at

    module _ (e : E) (got : slice_get (entries c) (spots.index_of_spot c p) ≡ Some e) where
      pub own-less_swapped : IsSwappedOutOf c p d → IsTable eq key hash d drain
      own-less_swapped t =
          let h : E → ℕ = λ x. hash (key x) in
          let u = together h c drain.waiting drain.array in
          let there = own-got laws inv p within l e got in
          own-fields eq key hash c d p.bucket t.left t.lists t.settings drain down inv (let o = t.spilled in let f = inv.few in omega arith)
          (swapped-unique u (together h d drain.waiting drain.array) (spot_of u p) within (own-swapped t) laws key e there inv.unique)

      pub own-less : IsTakenFrom c p d → IsTable eq key hash d drain
      own-less t =
          let h : E → ℕ = λ x. hash (key x) in
          let u = together h c drain.waiting drain.array in
          let there = own-got laws inv p within l e got in
          own-fields eq key hash c d p.bucket (remove (list_of c p.bucket) p.slot) t.lists t.settings drain down inv (let o = t.spilled in let f = inv.few in omega arith)
          (taken-unique u (together h d drain.waiting drain.array) (spot_of u p) within (own-taken t) laws key e there inv.unique)

  module _ (far : bucket_count c ≤ p.bucket) (e : E) (got : slice_get (shelf_entries (shelf_of drain.array (p.bucket - bucket_count c))) p.slot ≡ Some e) where
    lj : p.bucket - bucket_count c < length drain.array
    lj = (old-is laws inv p within far).0

    pub old-taken_at : IsTakenFrom (together (λ x. hash (key x)) c drain.waiting drain.array) (spot_of (together (λ x. hash (key x)) c drain.waiting drain.array) p)
        (together (λ x. hash (key x)) c drain.waiting (set drain.array (p.bucket - bucket_count c) (without_slot (shelf_of drain.array (p.bucket - bucket_count c)) p.slot)))
    old-taken_at =
        let h : E → ℕ = λ x. hash (key x) in
        let j = p.bucket - bucket_count c in
        let back : p.bucket ≡ bucket_count c + j = omega arith in
        subst (λ q. IsTakenFrom (together h c drain.waiting drain.array) q (together h c drain.waiting (set drain.array j (without_slot (shelf_of drain.array j) p.slot)))) (sym (old-spot h c drain.waiting drain.array inv.arrays j p.slot e lj got p back refl))
        (old-taken h c drain.waiting drain.array inv.arrays j p.slot e lj got)

    -- if p is a place of the old array, what the old array owes loses the entry at p
    pub old-owed_taken : owed_of (together (λ x. hash (key x)) c drain.waiting (set drain.array (p.bucket - bucket_count c) (without_slot (shelf_of drain.array (p.bucket - bucket_count c)) p.slot)))
        ≡ owed_taken (bucket_count (together (λ x. hash (key x)) c drain.waiting drain.array)) (owed_of (together (λ x. hash (key x)) c drain.waiting drain.array)) p
    old-owed_taken =
        let h : E → ℕ = λ x. hash (key x) in
        let f = target_by h c in
        let u = together h c drain.waiting drain.array in
        let n = bucket_count c in
        let j = p.bucket - n in
        let count = count-together h c drain.waiting drain.array inv.arrays.flags in
        let past : nat_lt p.bucket n ≡ false = search rules in
        let ls = (old-is laws inv p within far).1 in
        let hs = owed_in f drain.waiting drain.array in
        owed-together h c drain.waiting (set drain.array j (without_slot (shelf_of drain.array j) p.slot)) ∙ owed-removed f drain.waiting drain.array j p.slot lj ls
        ∙ sym (ap (λ m. owed_taken m (owed_of u) p) count ∙ ap (λ z. owed_taken n z p) (owed-together h c drain.waiting drain.array) ∙ ap (λ (b : Bool). cond b hs (set hs j (remove (get_or hs j []) p.slot))) past)

    -- the old array holds at least one entry
    pub old-some : 1 ≤ drain.left
    old-some = let h : E → ℕ = λ x. hash (key x) in let n = owed-less h c drain.waiting drain.array inv.arrays (p.bucket - bucket_count c) p.slot e lj got in let m = inv.left_is in omega arith

    pub old-less : IsTable eq key hash c (record drain { array = set drain.array (p.bucket - bucket_count c) (without_slot (shelf_of drain.array (p.bucket - bucket_count c)) p.slot); left = drain.left - 1 })
    old-less =
        let h : E → ℕ = λ x. hash (key x) in
        let j = p.bucket - bucket_count c in
        let news = set drain.array j (without_slot (shelf_of drain.array j) p.slot) in
        let u = together h c drain.waiting drain.array in
        let there = old-got laws inv p within far e got in
        old-fields eq key hash c drain news (drain.left - 1) inv (arrays-less h c drain.waiting drain.array inv.arrays j p.slot e lj got) (length-set drain.array j (without_slot (shelf_of drain.array j) p.slot))
        (let n = owed-less h c drain.waiting drain.array inv.arrays j p.slot e lj got in let m = inv.left_is in omega arith)
        (let n = spilled-less h c drain.waiting drain.array inv.arrays j p.slot e lj got in let m = inv.overflow_is in omega arith)
        (taken-unique u (together h c drain.waiting news) (spot_of u p) within old-taken_at laws key e there inv.unique)
