-- One old bucket: the entries of a target are taken out one after the other.
use Rattle.std.proofs.Common.{◌≡◌, ◌==◌, ℕ, ◌+◌, ◌-◌, ◌<◌, ◌≤◌, ◌≢◌, Bool, true, false, not, Some, List, [], ◌∷◌, ◌++◌, length, set, take, drop, get_or, refl, sym, ap, ◌∙◌, subst, arith, rules, length-append, length-drop, length-take, length-set, append_assoc, get_or-set_same}
use Rattle.std.specs.List.{slice_get, remove}
use Rattle.std.proofs.lemmas.List.{append-nil, drop_more, take_more, take-append-drop, set-set, set-get_or, take_all, drop_all}
use Rattle.std.proofs.lemmas.List.Edits.{remove-append_right}
use Rattle.std.proofs.lemmas.List.Elements.{filter-append}
use Rattle.std.proofs.lemmas.List.Sums.{length-filter, count_by-le-length}
use Rattle.scc_array.specs.Shelves.{shelf_of}
use Rattle.scc_array.specs.Shelf.{Shelf, shelf_entries, empty_shelf, with_entry, without_slot, ShelfHasRoom}
use native.Mathlib.Decide.{dec_lt}
use Rattle.scc_array.proofs.ListsLemmas.{get-right}
use Rattle.scc_buckets.specs.Pour.{destined_for, Extends, IsPacked}
use Rattle.scc_common.specs.Routing.{bucket_number, tag_of}
use Rattle.scc_buckets.specs.Tables.{IsOwn}
use Rattle.scc_buckets.proofs.Pours.{destined_append, destined_here, destined_other, extends_push, room_by}
use Rattle.scc_buckets.proofs.Removes.{entries_without, overflow_without, own_without}
use Rattle.scc_draining.specs.Moves.{others_for, Pulls}

pub others_append : {E : Type 0} (hash : E → ℕ) (t n i : ℕ) (xs ys : List E) → others_for hash t n i (xs ++ ys) ≡ others_for hash t n i xs ++ others_for hash t n i ys
others_append hash t n i xs ys = filter-append _ xs ys

not_equal : (a b : ℕ) → a ≢ b → (a == b) ≡ false
not_equal a b h = search rules

equal : (a b : ℕ) → a ≡ b → (a == b) ≡ true
equal a b h = search rules

pub others_here : {E : Type 0} (hash : E → ℕ) (t n i : ℕ) (e : E) (es : List E) → i ≡ bucket_number t n (hash e) → others_for hash t n i (e ∷ es) ≡ others_for hash t n i es
others_here hash t n i e es h = let s : (bucket_number t n (hash e) == i) ≡ true = equal _ _ (sym h) in rw s

pub others_other : {E : Type 0} (hash : E → ℕ) (t n i : ℕ) (e : E) (es : List E) → i ≢ bucket_number t n (hash e) → others_for hash t n i (e ∷ es) ≡ e ∷ others_for hash t n i es
others_other hash t n i e es h = let s : (bucket_number t n (hash e) == i) ≡ false = not_equal _ _ (λ z. h (sym z)) in rw s

-- the first k entries of old bucket j were looked at, and `place` of them stayed
pub record PullsUntil {E : Type 0} (hash : E → ℕ) (t n i j : ℕ) (olds : List (Shelf E)) (a : Shelf E) (news : List (Shelf E)) (b : Shelf E) (k place : ℕ) : Type 0 where
  pub same : news ≡ set olds j (shelf_of news j)
  pub kept : shelf_entries (shelf_of news j) ≡ others_for hash t n i (take k (shelf_entries (shelf_of olds j))) ++ drop k (shelf_entries (shelf_of olds j))
  pub stayed : place ≡ length (others_for hash t n i (take k (shelf_entries (shelf_of olds j))))
  pub own : IsOwn hash t (length olds) j (shelf_of news j)
  pub overflow : length (shelf_of news j).overflow ≤ length (shelf_of olds j).overflow
  pub moved : Extends hash a b (destined_for hash t n i (take k (shelf_entries (shelf_of olds j))))

module _ {E : Type 0} (hash : E → ℕ) (t n i j : ℕ) (olds : List (Shelf E)) (a : Shelf E) where
  pub pull-start : IsOwn hash t (length olds) j (shelf_of olds j) → IsPacked hash a → PullsUntil hash t n i j olds a olds a 0 0
  pull-start own packed = record {
    same = sym (set-get_or olds j empty_shelf);
    kept = refl;
    stayed = refl;
    own = own;
    overflow = omega arith;
    moved = record { entries_are = sym (append-nil (shelf_entries a)); room = omega arith; packed = packed };
  }

  module _ (news : List (Shelf E)) (b : Shelf E) (k place : ℕ) (p : PullsUntil hash t n i j olds a news b k place) where
    pub pull-end : length (shelf_entries (shelf_of olds j)) ≤ k → Pulls hash t n i j olds a news b
    pull-end l =
        let es = shelf_entries (shelf_of olds j) in
        let all : take k es ≡ es = take_all k es l in
        record {
          same = p.same;
          kept = p.kept ∙ ap (λ z. others_for hash t n i z ++ drop k es) all ∙ ap (λ z. others_for hash t n i es ++ z) (drop_all k es l) ∙ append-nil (others_for hash t n i es);
          own = p.own;
          overflow = p.overflow;
          moved = subst (λ z. Extends hash a b (destined_for hash t n i z)) all p.moved;
        }

    -- at most as many entries stayed as were looked at
    pub pull-below : place ≤ k
    pull-below =
        let q : E → Bool = λ e. not (bucket_number t n (hash e) == i) in
        let xs = take k (shelf_entries (shelf_of olds j)) in
        omega (arith, p.stayed, length-filter q xs, count_by-le-length q xs, length-take k (shelf_entries (shelf_of olds j)))

    module _ (l : k < length (shelf_entries (shelf_of olds j))) where
      pub pull-within : place < length (shelf_entries (shelf_of news j))
      pull-within =
          let es = shelf_entries (shelf_of olds j) in
          let n1 : length (shelf_entries (shelf_of news j)) ≡ length (others_for hash t n i (take k es)) + length (drop k es) = ap length p.kept ∙ length-append (others_for hash t n i (take k es)) (drop k es) in
          let n2 : length (drop k es) ≡ length es - k = length-drop k es in
          omega (arith, p.stayed)

      module _ (e : E) (got : slice_get (shelf_entries (shelf_of news j)) place ≡ Some e) where
        seen-is : get_or (shelf_entries (shelf_of olds j)) k e ≡ e
        seen-is =
            let es = shelf_entries (shelf_of olds j) in
            let os = others_for hash t n i (take k es) in
            let at : place ≡ length os + 0 = omega (arith, p.stayed) in
            let here : slice_get (drop k es) 0 ≡ Some e = sym (get-right os (drop k es) 0) ∙ ap (slice_get (os ++ drop k es)) (sym at) ∙ ap (λ z. slice_get z place) (sym p.kept) ∙ got in
            let first : Some (get_or es k e) ≡ Some e = ap (λ z. slice_get z 0) (sym (drop_more es k e l)) ∙ here in
            cc

        seen-more : take (k + 1) (shelf_entries (shelf_of olds j)) ≡ take k (shelf_entries (shelf_of olds j)) ++ e ∷ []
        seen-more = let es = shelf_entries (shelf_of olds j) in take_more es k e l ∙ ap (λ z. take k es ++ z ∷ []) seen-is

        seen-left : drop k (shelf_entries (shelf_of olds j)) ≡ e ∷ drop (k + 1) (shelf_entries (shelf_of olds j))
        seen-left = let es = shelf_entries (shelf_of olds j) in drop_more es k e l ∙ ap (λ z. z ∷ drop (k + 1) es) seen-is

        -- the entry doesn't belong to the bucket
        pub pull-skip : i ≢ bucket_number t n (hash e) → PullsUntil hash t n i j olds a news b (k + 1) (place + 1)
        pull-skip ne =
            let es = shelf_entries (shelf_of olds j) in
            let os = others_for hash t n i (take k es) in
            let one : others_for hash t n i (take (k + 1) es) ≡ os ++ e ∷ [] =
            ap (others_for hash t n i) seen-more ∙ others_append hash t n i (take k es) (e ∷ []) ∙ ap (λ z. os ++ z) (others_other hash t n i e [] ne) in
            let none : destined_for hash t n i (take (k + 1) es) ≡ destined_for hash t n i (take k es) =
            ap (destined_for hash t n i) seen-more ∙ destined_append hash t n i (take k es) (e ∷ []) ∙ ap (λ z. destined_for hash t n i (take k es) ++ z) (destined_other hash t n i e [] ne) ∙ append-nil (destined_for hash t n i (take k es)) in
            record {
              same = p.same;
              kept = p.kept ∙ ap (λ z. os ++ z) seen-left ∙ sym (append_assoc os (e ∷ []) (drop (k + 1) es)) ∙ ap (λ z. z ++ drop (k + 1) es) (sym one);
              stayed = let m : length (others_for hash t n i (take (k + 1) es)) ≡ length os + 1 = ap length one ∙ length-append os (e ∷ []) in omega (arith, p.stayed);
              own = p.own;
              overflow = p.overflow;
              moved = subst (λ z. Extends hash a b z) (sym none) p.moved;
            }

        module _ (h : i ≡ bucket_number t n (hash e)) where
          destined-more : destined_for hash t n i (take (k + 1) (shelf_entries (shelf_of olds j))) ≡ destined_for hash t n i (take k (shelf_entries (shelf_of olds j))) ++ e ∷ []
          destined-more =
              let es = shelf_entries (shelf_of olds j) in
              ap (destined_for hash t n i) seen-more ∙ destined_append hash t n i (take k es) (e ∷ []) ∙ ap (λ z. destined_for hash t n i (take k es) ++ z) (destined_here hash t n i e [] h)

          -- the bucket has room for the entry
          pub pull-room : length (shelf_entries a) + length (destined_for hash t n i (shelf_entries (shelf_of olds j))) ≤ 32 + a.room → ShelfHasRoom b
          pull-room room =
              let es = shelf_entries (shelf_of olds j) in
              let bs = destined_for hash t n i (take k es) in
              let all : destined_for hash t n i es ≡ bs ++ (e ∷ destined_for hash t n i (drop (k + 1) es)) =
              ap (destined_for hash t n i) (sym (take-append-drop k es)) ∙ destined_append hash t n i (take k es) (drop k es)
              ∙ ap (λ z. bs ++ z) (ap (destined_for hash t n i) seen-left ∙ destined_here hash t n i e (drop (k + 1) es) h) in
              let n1 : length (destined_for hash t n i es) ≡ length bs + (1 + length (destined_for hash t n i (drop (k + 1) es))) = ap length all ∙ length-append bs (e ∷ destined_for hash t n i (drop (k + 1) es)) ∙ omega arith in
              let n2 : length (shelf_entries b) ≡ length (shelf_entries a) + length bs = ap length p.moved.entries_are ∙ length-append (shelf_entries a) bs in
              let n3 : length (shelf_entries b) ≡ length b.slots + length b.overflow = length-append b.slots b.overflow in
              let big : length b.slots + length b.overflow < 32 + b.room = omega (arith, p.moved.room) in
              room_by b p.moved.packed.within big

          -- the entry moves to the bucket
          pub pull-move : j < length olds → (later : List (Shelf E)) (c : Shelf E) → later ≡ set news j (without_slot (shelf_of news j) place)
              → c ≡ record (with_entry b e (tag_of (hash e))) { room = c.room } → b.room ≤ c.room → PullsUntil hash t n i j olds a later c (k + 1) place
          pull-move lj later c new put more =
              let es = shelf_entries (shelf_of olds j) in
              let os = others_for hash t n i (take k es) in
              let s = shelf_of news j in
              let long : length news ≡ length olds = ap length p.same ∙ length-set olds j s in
              let here : shelf_of later j ≡ without_slot s place = ap (λ z. shelf_of z j) new ∙ get_or-set_same news j (without_slot s place) empty_shelf (omega arith) in
              let none : others_for hash t n i (take (k + 1) es) ≡ os =
              ap (others_for hash t n i) seen-more ∙ others_append hash t n i (take k es) (e ∷ []) ∙ ap (λ z. os ++ z) (others_here hash t n i e [] h) ∙ append-nil os in
              let zero_left : place - length os ≡ 0 = omega (arith, p.stayed) in
              let rest : remove (shelf_entries s) place ≡ os ++ drop (k + 1) es =
              ap (λ z. remove z place) (p.kept ∙ ap (λ z. os ++ z) seen-left) ∙ remove-append_right os (e ∷ drop (k + 1) es) (length os) place refl (omega (arith, p.stayed)) ∙ ap (λ m. os ++ remove (e ∷ drop (k + 1) es) m) zero_left in
              record {
                same = new ∙ ap (λ z. set z j (without_slot s place)) p.same ∙ set-set olds j s (without_slot s place) ∙ ap (set olds j) (sym here);
                kept = ap shelf_entries here ∙ entries_without s place pull-within ∙ rest ∙ ap (λ z. z ++ drop (k + 1) es) (sym none);
                stayed = p.stayed ∙ ap length (sym none);
                own = subst (IsOwn hash t (length olds) j) (sym here) (own_without s place pull-within hash t (length olds) j p.own);
                overflow = let fewer = overflow_without s place pull-within in let eq : length (shelf_of later j).overflow ≡ length (without_slot s place).overflow = ap (λ z. length z.overflow) here in
                    elim (dec_lt place (length s.slots)) [ yes q ↦ let z = fewer.0 q in omega (arith, p.overflow) | no q ↦ let z = fewer.1 (omega arith) in omega (arith, p.overflow) ];
                moved = subst (λ z. Extends hash a c z) (sym destined-more) (extends_push hash a b c e (destined_for hash t n i (take k es)) p.moved put more);
              }
