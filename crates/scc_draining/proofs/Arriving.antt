-- A table in which an empty bucket gets the entries that come from the old array.
use Rattle.std.proofs.Common.{◌≡◌, ◌==◌, ℕ, ◌+◌, ◌^◌, ◌<◌, ◌≤◌, ◌⊎◌, inl, inr, Bool, true, List, [], length, map, set, get_or, refl, sym, ap, ◌∙◌, subst, arith, length-append, Result, Ok, Err, eqb-true}
use Rattle.std.specs.Prelude.{OnOk, OnErr}
use Rattle.std.specs.List.{flat_map, IsDistinct}
use Rattle.std.proofs.lemmas.List.{map-set, length-map, get_or-map, set-get_or}
use Rattle.std.proofs.lemmas.List.Elements.{filter_passes, All-get_or}
use Rattle.scc_array.specs.Shelf.{Shelf, shelf_entries, empty_shelf}
use Rattle.scc_buckets.proofs.Bare.{nil-left}
use Rattle.scc_common.specs.Contents.{Contents, Settings, entries, bucket_count, list_of, lists_of, settings_of, notes_of, overflow_of, waiting_of, owed_of, IsUniqueBy}
use Rattle.scc_buckets.specs.Pour.{destined_for, Extends}
use Rattle.scc_common.specs.Routing.{bucket_number, tag_of}
use Rattle.scc_buckets.specs.Tables.{IsOwn, IsBuckets}
use Rattle.scc_buckets.proofs.Inserts.{table_set}
use Rattle.scc_buckets.proofs.Views.{flat_lists}
use Rattle.scc_draining.specs.Moves.{Drains}

shelf_with : {E : Type 0} → List E → List ℕ → List E → ℕ → Shelf E
shelf_with slots tags overflow room = record { slots = slots; tags = tags; overflow = overflow; room = room }

-- es came into the empty bucket, at most `left` of them into its overflow list; or no entry came
pub data Landed {E : Type 0} (hash : E → ℕ) (es : List E) (left : ℕ) (d : Shelf E) : Type 0 where
  all : Extends hash empty_shelf d es → length es ≤ 32 + left → Landed hash es left d
  nothing : d ≡ record empty_shelf { room = d.room } → Landed hash es left d

module _ {E : Type 0} (hash : E → ℕ) (t i : ℕ) (bs : List (Shelf E)) (b : Shelf E) where
  pub is-bare : IsOwn hash t (length bs) i b → shelf_entries b ≡ [] → b ≡ record empty_shelf { room = b.room }
  unfolding shelf_with
  is-bare own bare =
      let parts = nil-left b.slots b.overflow bare in
      let tags : b.tags ≡ [] = own.tagged ∙ ap (map (λ e. tag_of (hash e))) parts.0 in
      ap (λ z. shelf_with z b.tags b.overflow b.room) parts.0 ∙ ap (λ z. shelf_with [] z b.overflow b.room) tags ∙ ap (λ z. shelf_with [] [] z b.room) parts.1

  module _ (all_es : List E) (left : ℕ) (d : Shelf E) where
    bound : List E
    bound = destined_for hash t (length bs) i all_es

    pub landed-list : Landed hash (destined_for hash t (length bs) i all_es) left d → (shelf_entries d ≡ destined_for hash t (length bs) i all_es) ⊎ (shelf_entries d ≡ [])
    landed-list (all x few) = inl x.entries_are
    landed-list (nothing e) = inr (ap shelf_entries e)

    pub landed-own : Landed hash (destined_for hash t (length bs) i all_es) left d → IsOwn hash t (length bs) i d
    landed-own (all x few) =
        let es = destined_for hash t (length bs) i all_es in
        record {
          tagged = x.packed.tagged;
          within = x.packed.within;
          routed = λ j e lj.
              let at : j < length es = subst (λ z. j < length z) x.entries_are lj in
              let p = All-get_or (λ y. (bucket_number t (length bs) (hash y) == i) ≡ true) es j e at (filter_passes (λ y. bucket_number t (length bs) (hash y) == i) all_es) in
              ap (λ z. bucket_number t (length bs) (hash (get_or z j e))) x.entries_are ∙ eqb-true _ _ p;
        }
    landed-own (nothing e) = subst (IsOwn hash t (length bs) i) (sym e) (record { tagged = refl; within = omega arith; routed = λ j x lj. absurd (omega arith) })

    pub landed-spilled : Landed hash (destined_for hash t (length bs) i all_es) left d → length d.overflow ≤ left
    landed-spilled (all x few) =
        let n1 : length (shelf_entries d) ≡ length (destined_for hash t (length bs) i all_es) = ap length x.entries_are in
        let n2 : length (shelf_entries d) ≡ length d.slots + length d.overflow = length-append d.slots d.overflow in
        elim x.packed.last [
          | inl q ↦ omega arith
          | inr q ↦ let z : length d.overflow ≡ 0 = ap length q in omega arith
        ]
    landed-spilled (nothing e) = let z : length d.overflow ≡ 0 = ap (λ x. length x.overflow) e in omega arith

    -- the table with the changed bucket is a table
    pub landed-table : (count over : ℕ) → IsBuckets hash t bs count over → i < length bs → b ≡ get_or bs i b → shelf_entries b ≡ [] → over + left < 2 ^ 62 → Landed hash (destined_for hash t (length bs) i all_es) left d
        → IsBuckets hash t (set bs i d) (count + length (shelf_entries d)) (over + length d.overflow)
    landed-table count over table l at bare few landed =
        let none : length (shelf_entries b) ≡ 0 = ap length bare in
        let parts = nil-left b.slots b.overflow bare in
        let no_overflow : length b.overflow ≡ 0 = ap length parts.1 in
        let spilled = landed-spilled landed in
        table_set hash t count over (count + length (shelf_entries d)) (over + length d.overflow) i bs b d table l at (landed-own landed) (omega arith) (omega arith) (omega arith)

by_result3 : {X Y : Type 0} {P R Q : Type 0} (r : Result X Y) → OnOk r P → OnOk r R → OnErr r Q → (P × R) ⊎ Q
by_result3 (Ok x) p s q = inl (p, s)
by_result3 (Err y) p s q = inr q

module _ {E : Type 0} (hash : E → ℕ) (t i : ℕ) (bs olds news : List (Shelf E)) (d : Shelf E) (left coming u n : ℕ) (tu : u ≡ t) (nu : n ≡ length bs) (most : length (destined_for hash t (length bs) i (flat_map shelf_entries olds)) ≤ coming) where
  pub landed-from : {X Y : Type 0} (r : Result X Y) → OnOk r (Drains hash u n i olds empty_shelf news d) → OnOk r (coming ≤ 32 + left) → OnErr r (d ≡ record empty_shelf { room = d.room })
      → Landed hash (destined_for hash t (length bs) i (flat_map shelf_entries olds)) left d
  landed-from r ok few stays = elim (by_result3 r ok few stays) [
    | inl p ↦ all (subst (λ m. Extends hash empty_shelf d (destined_for hash t m i (flat_map shelf_entries olds))) nu (subst (λ m. Extends hash empty_shelf d (destined_for hash m n i (flat_map shelf_entries olds))) tu p.0.moved)) (let f = p.1 in omega arith)
    | inr q ↦ nothing q
  ]

module _ {E S : Type 0} (c : Contents E S) (bs : List (Shelf E)) (were : lists_of c ≡ map shelf_entries bs) where
  pub count-were : bucket_count c ≡ length bs
  unfolding bucket_count lists_of
  count-were = ap length were ∙ length-map bs shelf_entries

  pub list-were : (i : ℕ) (b : Shelf E) → i < length bs → b ≡ get_or bs i b → list_of c i ≡ shelf_entries b
  unfolding list_of lists_of
  list-were i b l at = ap (λ ls. get_or ls i []) were ∙ get_or-map shelf_entries bs i b [] l ∙ ap shelf_entries (sym at)

  pub entries-were : entries c ≡ flat_map shelf_entries bs
  unfolding entries lists_of
  entries-were = ap (flat_map (λ l. l)) were ∙ flat_lists bs

-- keys stay distinct if no entry came in; otherwise they are distinct if the keys of the new lists are
module _ {E K S : Type 0} (eq : K → K → Bool) (key : E → K) (c : Contents E S) (bs : List (Shelf E)) (were : lists_of c ≡ map shelf_entries bs) (i : ℕ) (d : Shelf E) where
  pub lists-set : map shelf_entries (set bs i d) ≡ set (lists_of c) i (shelf_entries d)
  lists-set = map-set shelf_entries bs i d ∙ ap (λ z. set z i (shelf_entries d)) (sym were)

  pub distinct-set : IsDistinct eq (map key (flat_map (λ l. l) (set (lists_of c) i (shelf_entries d)))) → IsDistinct eq (map key (flat_map shelf_entries (set bs i d)))
  distinct-set h = subst (λ z. IsDistinct eq (map key z)) (ap (flat_map (λ l. l)) (sym lists-set) ∙ flat_lists (set bs i d)) h

  -- if a bucket without entries stays without entries, the lists are unchanged
  pub same-lists : (b : Shelf E) → i < length bs → b ≡ get_or bs i b → shelf_entries b ≡ [] → shelf_entries d ≡ [] → set (lists_of c) i (shelf_entries d) ≡ lists_of c
  same-lists b l at bare none =
      let here : get_or (lists_of c) i [] ≡ shelf_entries d = ap (λ ls. get_or ls i []) were ∙ get_or-map shelf_entries bs i b [] l ∙ ap shelf_entries (sym at) ∙ bare ∙ sym none in
      ap (set (lists_of c) i) (sym here) ∙ set-get_or (lists_of c) i []

  pub distinct-landed : (es : List E) (b : Shelf E) → i < length bs → b ≡ get_or bs i b → shelf_entries b ≡ [] → (shelf_entries d ≡ es) ⊎ (shelf_entries d ≡ []) → IsUniqueBy eq key c
      → IsDistinct eq (map key (flat_map (λ l. l) (set (lists_of c) i es))) → IsDistinct eq (map key (flat_map shelf_entries (set bs i d)))
  distinct-landed es b l at bare landed unique there = elim landed [
    | inl e ↦ distinct-set (subst (λ z. IsDistinct eq (map key (flat_map (λ l. l) (set (lists_of c) i z)))) (sym e) there)
    | inr e ↦ distinct-set (subst (λ z. IsDistinct eq (map key z)) (entries-were c bs were ∙ sym (flat_lists bs) ∙ ap (flat_map (λ l. l)) (sym were) ∙ ap (flat_map (λ l. l)) (sym (same-lists b l at bare e))) unique)
  ]

pub IsDistinct-nil : {K : Type 0} (eq : K → K → Bool) → IsDistinct eq []
unfolding IsDistinct
IsDistinct-nil eq = tt

contents_with : {E S : Type 0} → List (List E) → Settings S → Bool × Bool → ℕ → List Bool → List (List ℕ) → Contents E S
contents_with ls s r n ws hs = record { lists = ls; settings = s; refused = r; spilled = n; waiting = ws; owed = hs }

-- contents are equal if all their words are equal
pub same-contents : {E S : Type 0} (c d : Contents E S) → lists_of d ≡ lists_of c → settings_of d ≡ settings_of c → notes_of d ≡ notes_of c → overflow_of d ≡ overflow_of c → waiting_of d ≡ waiting_of c → owed_of d ≡ owed_of c → d ≡ c
unfolding lists_of settings_of notes_of overflow_of waiting_of owed_of contents_with
same-contents c d ls s r n ws hs =
    ap (λ z. contents_with z d.settings d.refused d.spilled d.waiting d.owed) ls ∙ ap (λ z. contents_with c.lists z d.refused d.spilled d.waiting d.owed) s ∙ ap (λ z. contents_with c.lists c.settings z d.spilled d.waiting d.owed) r
    ∙ ap (λ z. contents_with c.lists c.settings c.refused z d.waiting d.owed) n ∙ ap (λ z. contents_with c.lists c.settings c.refused c.spilled z d.owed) ws ∙ ap (λ z. contents_with c.lists c.settings c.refused c.spilled c.waiting z) hs

-- a fact that always holds also holds if the result is `Ok`
pub any-ok : {X Y P : Type 0} (r : Result X Y) → P → OnOk r P
any-ok (Ok x) p = p
any-ok (Err y) p = tt
