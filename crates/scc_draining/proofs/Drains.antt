-- The old buckets: the entries of a target are taken out of one bucket after the other.
use Rattle.std.proofs.Common.{◌≡◌, ◌==◌, ℕ, suc, ◌+◌, ◌<◌, ◌≤◌, ◌≢◌, inl, inr, List, [], ◌∷◌, ◌++◌, length, take, drop, refl, sym, ap, ◌∙◌, subst, arith, length-append, length-set, length-take, append_assoc, get_or-set_other, get_or-take, get_or-drop}
use Rattle.std.specs.List.{flat_map}
use Rattle.std.proofs.lemmas.List.{append-nil, drop_more, take_more, take-append-drop, get_or_past}
use Rattle.std.proofs.lemmas.List.Concat.{flat_map-append}
use native.Mathlib.Decide.{dec_lt}
use Rattle.scc_array.specs.Shelves.{shelf_of}
use Rattle.scc_array.specs.Shelf.{Shelf, shelf_entries, empty_shelf}
use Rattle.scc_buckets.specs.Pour.{destined_for, Extends, IsPacked}
use Rattle.scc_common.specs.Routing.{bucket_number}
use Rattle.scc_buckets.specs.Tables.{IsOwn}
use Rattle.scc_buckets.proofs.PairSplits.{by_answer}
use Rattle.scc_buckets.proofs.Pours.{destined_append}
use Rattle.scc_draining.specs.Moves.{AreOwn, Drains, IsWithinSources, Pulls, others_for}

-- if no entry belongs to the bucket, all entries are others
pub others-all : {E : Type 0} (hash : E → ℕ) (t n i : ℕ) (es : List E) → destined_for hash t n i es ≡ [] → others_for hash t n i es ≡ es
others-all hash t n i [] h = refl
others-all hash t n i (e ∷ es) h =
    by_answer (bucket_number t n (hash e) == i) (λ q. absurd (let z = rw q at h in cc)) (λ q. let z = rw q at h in rw q (ap (λ r. e ∷ r) (others-all hash t n i es z)))

destined-flat_none : {E : Type 0} (hash : E → ℕ) (t n i : ℕ) (bs : List (Shelf E)) → ((j : ℕ) → destined_for hash t n i (shelf_entries (shelf_of bs j)) ≡ []) → destined_for hash t n i (flat_map shelf_entries bs) ≡ []
destined-flat_none hash t n i [] f = refl
destined-flat_none hash t n i (b ∷ bs) f =
    destined_append hash t n i (shelf_entries b) (flat_map shelf_entries bs) ∙ ap (λ z. z ++ destined_for hash t n i (flat_map shelf_entries bs)) (f 0) ∙ destined-flat_none hash t n i bs (λ j. f (suc j))

pub flat-parts : {E : Type 0} (m : ℕ) (bs : List (Shelf E)) → flat_map shelf_entries bs ≡ flat_map shelf_entries (take m bs) ++ flat_map shelf_entries (drop m bs)
flat-parts m bs = ap (flat_map shelf_entries) (sym (take-append-drop m bs)) ∙ flat_map-append shelf_entries (take m bs) (drop m bs)

pub flat-more : {E : Type 0} (m : ℕ) (bs : List (Shelf E)) → m < length bs → flat_map shelf_entries (take (m + 1) bs) ≡ flat_map shelf_entries (take m bs) ++ shelf_entries (shelf_of bs m)
flat-more m bs l =
    ap (flat_map shelf_entries) (take_more bs m empty_shelf l) ∙ flat_map-append shelf_entries (take m bs) (shelf_of bs m ∷ []) ∙ ap (λ z. flat_map shelf_entries (take m bs) ++ z) (append-nil (shelf_entries (shelf_of bs m)))

pub flat-left : {E : Type 0} (m : ℕ) (bs : List (Shelf E)) → m < length bs → flat_map shelf_entries (drop m bs) ≡ shelf_entries (shelf_of bs m) ++ flat_map shelf_entries (drop (m + 1) bs)
flat-left m bs l = ap (flat_map shelf_entries) (drop_more bs m empty_shelf l)

extends-both : {E : Type 0} (hash : E → ℕ) (a b c : Shelf E) (xs ys : List E) → Extends hash a b xs → Extends hash b c ys → Extends hash a c (xs ++ ys)
extends-both hash a b c xs ys p q = record {
  entries_are = q.entries_are ∙ ap (λ z. z ++ ys) p.entries_are ∙ append_assoc (shelf_entries a) xs ys;
  room = omega (arith, p.room, q.room);
  packed = q.packed;
}

-- the old buckets before m were looked at
pub record DrainsUntil {E : Type 0} (hash : E → ℕ) (t n i : ℕ) (olds : List (Shelf E)) (a : Shelf E) (news : List (Shelf E)) (b : Shelf E) (m : ℕ) : Type 0 where
  pub count : length news ≡ length olds
  pub done : (j : ℕ) → j < m → shelf_entries (shelf_of news j) ≡ others_for hash t n i (shelf_entries (shelf_of olds j))
  pub left : (j : ℕ) → m ≤ j → shelf_of news j ≡ shelf_of olds j
  pub own : (j : ℕ) → j < length olds → IsOwn hash t (length olds) j (shelf_of news j)
  pub overflow : (j : ℕ) → length (shelf_of news j).overflow ≤ length (shelf_of olds j).overflow
  pub moved : Extends hash a b (destined_for hash t n i (flat_map shelf_entries (take m olds)))

module _ {E : Type 0} (hash : E → ℕ) (t n i first last : ℕ) (olds : List (Shelf E)) (sources : IsWithinSources hash t n i first last olds) (a : Shelf E) where
  pub before-none : destined_for hash t n i (flat_map shelf_entries (take first olds)) ≡ []
  before-none = destined-flat_none hash t n i (take first olds) (λ j. elim (dec_lt j first) [
    | yes q ↦ ap (λ z. destined_for hash t n i (shelf_entries z)) (get_or-take first olds j empty_shelf q) ∙ sources.none j (inl q)
    | no q ↦ ap (λ z. destined_for hash t n i (shelf_entries z)) (get_or_past (take first olds) j empty_shelf (omega (arith, length-take first olds)))
  ])

  after-none : destined_for hash t n i (flat_map shelf_entries (drop last olds)) ≡ []
  after-none = destined-flat_none hash t n i (drop last olds) (λ j. ap (λ z. destined_for hash t n i (shelf_entries z)) (get_or-drop last olds j empty_shelf) ∙ sources.none (last + j) (inr (omega arith)))

  -- the target's entries in the buckets before `last` are all of the target's entries
  pub take-all_bound : destined_for hash t n i (flat_map shelf_entries (take last olds)) ≡ destined_for hash t n i (flat_map shelf_entries olds)
  take-all_bound =
      sym (ap (destined_for hash t n i) (flat-parts last olds) ∙ destined_append hash t n i (flat_map shelf_entries (take last olds)) (flat_map shelf_entries (drop last olds))
      ∙ ap (λ z. destined_for hash t n i (flat_map shelf_entries (take last olds)) ++ z) after-none ∙ append-nil (destined_for hash t n i (flat_map shelf_entries (take last olds))))

  pub drain-start : AreOwn hash t olds → IsPacked hash a → DrainsUntil hash t n i olds a olds a first
  drain-start own packed = record {
    count = refl;
    done = λ j q. sym (others-all hash t n i (shelf_entries (shelf_of olds j)) (sources.none j (inl q)));
    left = λ j q. refl;
    own = own.own;
    overflow = λ j. omega arith;
    moved = record { entries_are = sym (ap (λ z. shelf_entries a ++ z) before-none ∙ append-nil (shelf_entries a)); room = omega arith; packed = packed };
  }

  module _ (news : List (Shelf E)) (b : Shelf E) where
    pub drain-end : DrainsUntil hash t n i olds a news b last → Drains hash t n i olds a news b
    drain-end p =
        record {
          count = p.count;
          kept = λ j l. elim (dec_lt j last) [
            | yes q ↦ p.done j q
            | no q ↦ ap shelf_entries (p.left j (omega arith)) ∙ sym (others-all hash t n i (shelf_entries (shelf_of olds j)) (sources.none j (inr (omega arith))))
          ];
          own = record { own = λ j l. let q : j < length olds = omega (arith, p.count) in subst (λ m. IsOwn hash t m j (shelf_of news j)) (sym p.count) (p.own j q) };
          overflow = p.overflow;
          moved = subst (λ z. Extends hash a b z) take-all_bound p.moved;
        }

    module _ (m : ℕ) (p : DrainsUntil hash t n i olds a news b m) (l : m < last) where
      pub drain-room : length (shelf_entries a) + length (destined_for hash t n i (flat_map shelf_entries olds)) ≤ 32 + a.room → length (shelf_entries b) + length (destined_for hash t n i (shelf_entries (shelf_of news m))) ≤ 32 + b.room
      drain-room room =
          let q : m < length olds = omega (arith, sources.within) in
          let xs = destined_for hash t n i (flat_map shelf_entries (take m olds)) in
          let ys = destined_for hash t n i (shelf_entries (shelf_of olds m)) in
          let zs = destined_for hash t n i (flat_map shelf_entries (drop (m + 1) olds)) in
          let here : length (destined_for hash t n i (shelf_entries (shelf_of news m))) ≡ length ys = ap (λ z. length (destined_for hash t n i (shelf_entries z))) (p.left m (omega arith)) in
          let split : destined_for hash t n i (flat_map shelf_entries olds) ≡ xs ++ (ys ++ zs) =
          ap (destined_for hash t n i) (flat-parts m olds) ∙ destined_append hash t n i (flat_map shelf_entries (take m olds)) (flat_map shelf_entries (drop m olds))
          ∙ ap (λ z. xs ++ z) (ap (destined_for hash t n i) (flat-left m olds q) ∙ destined_append hash t n i (shelf_entries (shelf_of olds m)) (flat_map shelf_entries (drop (m + 1) olds))) in
          let n1 : length (destined_for hash t n i (flat_map shelf_entries olds)) ≡ length xs + length (ys ++ zs) = ap length split ∙ length-append xs (ys ++ zs) in
          let n2 : length (ys ++ zs) ≡ length ys + length zs = length-append ys zs in
          let n3 : length (shelf_entries b) ≡ length (shelf_entries a) + length xs = ap length p.moved.entries_are ∙ length-append (shelf_entries a) xs in
          omega (arith, p.moved.room)

      module _ (later : List (Shelf E)) (c : Shelf E) (pulls : Pulls hash t n i m news b later c) where
        other : (j : ℕ) → j ≢ m → shelf_of later j ≡ shelf_of news j
        other j ne = ap (λ z. shelf_of z j) pulls.same ∙ get_or-set_other news m j (shelf_of later m) empty_shelf ne

        pub drain-step : DrainsUntil hash t n i olds a later c (m + 1)
        drain-step =
            let q : m < length olds = omega (arith, sources.within) in
            let were = p.left m (omega arith) in
            let one : destined_for hash t n i (flat_map shelf_entries (take (m + 1) olds)) ≡ destined_for hash t n i (flat_map shelf_entries (take m olds)) ++ destined_for hash t n i (shelf_entries (shelf_of news m)) =
            ap (destined_for hash t n i) (flat-more m olds q) ∙ destined_append hash t n i (flat_map shelf_entries (take m olds)) (shelf_entries (shelf_of olds m))
            ∙ ap (λ z. destined_for hash t n i (flat_map shelf_entries (take m olds)) ++ destined_for hash t n i (shelf_entries z)) (sym were) in
            record {
              count = ap length pulls.same ∙ length-set news m (shelf_of later m) ∙ p.count;
              done = λ j r. elim (dec_lt j m) [
                | yes z ↦ ap shelf_entries (other j (omega arith)) ∙ p.done j z
                | no z ↦ let same : j ≡ m = omega arith in rw same (pulls.kept ∙ ap (λ x. others_for hash t n i (shelf_entries x)) were)
              ];
              left = λ j r. other j (omega arith) ∙ p.left j (omega arith);
              own = λ j r. elim (dec_lt j m) [
                | yes z ↦ subst (IsOwn hash t (length olds) j) (sym (other j (omega arith))) (p.own j r)
                | no z ↦ elim (dec_lt m j) [
                  | yes y ↦ subst (IsOwn hash t (length olds) j) (sym (other j (omega arith))) (p.own j r)
                  | no y ↦ let same : j ≡ m = omega arith in rw same (subst (λ k. IsOwn hash t k m (shelf_of later m)) p.count pulls.own)
                ]
              ];
              overflow = λ j. elim (dec_lt j m) [
                | yes z ↦ let e = ap (λ x. length x.overflow) (other j (omega arith)) in let o = p.overflow j in omega arith
                | no z ↦ elim (dec_lt m j) [
                  | yes y ↦ let e = ap (λ x. length x.overflow) (other j (omega arith)) in let o = p.overflow j in omega arith
                  | no y ↦ let same : j ≡ m = omega arith in rw same (let o = p.overflow m in omega (arith, pulls.overflow))
                ]
              ];
              moved = subst (λ z. Extends hash a c z) (sym one) (extends-both hash a b c (destined_for hash t n i (flat_map shelf_entries (take m olds))) (destined_for hash t n i (shelf_entries (shelf_of news m))) p.moved pulls.moved);
            }
