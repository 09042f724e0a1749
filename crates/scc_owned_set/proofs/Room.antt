-- The map's words about room say of pairs what the set's words say of keys.
use Rattle.std.proofs.Common.{◌≡◌, ℕ, Bool, inl, inr, map, sym, ap, subst, ◌∙◌}
use Rattle.std.proofs.lemmas.Result.{on_err_weaker, on_ok_weaker}
use Rattle.std.specs.Prelude.{Result}
use Rattle.std.specs.Hash.{HashWrites}
use Rattle.std.specs.declared.hash.Hasher as hasher
use Rattle.std.specs.declared.hash.BuildHasher as builder
use Rattle.scc_common.specs.Contents.{Contents, entries, lists_of, key_hash}
use Rattle.scc_common.specs.Mapped.{mapped}
use Rattle.scc_common.specs.Pairs.{find as find_pair}
use Rattle.scc_common.specs.Steps.{IsPreparedFor, Prepares, IsGrowthDue}
use Rattle.scc_buckets.proofs.Mapped.{Rests-mapped, Grows-mapped, HasRoomBy-mapped, HasRoomBy-from_mapped}
use Rattle.scc_table.specs.Marks.{MarksPreparation}
use Rattle.scc_owned.specs.Rooms.{MakesRoom}
use Rattle.scc_owned_set.specs.Keys.{find, of_map}
use Rattle.scc_owned_set.proofs.Sets.{found-is, found-none, hash-same, none-found, shows, waiting-keys}

pub lists-keys : {K S : Type 0} (c d : Contents (K × Unit {0}) S) → lists_of d ≡ lists_of c → lists_of (of_map d) ≡ lists_of (of_map c)
unfolding mapped lists_of
lists-keys c d e = ap (λ ls. map (λ l. map (λ p. p.0) l) ls) e

module _ {K S : Type 0} (hash : K → ℕ) (k : K) where
  -- if an insertion is prepared in the map, it is prepared in the set
  ready-keys : (c : Contents (K × Unit {0}) S) → IsPreparedFor hash (λ p. p.0) c k → IsPreparedFor hash (λ q. q) (of_map c) k
  ready-keys c h =
      let s = shows c in (
        rw s.buckets h.0,
        elim h.1 [
          | inl room ↦ inl (HasRoomBy-mapped (λ (p : K × Unit {0}). p.0) (λ q. q) hash c k room)
          | inr rest ↦ inr (rw (s.pending, s.length, s.buckets, s.refused) rest)
        ],
      )

  -- if an insertion is prepared in the set, it is prepared in the map
  pub ready-pairs : (c : Contents (K × Unit {0}) S) → IsPreparedFor hash (λ q. q) (of_map c) k → IsPreparedFor hash (λ (p : K × Unit {0}). p.0) c k
  ready-pairs c h =
      let s = shows c in (
        rw s.buckets at h.0,
        elim h.1 [
          | inl room ↦ inl (HasRoomBy-from_mapped (λ (p : K × Unit {0}). p.0) (λ q. q) hash c k room)
          | inr rest ↦ inr (rw (s.pending, s.length, s.buckets, s.refused) at rest)
        ],
      )

  -- a preparation in the map is a preparation in the set
  pub room-keys : (c d : Contents (K × Unit {0}) S) → Prepares hash (λ p. p.0) c (hash k) d → Prepares hash (λ q. q) (of_map c) (hash k) (of_map d)
  room-keys c d h =
      let f : K × Unit {0} → K = λ p. p.0 in
      let s = shows c in
      let t = shows d in
      record {
        rests = Rests-mapped f c d h.rests;
        growth = Grows-mapped f c d h.growth;
        made = ready-keys d h.made;
        due = λ ne room. h.due (λ e. ne (t.buckets ∙ e ∙ sym s.buckets)) (HasRoomBy-from_mapped f (λ q. q) hash c k room);
        all = rw (s.buckets, t.buckets, t.pending) h.all;
        first = rw (s.buckets, t.pending) h.first;
        same = λ some e. let r = h.same (rw s.buckets at some) (sym t.buckets ∙ e ∙ s.buckets) in (lists-keys c d r.0, waiting-keys c d r.1);
      }

  -- if a growth is due in the map, it is due in the set
  due-keys : (c : Contents (K × Unit {0}) S) → IsGrowthDue hash (λ (p : K × Unit {0}). p.0) c (hash k) → IsGrowthDue hash (λ q. q) (of_map c) (hash k)
  due-keys c h =
      let s = shows c in
      record {
        array = rw s.buckets h.array;
        not_waiting = s.pending ∙ h.not_waiting;
        full = λ room. h.full (HasRoomBy-from_mapped (λ (p : K × Unit {0}). p.0) (λ q. q) hash c k room);
        half = rw (s.buckets, s.length) h.half;
        below = rw s.buckets h.below;
      }

  -- if a growth is due in the set, it is due in the map
  due-pairs : (c : Contents (K × Unit {0}) S) → IsGrowthDue hash (λ q. q) (of_map c) (hash k) → IsGrowthDue hash (λ (p : K × Unit {0}). p.0) c (hash k)
  due-pairs c h =
      let s = shows c in
      record {
        array = rw s.buckets at h.array;
        not_waiting = sym s.pending ∙ h.not_waiting;
        full = λ room. h.full (HasRoomBy-mapped (λ (p : K × Unit {0}). p.0) (λ q. q) hash c k room);
        half = rw (s.buckets, s.length) at h.half;
        below = rw s.buckets at h.below;
      }

  -- the set's note and mark change as the map's note and mark change
  pub marks-keys : (c d : Contents (K × Unit {0}) S) → MarksPreparation hash (λ (p : K × Unit {0}). p.0) c (hash k) d → MarksPreparation hash (λ q. q) (of_map c) (hash k) (of_map d)
  marks-keys c d h =
      let s = shows c in
      let t = shows d in
      record {
        stays = λ none. t.refused ∙ h.stays (λ due. none (due-keys c due)) ∙ sym s.refused;
        grown = λ some ne. t.refused ∙ h.grown (rw s.buckets at some) (λ e. ne (t.buckets ∙ e ∙ sym s.buckets));
        denied = λ due same. t.refused ∙ h.denied (due-pairs c due) (sym t.buckets ∙ same ∙ s.buckets);
        once = λ some tried. t.buckets ∙ h.once (rw s.buckets at some) (rw s.refused at tried) ∙ sym s.buckets;
        marked = rw (s.refused, t.refused) h.marked;
      }

module _ {K S T : Type 0} (build : builder.Ghosts S T) (feed : hasher.Ghosts T) (input : K → HashWrites) (c : Contents (K × Unit {0}) S) (k : K) where
  pub ready-hashed : IsPreparedFor (key_hash build feed input (of_map c)) (λ q. q) (of_map c) k → IsPreparedFor (key_hash build feed input c) (λ (p : K × Unit {0}). p.0) c k
  ready-hashed h = ready-pairs (key_hash build feed input c) k c (subst (λ (hash : K → ℕ). IsPreparedFor hash (λ q. q) (of_map c) k) (hash-same build feed input c) h)

  pub room-hashed : (d : Contents (K × Unit {0}) S) → Prepares (key_hash build feed input c) (λ (p : K × Unit {0}). p.0) c (key_hash build feed input c k) d
      → Prepares (key_hash build feed input (of_map c)) (λ q. q) (of_map c) (key_hash build feed input (of_map c) k) (of_map d)
  room-hashed d h = subst (λ (hash : K → ℕ). Prepares hash (λ q. q) (of_map c) (hash k) (of_map d)) (sym (hash-same build feed input c)) (room-keys (key_hash build feed input c) k c d h)

  pub marks-hashed : (d : Contents (K × Unit {0}) S) → MarksPreparation (key_hash build feed input c) (λ (p : K × Unit {0}). p.0) c (key_hash build feed input c k) d
      → MarksPreparation (key_hash build feed input (of_map c)) (λ q. q) (of_map c) (key_hash build feed input (of_map c) k) (of_map d)
  marks-hashed d h = subst (λ (hash : K → ℕ). MarksPreparation hash (λ q. q) (of_map c) (hash k) (of_map d)) (sym (hash-same build feed input c)) (marks-keys (key_hash build feed input c) k c d h)

  -- room that is made in the map is made in the set
  pub makes-hashed : {X R : Type 0} (eq : K → K → Bool) (result : Result X R) (d : Contents (K × Unit {0}) S) → MakesRoom (key_hash build feed input c) (λ (p : K × Unit {0}). p.0) (find_pair eq (entries c) k) c k result d
      → MakesRoom (key_hash build feed input (of_map c)) (λ q. q) (find eq (entries (of_map c)) k) (of_map c) k result (of_map d)
  makes-hashed eq result d h = record {
    present = λ there. let p = h.present (found-is eq c k there) in (p.0, ap of_map p.1);
    ok = λ none. on_ok_weaker result (room-hashed d) (h.ok (none-found eq c k none));
    marks = λ none. marks-hashed d (h.marks (none-found eq c k none));
    err = on_err_weaker result (λ e. (found-none eq c k e.0, (shows c).buckets ∙ e.1)) h.err;
    same = on_err_weaker result (ap of_map) h.same;
    settings = (shows d).settings ∙ h.settings ∙ sym (shows c).settings;
  }
