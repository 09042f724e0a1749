-- Removals of a pair that a closure wrote.
use Rattle.std.proofs.Common.{◌≡◌, ℕ, zero, suc, Bool, true, false, List, [], ◌∷◌, None, Some, refl, sym, ap, subst, ◌∙◌}
use Rattle.std.specs.Borrow.{MutBor}
use Rattle.std.specs.Cmp.{IsEquivalence}
use Rattle.std.specs.Fn.{Once, FnOnceReturnsAtMut}
use Rattle.std.specs.List.{remove, slice_get, slice_set, slice_index_or}
use Rattle.scc_common.specs.Contents.{Contents, Settings, entries, bucket_count, list_of, lists_of, settings_of, notes_of}
use Rattle.scc_common.specs.Pairs.{find, with_pair_value, FindsInstead, IsUnique}
use Rattle.scc_array.specs.ShelfWrites.{write_at}
use Rattle.scc_buckets.specs.Writes.{with_write_at_spot}
use Rattle.scc_table.specs.Placed.{spot-with_write_at}
use Rattle.scc_table.specs.Places.{index_of, spot_of, with_write_at}
use Rattle.scc_table.proofs.places.Entries.{value-unique, value-written}
use Rattle.scc_buckets.specs.declared.place.Place.{Place}
use Rattle.scc_buckets.proofs.KeyWrites.{get-write_at}
use Rattle.scc_buckets.proofs.Lookups.{find-position_none}
use Rattle.scc_buckets.proofs.PairSplits.{found-place}
use Rattle.scc_buckets.proofs.PairWrites.{IsPlaceOf}
use Rattle.scc_buckets.proofs.Spots.{place-get}
use Rattle.scc_owned_cache.specs.CacheSteps.{IsFound, IsLacking, TakesAt, TakesThen}
use Rattle.scc_owned_cache.specs.Caches.{Cached}
use Rattle.scc_owned_cache.specs.Lends.{with_value_at}
use Rattle.scc_owned_cache.specs.LookUps.{FindsAfterTest}
use Rattle.scc_owned_cache.proofs.Caching.{found-equal}
use Rattle.scc_owned_cache.proofs.LookUps.{finds-equal, finds-removed-after, finds-written}
use Rattle.scc_owned_cache.proofs.Writing.{written-list}

pub set-twice : {X : Type 0} (xs : List X) (i : ℕ) (x y : X) → slice_set (slice_set xs i x) i y ≡ slice_set xs i y
set-twice [] zero x y = refl
set-twice [] (suc i) x y = refl
set-twice (z ∷ xs) zero x y = refl
set-twice (z ∷ xs) (suc i) x y = ap (λ w. z ∷ w) (set-twice xs i x y)

-- if the element at an index is removed, a write at this index before the removal makes no difference
remove-written : {E X : Type 0} (put : E → X → E) (es : List E) (i : ℕ) (w : X) → remove (write_at put es i w) i ≡ remove es i
remove-written put [] i w = refl
remove-written put (e ∷ es) zero w = refl
remove-written put (e ∷ es) (suc i) w = ap (λ z. e ∷ z) (remove-written put es i w)

module _ {K V S : Type 0} {hash : K → ℕ} {eq : K → K → Bool} (c : Cached (K × V) S) (k : K) (p : Place) (f : IsFound hash eq c.contents k p) where
  pub found-pair : (x : K × V) → slice_get (list_of c.contents (spot_of c.contents p).bucket) (spot_of c.contents p).slot ≡ Some x → x ≡ f.pair
  found-pair x got = let s : Some x ≡ Some f.pair = sym got ∙ f.here in cc

  -- the removed pair has the written value
  pub removed-pair : (w : V) (x : K × V) → slice_get (list_of (with_value_at c p w).contents (spot_of (with_value_at c p w).contents p).bucket) (spot_of (with_value_at c p w).contents p).slot ≡ Some x → x ≡ (f.pair.0, w)
  removed-pair w x got =
      let d = (with_value_at c p w).contents in
      let r = spot_of c.contents p in
      let here = ap (λ l. slice_get l r.slot) (written-list with_pair_value c.contents r f.within w) ∙ get-write_at with_pair_value (list_of c.contents r.bucket) r.slot f.pair w f.here in
      let there : slice_get (list_of d r.bucket) r.slot ≡ Some x = subst (λ (q : Place). slice_get (list_of d q.bucket) q.slot ≡ Some x) (spot-with_write_at with_pair_value c.contents r w p) got in
      let s : Some x ≡ Some (f.pair.0, w) = sym there ∙ here in
      cc

-- a removal of the pair of k after a write of its value is a removal of the pair of k
pub takes-written : {K V S : Type 0} (hash : Settings S → K → ℕ) (eq : K → K → Bool) (c : Cached (K × V) S) (k : K) (p : Place) (f : IsFound (hash (settings_of c.contents)) eq c.contents k p) (w : V) (d : Cached (K × V) S)
    → TakesAt (hash (settings_of (with_value_at c p w).contents)) (with_value_at c p w) p d → TakesThen (hash (settings_of c.contents)) eq c k f.pair d
unfolding bucket_count lists_of list_of settings_of notes_of with_write_at_spot
takes-written hash eq c k p f w d (left, change, shrinks) =
    let ls = c.contents.lists in
    let r = spot_of c.contents p in
    let b = spot_of (with_value_at c p w).contents p in
    let same : b ≡ r = spot-with_write_at with_pair_value c.contents r w p in
    let list = slice_index_or ls r.bucket [] in (
      left,
      record {
        lists = (
          r.slot,
          f.there,
          change.lists ∙ ap (λ (q : Place). slice_set (slice_set ls r.bucket (write_at with_pair_value list r.slot w)) q.bucket (remove (slice_index_or (slice_set ls r.bucket (write_at with_pair_value list r.slot w)) q.bucket []) q.slot)) same
              ∙ ap (λ z. slice_set (slice_set ls r.bucket (write_at with_pair_value list r.slot w)) r.bucket (remove z r.slot)) (written-list with_pair_value c.contents r f.within w)
              ∙ set-twice ls r.bucket _ _ ∙ ap (slice_set ls r.bucket) (remove-written with_pair_value list r.slot w) ∙ ap (λ j. slice_set ls j (remove (slice_index_or ls j []) r.slot)) f.bucket,
        );
        settings = change.settings;
        refused = change.refused;
        maximum = change.maximum;
      },
      shrinks,
    )

module _ {K V S F : Type 0} {hash : K → ℕ} {eq : K → K → Bool} (c : Contents (K × V) S) (k : K) (g : Once F (MutBor V × Unit {0}) (Bool × (MutBor V × Unit {0}))) (x : F) where
  -- what look-ups find after a removal of a key that is missing
  pub tested-missing : IsLacking hash eq c k → FindsAfterTest eq g x (entries c) k (find eq (entries c) k) None (entries c)
  tested-missing l = subst (λ o. FindsAfterTest eq g x (entries c) k o None (entries c)) (sym (find-position_none (eq k) (entries c) l.all)) (refl, λ q. refl)

  module _ (laws : IsEquivalence eq) (p : Place) (f : IsFound hash eq c k p) (u : IsUnique eq c) (w : V) where
    standing : IsPlaceOf eq (entries c) k (index_of c p)
    standing = found-place laws k (entries c) (index_of c p) f.pair u (place-get c (spot_of c p) f.within f.pair f.here) (found-equal hash eq c k p f.pair f f.here)

    standing-pair : standing.0 ≡ f.pair
    standing-pair = let s : Some standing.0 ≡ Some f.pair = sym standing.1 ∙ place-get c (spot_of c p) f.within f.pair f.here in cc

    abbrev Written : Contents (K × V) S
    Written = with_write_at with_pair_value c p w

    rewritten : FindsInstead eq (entries c) k (Some (f.pair.0, w)) (entries Written)
    rewritten = subst (λ q. FindsInstead eq (entries c) k (Some (q.0, w)) (entries Written)) standing-pair
        (finds-written laws (entries c) (entries Written) k (index_of c p) w u standing (value-written laws c p f.within k u standing w).exact (value-unique laws c p f.within k u standing w))

    here : find eq (entries c) k ≡ Some f.pair
    here = standing.2 ∙ ap (λ q. Some q) standing-pair

    -- what look-ups find if the closure returned false and left w
    pub tested-kept : FnOnceReturnsAtMut g x f.pair.1 false w → FindsAfterTest eq g x (entries c) k (find eq (entries c) k) None (entries Written)
    tested-kept met = subst (λ o. FindsAfterTest eq g x (entries c) k o None (entries Written)) (sym here) (w, met, rewritten)

    -- what look-ups find if the closure returned true and left w, and q was removed
    pub tested-removed : FnOnceReturnsAtMut g x f.pair.1 true w → (q : K × V) → q ≡ (f.pair.0, w) → (d : Contents (K × V) S) → FindsInstead eq (entries Written) q.0 None (entries d) → FindsAfterTest eq g x (entries c) k (find eq (entries c) k) (Some q) (entries d)
    tested-removed met q is d gone =
        let same : eq k f.pair.0 ≡ true = found-equal hash eq c k p f.pair f f.here in
        let taken : FindsInstead eq (entries Written) f.pair.0 None (entries d) = subst (λ z. FindsInstead eq (entries Written) z None (entries d)) (ap (λ z. z.0) is) gone in
        let none = finds-removed-after laws (entries c) (entries Written) (entries d) k (Some (f.pair.0, w)) rewritten (finds-equal laws (entries Written) (entries d) k f.pair.0 same taken) in
        subst (λ o. FindsAfterTest eq g x (entries c) k o (Some q) (entries d)) (sym here)
        (subst (λ z. FindsAfterTest eq g x (entries c) k (Some f.pair) (Some z) (entries d)) (sym is) (refl, met, none))
