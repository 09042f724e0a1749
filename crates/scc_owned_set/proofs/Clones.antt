-- Clones of pairs with unit values are clones of their keys.
use Rattle.std.proofs.Common.{◌≡◌, Bool, List, [], ◌∷◌, Option, None, Some, MatchOption, ap}
use Rattle.std.specs.List.{AllZip}
use Rattle.std.specs.Map.{keys_of}
use Rattle.std.specs.Option.{IsSomeAnd}
use Rattle.std.proofs.lemmas.List.Sorted.{IsPermutation-map}
use Rattle.scc_common.specs.Clones.{HasClones}
use Rattle.scc_common.specs.Contents.{Contents, entries}
use Rattle.scc_common.specs.Pairs.{find as find_pair}
use Rattle.scc_buckets.proofs.Mapped.{entries-mapped, bucket_count-mapped, settings_of-mapped}
use Rattle.scc_owned.specs.Collections as pairs
use Rattle.scc_owned_set.specs.Collections.{FindsClones}
use Rattle.scc_owned_set.specs.Keys.{of_map}
use Rattle.scc_owned_set.proofs.Sets.{found, key_alone}

module _ {K : Type 0} (C : K → K → Type 0) (D : K × Unit {0} → K × Unit {0} → Type 0) (one : (p q : K × Unit {0}) → D p q → C p.0 q.0) where
  zip-keys : (es fs : List (K × Unit {0})) → AllZip D es fs → AllZip C (keys_of es) (keys_of fs)
  zip-keys [] [] h = h
  zip-keys [] (f ∷ fs) h = h
  zip-keys (e ∷ es) [] h = h
  zip-keys (e ∷ es) (f ∷ fs) h = (one e f h.0, zip-keys es fs h.1)

  some-clone : (q : K × Unit {0}) (p : Option (K × Unit {0})) → IsSomeAnd p (D q) → IsSomeAnd (key_alone p) (C q.0)
  some-clone q None h = h
  some-clone q (Some p) h = one q p h

  clone-found : (o p : Option (K × Unit {0})) → MatchOption o (p ≡ None) (λ x. IsSomeAnd p (D x)) → MatchOption (key_alone o) (key_alone p ≡ None) (λ q. IsSomeAnd (key_alone p) (C q))
  clone-found None p h = ap key_alone h
  clone-found (Some x) p h = some-clone x p h

  pub clones-keys : {S : Type 0} (B : S → S → Type 0) (c d : Contents (K × Unit {0}) S) → HasClones D B c d → HasClones C B (of_map c) (of_map d)
  clones-keys B c d h =
      let f : K × Unit {0} → K = λ p. p.0 in
      record {
        copies = keys_of h.copies;
        cloned = rw (entries-mapped f c) (zip-keys (entries c) h.copies h.cloned);
        same = rw (entries-mapped f d) (IsPermutation-map f h.copies (entries d) h.same);
        buckets = rw (bucket_count-mapped f c, bucket_count-mapped f d) h.buckets;
        hasher = rw (settings_of-mapped f c, settings_of-mapped f d) h.hasher;
        skipped = rw (settings_of-mapped f c, settings_of-mapped f d) h.skipped;
        asked = rw (settings_of-mapped f d, bucket_count-mapped f c) h.asked;
        reserved = rw (settings_of-mapped f d) h.reserved;
      }

  pub finds-clones-keys : {S : Type 0} (eq : K → K → Bool) (c d : Contents (K × Unit {0}) S) → pairs.FindsClones eq D (entries c) (entries d) → FindsClones eq C (entries (of_map c)) (entries (of_map d))
  finds-clones-keys eq c d h = record { finds = λ k. rw (found eq c k, found eq d k) (clone-found (find_pair eq (entries c) k) (find_pair eq (entries d) k) (h.finds k)) }
