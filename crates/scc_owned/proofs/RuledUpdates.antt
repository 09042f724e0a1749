-- What a call on one key of a map or an index under a rule meets at the pair that it finds.
use Rattle.std.proofs.Common.{◌≡◌, ◌∙◌, Bool, true, Option, None, Some, sym, subst}
use Rattle.std.specs.Borrow.{Bor, MutBor}
use Rattle.std.specs.Fn.{Once}
use Rattle.std.specs.List.{find, slice_get}
use Rattle.std.specs.Prelude.{IfSome}
use Rattle.scc_buckets.specs.declared.place.Place.{Place}
use Rattle.scc_buckets.proofs.Finds.{lookup-find}
use Rattle.scc_common.specs.Contents.{Contents, entries}
use Rattle.scc_common.specs.Pairs.{with_pair_value}
use Rattle.scc_common.specs.Rules.{IsCalledToWrite, WritesKept}
use Rattle.scc_table.specs.Places.{IsFoundAt, index_of}
use Rattle.scc_table.specs.Removals.{RemovesFirst}
use Rattle.scc_table.specs.Updates.{UpdatesFirst}
use Rattle.scc_owned.proofs.Found.{found-equal, found-here}
use Rattle.scc_owned.proofs.RuledPairs.{under}

module _ {K V : Type 0} (eq : K → K → Bool) (holds : K → V → Type 0) (alike : (j k : K) (v : V) → eq j k ≡ true → holds j v → holds k v) (symm : (j k : K) → eq j k ≡ eq k j) where
  -- a pair at which a search for k ends has a key equal to k, and its value may stand under k
  pub met-there : {S : Type 0} (c : Contents (K × V) S) (k : K) (place : Place) → IsFoundAt (λ (e : K × V). eq k e.0) c place → (p : K × V) → slice_get (entries c) (index_of c place) ≡ Some p → holds p.0 p.1 → (eq k p.0 ≡ true) × holds k p.1
  met-there c k place found p got kept = let e = found-equal eq c k place found p got in (e, under eq holds alike symm k p.0 p.1 e kept)

  module _ {F A : Type 0} (g : Once F (Bor K × (MutBor V × Unit {0})) (A × (MutBor V × Unit {0}))) (f : F) (k : K) where
    -- a closure that may be called on such pairs may be called on this one
    pub called-at : IsCalledToWrite eq holds g f k → (p : K × V) → eq k p.0 ≡ true → holds p.0 p.1 → (a : Bor K) (b : MutBor V) → (a.now, b.now) ≡ p → g.pre f (a, (b, tt))
    called-at callable p equal kept a b shows = callable a b (subst (λ (q : K × V). eq k q.0 ≡ true) (sym shows) equal) (subst (λ (q : K × V). holds q.0 q.1) (sym shows) kept) (subst (λ (q : K × V). holds k q.1) (sym shows) (under eq holds alike symm k p.0 p.1 equal kept))

    module _ {S : Type 0} (c d : Contents (K × V) S) where
      -- what an update of the pair of k returns
      pub writes-kept : (r : Option A) → UpdatesFirst g f (λ (p : K × V). p.0) (λ (p : K × V). p.1) with_pair_value (λ (p : K × V). eq k p.0) c d r
          → IfSome r (λ _. (e : K × V) × (find (λ (p : K × V). eq k p.0) (entries c) ≡ Some e) × holds e.0 e.1) → IfSome r (WritesKept eq holds g f k)
      writes-kept None s h = tt
      writes-kept (Some x) (q, e, w, found, got, gave, made) (o, there, kept) =
          let both : Some e ≡ Some o = sym (found-here eq c k q found e got) ∙ lookup-find (eq k) (entries c) ∙ there in
          let same : e ≡ o = cc in
          let own : holds e.0 e.1 = subst (λ (p : K × V). holds p.0 p.1) (sym same) kept in
          let m = met-there c k q found e got own in
          (e, w, m.0, own, m.1, gave)

  module _ {S : Type 0} (c d : Contents (K × V) S) (k : K) (p : K × V) where
    -- the pair of k that a removal takes out
    pub removed-met : RemovesFirst eq (λ (e : K × V). e.0) (λ (e : K × V). eq k e.0) c d (Some p) → holds p.0 p.1 → (eq k p.0 ≡ true) × holds k p.1
    removed-met (q, found, out) kept = met-there c k q found p out.entry kept
