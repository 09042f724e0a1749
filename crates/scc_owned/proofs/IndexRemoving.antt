-- A removal by key, as a change of the entries of an index.
use Rattle.std.proofs.Common.{Bool, true, false, Option, None, Some, refl, sym, subst, rules}
use Rattle.std.specs.Cmp.{IsEquivalence}
use Rattle.std.specs.Prelude.{IsTrue}
use Rattle.scc_common.specs.Contents.{Contents, entries, IsUniqueBy}
use Rattle.scc_common.specs.Pairs.{FindsInstead, IsUnique}
use Rattle.scc_buckets.proofs.Lookups.{find-position, find-position_none, finds-removed}
use Rattle.scc_buckets.proofs.PairSplits.{without-at}
use Rattle.scc_owned.specs.IndexSteps.{Removes}
use Rattle.scc_table.specs.Arrays.{ShrinksByRule}
use Rattle.scc_table.specs.Places.{index_of}
use Rattle.scc_table.specs.Removals.{RemovesFirst}

module _ {K V S : Type 0} {eq : K → K → Bool} (laws : IsEquivalence eq) (k : K) (c d : Contents (K × V) S) (unique : IsUniqueBy eq (λ (e : K × V). e.0) c) where
  abbrev Step : Option (K × V) → Type 0
  Step r = RemovesFirst eq (λ (e : K × V). e.0) (λ (e : K × V). eq k e.0) c d r

  -- if a version was removed, each clause of a removal that returns true holds
  pub one-step : (x : K × V) → Step (Some x) → Removes eq c k true d
  one-step x (q, found, out) =
      let es = entries c in
      let f = find-position (eq k) es (index_of c q) found.found in
      let h = out.others in
      (rw f.2 (search rules), record { same = rw (without-at laws k es (index_of c q) unique f) h.same; size = h.size; settings = h.settings })

  pub one-finds : (x : K × V) → Step (Some x) → FindsInstead eq (entries c) k None (entries d)
  one-finds x (q, found, out) = finds-removed laws (entries c) (entries d) k (index_of c q) out.others.same unique (find-position (eq k) (entries c) (index_of c q) found.found)

  pub one-unique : (x : K × V) → Step (Some x) → IsUnique eq d
  one-unique x (q, found, out) = out.unique

  pub one-array : (x : K × V) → Step (Some x) → ShrinksByRule (IsTrue true) c d
  one-array x (q, found, out) =
      record {
        smaller = out.smaller;
        due = λ _. out.due;
        noted = (search rules);
        relocates = λ _. record { all = out.all; fewer = out.fewer; less = out.less; waiting = out.waiting };
        waiting = (search rules);
      }

  -- if no key equals k, each clause of a removal that returns false holds
  pub none-step : Step None → Removes eq c k false d
  none-step (missed, stays) = subst (λ (z : Contents (K × V) S). Removes eq c k false z) (sym stays) (find-position_none (eq k) (entries c) missed, record { exact = refl; buckets = refl; settings = refl })

  pub none-unique : Step None → IsUnique eq d
  none-unique (missed, stays) = subst (λ (z : Contents (K × V) S). IsUnique eq z) (sym stays) unique

  pub none-array : Step None → ShrinksByRule (IsTrue false) c d
  none-array (missed, stays) = subst (λ (z : Contents (K × V) S). ShrinksByRule (IsTrue false) c z) (sym stays)
      record {
        smaller = (search rules);
        due = (search rules);
        noted = (search rules);
        relocates = (search rules);
        waiting = (search rules);
      }
